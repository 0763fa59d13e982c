-- What is known of the pages of an image can be listed.
use Rattle.spec_file.specs.declared.geometry.Geometry.{Geometry}
use Rattle.spec_file.specs.Image.{Image, page}
use Rattle.spec_file.specs.Kinds.{is_clustered}
use Rattle.spec_file.specs.CatalogRows.{CatalogRow}
use Rattle.spec_file.specs.Roles.{is_ordinary}
use Rattle.spec_tables.specs.Seen.{IsSeen}
use Rattle.spec_tables.specs.Heads.{head_of, link_of, index_row, index_rows}
use Rattle.spec_tables.specs.KnownPages.{root_of, IsRootIn, IsHeadIn, IsLinkIn, IsIndexRowIn}
use Rattle.law_report.proofs.Decisions.{dec_and, dec_true}
use Rattle.law_report.proofs.Listings.{Listing, like, one, when, among, such, numbers}
use Rattle.law_report.proofs.Chains.{objects}
use Rattle.law_report.proofs.Uses.{allocated}
use Rattle.law_report.proofs.PageTests.{dec_passes}

pub seen : (g : Geometry) (image : Image) (row : CatalogRow) → Listing (IsSeen g image row)
seen g image row = like
    (such (allocated g image row) (λ p is. dec_and (dec_true (is_ordinary g p)) (dec_passes p row.id row.kind (page image p))))
    (λ p h. record { allocated = h.0; ordinary = h.1.0; passes = h.1.1 }) (λ p h. (h.allocated, (h.ordinary, h.passes)))

pub roots : (image : Image) → Listing (IsRootIn image)
roots image = like
    (among (objects image) (λ row object. when (dec_true (is_clustered row.kind)) (one (root_of row))))
    (λ root h. record { row = h.0; object = h.1; clustered = h.2.0; is = h.2.1 }) (λ root h. (h.row, h.object, (h.clustered, h.is)))

pub heads : (g : Geometry) (image : Image) → Listing (IsHeadIn g image)
heads g image = like
    (among (objects image) (λ row object. among (seen g image row) (λ p is. one (head_of row.id p (page image p)))))
    (λ s h. record { row = h.0; number = h.2.0; object = h.1; seen = h.2.1; is = h.2.2 })
    (λ s h. (h.row, h.object, (h.number, h.seen, h.is)))

pub links : (g : Geometry) (image : Image) → Listing (IsLinkIn g image)
links g image = like
    (among (heads g image) (λ s is. one (link_of s)))
    (λ l h. record { head = h.0; known = h.1; is = h.2 }) (λ l h. (h.head, h.known, h.is))

pub rows : (g : Geometry) (image : Image) → Listing (IsIndexRowIn g image)
rows g image = like
    (among (objects image) (λ row object. among (seen g image row) (λ p is. among (numbers (index_rows (page image p))) (λ i low.
    one (index_row row.id p (page image p) i)))))
    (λ c h. record { row = h.0; number = h.2.0; slot = h.2.2.0; object = h.1; seen = h.2.1; stands = h.2.2.1; is = h.2.2.2 })
    (λ c h. (h.row, h.object, (h.number, h.seen, (h.slot, h.stands, h.is))))
