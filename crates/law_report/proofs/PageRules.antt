-- The errors that pages show by themselves can be listed.
use Rattle.std.proofs.Common.{◌≡◌, ℕ, ◌+◌, ◌%◌, ◌<◌, List, Bool, true, false, nat_lt, Some, None, cond, refl}
use Rattle.std.proofs.lemmas.Bool.{ltb-true}
use Rattle.spec_file.specs.declared.geometry.Geometry.{Geometry}
use Rattle.spec_file.specs.Image.{Image, page}
use Rattle.spec_file.specs.Kinds.{is_clustered}
use Rattle.spec_file.specs.CatalogRows.{CatalogRow}
use Rattle.spec_file.specs.Roles.{is_ordinary}
use Rattle.spec_chain.specs.Uses.{pfs_byte}
use Rattle.spec_rows.specs.Rows.{row_key}
use Rattle.spec_rows.specs.Slots.{slot_count, page_row}
use Rattle.spec_check.specs.Pages.{wrong_byte}
use Rattle.spec_tables.specs.Heads.{key_at}
use Rattle.spec_tables.specs.PageRules.{not_ordinary, fault_error, wrong_order, HasFault, HasWrongOrder, fullness_in, HasWrongFullness, IsErrorOn, IsErrorOf, IsPageError}
use Rattle.law_report.proofs.Decisions.{dec_and, dec_true, dec_false, dec_ne, dec_le}
use Rattle.law_report.proofs.Listings.{Listing, like, one, either, when, among, numbers, there_may_be}
use Rattle.law_report.proofs.Chains.{objects}
use Rattle.law_report.proofs.Uses.{allocated}
use Rattle.law_report.proofs.PageTests.{dec_passes, first_faults}

faults : (row : CatalogRow) (p : ℕ) (bytes : List ℕ) → Listing (HasFault row p bytes)
faults row p bytes = like
    (among (first_faults p row.id row.kind bytes) (λ f is. one (fault_error row.id p f)))
    (λ x h. record { fault = h.0; first = h.1; is = h.2 }) (λ x h. (h.fault, h.first, h.is))

test_passed : (b : Bool) (x y : ℕ) → cond b (Some x) None ≡ Some y → b ≡ true
test_passed true x y h = refl
test_passed false x y h = absurd (cc)

key_within : (bytes : List ℕ) (i key : ℕ) → key_at bytes i ≡ Some key → i < slot_count bytes
key_within bytes i key h = ltb-true i (slot_count bytes) (test_passed (nat_lt i (slot_count bytes)) (row_key (page_row bytes i)) key h)

wrong_orders : (row : CatalogRow) (p : ℕ) (bytes : List ℕ) → Listing (HasWrongOrder row p bytes)
wrong_orders row p bytes = like
    (when (dec_and (dec_true (is_clustered row.kind)) (dec_passes p row.id row.kind bytes))
    (among (numbers (slot_count bytes)) (λ i within. among (there_may_be (key_at bytes i)) (λ low first. among (there_may_be (key_at bytes (i + 1))) (λ key second.
    when (dec_le key low) (one (wrong_order row.id p (i + 1) key)))))))
    (λ x h. record {
      before = h.1.0;
      low = h.1.2.0;
      key = h.1.2.2.0;
      clustered = h.0.0;
      passes = h.0.1;
      first = h.1.2.1;
      second = h.1.2.2.1;
      falls = h.1.2.2.2.0;
      is = h.1.2.2.2.1;
    })
    (λ x h. ((h.clustered, h.passes), (h.before, key_within bytes h.before h.low h.first, (h.low, h.first, (h.key, h.second, (h.falls, h.is))))))

wrong_fullness : (row : CatalogRow) (p pfs : ℕ) (bytes : List ℕ) → Listing (HasWrongFullness row p pfs bytes)
wrong_fullness row p pfs bytes = like
    (when (dec_and (dec_passes p row.id row.kind bytes) (dec_ne (pfs % 8) (fullness_in row.kind bytes))) (one (wrong_byte 8914 row.id p pfs)))
    (λ x h. record { passes = h.0.0; differs = h.0.1; is = h.1 }) (λ x h. ((h.passes, h.differs), h.is))

errors_on : (row : CatalogRow) (p pfs : ℕ) (bytes : List ℕ) → Listing (IsErrorOn row p pfs bytes)
errors_on row p pfs bytes = either (faults row p bytes) (either (wrong_orders row p bytes) (wrong_fullness row p pfs bytes))

errors_of : (g : Geometry) (image : Image) (row : CatalogRow) (p : ℕ) → Listing (IsErrorOf g image row p)
errors_of g image row p = either (when (dec_false (is_ordinary g p)) (one (not_ordinary row.id p)))
    (when (dec_true (is_ordinary g p)) (errors_on row p (pfs_byte g image p) (page image p)))

pub page_errors : (g : Geometry) (image : Image) → Listing (IsPageError g image)
page_errors g image = like
    (among (objects image) (λ row object. among (allocated g image row) (λ p is. errors_of g image row p)))
    (λ x h. record { row = h.0; number = h.2.0; object = h.1; allocated = h.2.1; is = h.2.2 })
    (λ x h. (h.row, h.object, (h.number, h.allocated, h.is)))
