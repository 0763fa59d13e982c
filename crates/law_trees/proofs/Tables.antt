-- A clustered table of the catalog with the pages seen of it, where each object has a list of the pages seen of it.
use Rattle.std.proofs.Common.{◌≡◌, IsTrue, ℕ, List, refl, inr}
use Rattle.spec_file.specs.declared.geometry.Geometry.{Geometry}
use Rattle.spec_file.specs.Image.{Image, page}
use Rattle.spec_file.specs.Catalog.{PassesCatalog}
use Rattle.spec_file.specs.CatalogRows.{CatalogRow}
use Rattle.spec_file.specs.Kinds.{is_clustered}
use Rattle.spec_chain.specs.Chains.{IsObject}
use Rattle.spec_check.specs.System.{IsSystemSound}
use Rattle.spec_check.specs.declared.report.CheckReport.{CheckReport}
use Rattle.spec_tables.specs.Seen.{AreSeen}
use Rattle.spec_tables.specs.Written.{IsCheckOf}
use Rattle.law_report.proofs.Report.{has_report}
use Rattle.law_trees.specs.Laws.{HasSoundSystem}
use Rattle.law_trees.proofs.Objects.{object_once}

-- a clustered table and the pages seen of it; its id is its own
pub record IsTableOf (g : Geometry) (image : Image) (row : CatalogRow) (ps : List ℕ) : Type 0 where
  pub object : IsObject image row
  pub clustered : IsTrue (is_clustered row.kind)
  pub one : (r : CatalogRow) → IsObject image r → r.id ≡ row.id → r ≡ row
  pub seen : AreSeen g image row ps
  pub others : (r : CatalogRow) → IsObject image r → (qs : List ℕ) × AreSeen g image r qs

-- the catalog can't fail its test
passes : (g : Geometry) (image : Image) → HasSoundSystem g image → (PassesCatalog (page image 9) → ⊥) → ⊥
passes g image system fails = system.0 9 system.1 (inr (refl, fails))

-- each object has a list of the pages seen of it, as the image has a report
abbrev HasLists : Geometry → Image → Type 0
HasLists g image = (row : CatalogRow) → IsObject image row → (ps : List ℕ) × AreSeen g image row ps

report_lists : (g : Geometry) (image : Image) (report : CheckReport) → IsSystemSound g image → IsCheckOf g image report → HasLists g image
report_lists g image report system check row object = let line = (check.tables system).complete row object in (line.2.seen, line.2.are_seen)

pub lists : (g : Geometry) (image : Image) → HasSoundSystem g image → HasLists g image
lists g image system = let has = has_report g image in report_lists g image has.0 system.0 has.1

pub table_is : (g : Geometry) (image : Image) (row : CatalogRow) (ps : List ℕ) → HasSoundSystem g image → IsObject image row → IsTrue (is_clustered row.kind)
    → AreSeen g image row ps → IsTableOf g image row ps
table_is g image row ps system object clustered seen = record {
  object = object;
  clustered = clustered;
  one = λ r i same. object_once (page image 9) (passes g image system) r row i object same;
  seen = seen;
  others = lists g image system;
}
