-- A new file is whole, and passes its tests; what a report of it lists.
use Rattle.std.proofs.Common.{◌≡◌, refl, ℕ, ◌*◌, ◌/◌, ◌%◌, ◌≤◌, Bool, true, false, not, List, [], ◌∷◌, length, Contains, ap, sym, ◌∙◌, arith, subst}
use Rattle.std.specs.List.{list_any}
use Rattle.std.specs.Prelude.{Option, Some, None, if◌then◌else◌}
use Rattle.std.proofs.lemmas.Bool.{and_from, and_right, eq-eqb, le-leb}
use Rattle.spec_file.specs.declared.geometry.Geometry.{Geometry}
use Rattle.spec_file.specs.declared.role.Role.TheVariants as role
use Rattle.spec_file.specs.Image.{Image, page, page_size, pages_of, bytes_of}
use Rattle.spec_file.specs.Kinds.{is_clustered}
use Rattle.spec_file.specs.FileForm.{size_passes, geometry_of}
use Rattle.spec_file.specs.Places.{HasShape}
use Rattle.spec_check.specs.declared.report.CheckReport.{CheckReport}
use Rattle.spec_tables.specs.Written.{IsCheckOf}
use Rattle.spec_check.proofs.Members.{cons_here}
use Rattle.spec_plan.specs.Reading.{is_catalog}
use Rattle.spec_start.specs.declared.why.FileWhy.{FileWhy}
use Rattle.spec_start.specs.Files.{file_fault, opening_fault, has_clustered_table}
use Rattle.spec_make.specs.NewPages.{new_file}
use Rattle.spec_make.proofs.PageLaws.{length-new_file}
use Rattle.spec_make.proofs.FileLaws.{length-bytes_of, pages_of-bytes_of, whole_pages}
use Rattle.law_clean.proofs.CleanParts.{clean_has_empty_report}
use Rattle.law_make.proofs.Clean.{no_object, holds_nothing, system_sound, limit, new_file_is_clean}
use Rattle.law_make.proofs.FirstPage.{first, geometry_is, opens}
use Rattle.law_make.proofs.NewBytes.{page_is}
use Rattle.law_make.specs.Laws.{NewFileIsWhole, NewFilePasses, NewReportIsEmpty}

pub new_file_is_whole : NewFileIsWhole
new_file_is_whole g pages = record {
  count = length-new_file g pages;
  whole = whole_pages g pages;
  same = pages_of-bytes_of (new_file g pages) (whole_pages g pages);
}

-- a list with nothing in it is empty
nothing_in : {X : Type 0} (xs : List X) → ((x : X) → Contains xs x → ⊥) → xs ≡ []
nothing_in [] none = refl
nothing_in (x ∷ xs) none = absurd (none x (cons_here x xs))

-- ---- the tests

size_of : (n pages : ℕ) → n ≡ page_size * pages → 16 ≤ pages → pages ≤ 524288 → pages % 8 ≡ 0 → size_passes n ≡ true
size_of n pages is low high whole =
    and_from _ _ (and_from _ _ (eq-eqb (n % 65536) 0 (omega (arith, is, whole))) (le-leb 131072 n (omega (arith, is, low)))) (le-leb n 4294967296 (omega (arith, is, high)))

no_fault : (a : Bool) (o : Option FileWhy) (x : FileWhy) → a ≡ true → o ≡ None → (if not a then Some x else o) ≡ None
no_fault true o x ha h = h
no_fault false o x ha h = absurd (cc)

few : (g : Geometry) (pages : ℕ) → HasShape g pages → pages ≤ 524288
few g pages shape =
    let high = shape.high in
    let top = limit g in
    omega (arith, high, top)

module _ (g : Geometry) (pages : ℕ) (shape : HasShape g pages) where
  first_is : page (new_file g pages) 0 ≡ first g pages
  first_is = let low = shape.low in page_is g pages 0 role.FileHeader (omega (arith, low)) refl

  size : length (bytes_of (new_file g pages)) ≡ page_size * pages
  size = length-bytes_of (new_file g pages) (whole_pages g pages) ∙ ap (λ (n : ℕ). page_size * n) (length-new_file g pages)

  same : (p : ℕ) → page (pages_of (bytes_of (new_file g pages))) p ≡ page (new_file g pages) p
  same p = ap (λ (image : Image). page image p) (pages_of-bytes_of (new_file g pages) (whole_pages g pages))

  no_test_fails : file_fault (bytes_of (new_file g pages)) ≡ None
  no_test_fails =
      let bytes = bytes_of (new_file g pages) in
      let most = few g pages shape in
      let count : length bytes / page_size ≡ pages = omega (arith, size) in
      no_fault (size_passes (length bytes)) _ _ (size_of (length bytes) pages size shape.low most shape.whole)
      (ap (λ (n : ℕ). opening_fault n (page (pages_of bytes) 0)) count ∙ ap (opening_fault pages) (same 0 ∙ first_is) ∙ opens g pages shape (omega (arith, most)))

  no_clustered : has_clustered_table (page (pages_of (bytes_of (new_file g pages))) 9) ≡ false
  no_clustered =
      ap has_clustered_table (same 9)
      ∙ and_right (is_catalog (page (new_file g pages) 9)) _ (ap (list_any (λ row. is_clustered row.kind)) (holds_nothing g pages shape))

  sized : HasShape g (length (new_file g pages))
  sized = subst (HasShape g) (sym (length-new_file g pages)) shape

  no_lines : (report : CheckReport) → IsCheckOf g (new_file g pages) report → report.tables ≡ []
  no_lines report check =
      nothing_in report.tables (λ line there. let found = (check.tables (system_sound g pages shape)).sound line there in no_object g pages shape found.0 found.1)

  empty_report : (report : CheckReport) → IsCheckOf g (new_file g pages) report → report ≡ record { errors = []; tables = [] }
  empty_report report check =
      ap (λ errors. record { errors = errors; tables = report.tables }) ((clean_has_empty_report g (new_file g pages) report sized check).0 (new_file_is_clean g pages shape))
      ∙ ap (λ tables. record { errors = []; tables = tables }) (no_lines report check)

pub new_file_passes : NewFilePasses
new_file_passes g pages shape = record {
  tests = no_test_fails g pages shape;
  geometry = ap geometry_of (first_is g pages shape) ∙ geometry_is g pages;
  run = (no_test_fails g pages shape, no_clustered g pages shape);
}

pub new_report_is_empty : NewReportIsEmpty
new_report_is_empty g pages report shape check = empty_report g pages shape report check
