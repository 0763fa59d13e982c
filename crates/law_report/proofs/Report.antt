-- Every image has a report: the errors that stand, sorted, and the lines of its objects, or none where a
-- system page is wrong.
use Rattle.std.proofs.Common.{ℕ, [], Ordering, refl, ap, ◌∙◌}
use Rattle.std.specs.Ordering.{nat_cmp, on, then_cmp}
use Rattle.spec_file.specs.declared.geometry.Geometry.{Geometry}
use Rattle.spec_file.specs.Image.{Image}
use Rattle.spec_check.specs.declared.report.CheckError.{CheckError}
use Rattle.spec_check.specs.declared.report.CheckReport.{CheckReport}
use Rattle.spec_check.specs.Errors.{error_cmp}
use Rattle.spec_check.specs.System.{IsSystemSound}
use Rattle.spec_tables.specs.KnownPages.{known_of_image}
use Rattle.spec_tables.specs.Written.{IsRuleError, Stands, IsCheckOf}
use Rattle.law_check.proofs.ReportLaw.{error_total}
use Rattle.law_report.specs.Laws.{HasReport}
use Rattle.law_report.proofs.Listings.{Listing, either, when}
use Rattle.law_report.proofs.Sorting.{Ordered, ordered, Apart, numbers_apart, both_ranks}
use Rattle.law_report.proofs.System.{system_errors, dec_sound}
use Rattle.law_report.proofs.Pages.{allocation_errors}
use Rattle.law_report.proofs.PageRules.{page_errors}
use Rattle.law_report.proofs.KnownPages.{roots, heads, links, rows}
use Rattle.law_report.proofs.Trees.{tree_errors}
use Rattle.law_report.proofs.Tables.{its_tables}

rule_errors : (g : Geometry) (image : Image) → Listing (IsRuleError g image)
rule_errors g image = either (allocation_errors g image) (either (page_errors g image)
    (tree_errors (known_of_image g image) (record { roots = roots image; pages = heads g image; links = links g image; rows = rows g image })))

standing : (g : Geometry) (image : Image) → Listing (Stands g image)
standing g image = either (system_errors g image) (when (dec_sound g image) (rule_errors g image))

abbrev error_from : ℕ → ℕ → ℕ → ℕ → ℕ → ℕ → CheckError
error_from number object p other slot value = record { number = number; object = object; page = p; other = other; slot = slot; value = value }

abbrev by : (CheckError → ℕ) → CheckError → CheckError → Ordering
by f = on f nat_cmp

-- the order of errors tells them apart
errors_apart : Apart error_cmp
errors_apart x y h =
    let value = by (λ e. e.value) in
    let slot = then_cmp (by (λ e. e.slot)) value in
    let other = then_cmp (by (λ e. e.other)) slot in
    let at = then_cmp (by (λ e. e.page)) other in
    let object = then_cmp (by (λ e. e.object)) at in
    let a = both_ranks (by (λ e. e.number)) object x y h in
    let b = both_ranks (by (λ e. e.object)) at x y a.1 in
    let c = both_ranks (by (λ e. e.page)) other x y b.1 in
    let d = both_ranks (by (λ e. e.other)) slot x y c.1 in
    let f = both_ranks (by (λ e. e.slot)) value x y d.1 in
    ap (λ n. error_from n x.object x.page x.other x.slot x.value) (numbers_apart x.number y.number a.0)
    ∙ ap (λ o. error_from y.number o x.page x.other x.slot x.value) (numbers_apart x.object y.object b.0)
    ∙ ap (λ p. error_from y.number y.object p x.other x.slot x.value) (numbers_apart x.page y.page c.0)
    ∙ ap (λ o. error_from y.number y.object y.page o x.slot x.value) (numbers_apart x.other y.other d.0)
    ∙ ap (λ s. error_from y.number y.object y.page y.other s x.value) (numbers_apart x.slot y.slot f.0)
    ∙ ap (error_from y.number y.object y.page y.other y.slot) (numbers_apart x.value y.value f.1)

errors : (g : Geometry) (image : Image) → Ordered error_cmp (Stands g image)
errors g image = ordered error_cmp error_total (standing g image) (λ x y h k. errors_apart x y)

with_tables : (g : Geometry) (image : Image) → Dec (IsSystemSound g image) → (report : CheckReport) × IsCheckOf g image report
with_tables g image (yes sound) =
    let all = errors g image in
    let tables = its_tables g image sound in (
      record { errors = all.members; tables = tables.lines },
      record {
        errors = record { sorted = all.sorted; sound = all.sound; complete = all.complete };
        tables = λ h. tables.are;
        unsound = λ h. absurd (sound h.1.0 h.1.1 h.1.2);
      },
    )
with_tables g image (no wrong) =
    let all = errors g image in (
      record { errors = all.members; tables = [] },
      record {
        errors = record { sorted = all.sorted; sound = all.sound; complete = all.complete };
        tables = λ h. absurd (wrong h);
        unsound = λ h. refl;
      },
    )

pub has_report : HasReport
has_report g image = with_tables g image (dec_sound g image)
