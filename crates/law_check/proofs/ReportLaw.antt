-- An image has no two reports: its errors are in a total order that tells them apart, and its lines count what an
-- image shows once.
use Rattle.std.proofs.Common.{◌≡◌, ◌⊎◌, ℕ, List, [], ◌∷◌, Contains, length, refl, sym, ap, ◌∙◌, subst, inl, inr, ⊎_elim}
use Rattle.std.specs.Cmp.{IsTotalOrder}
use Rattle.std.specs.List.{sum_by}
use Rattle.std.specs.Ordering.{nat_cmp, on}
use Rattle.std.proofs.lemmas.Cmp.{nat_cmp_total, then_total, on_total}
use Rattle.spec_file.specs.declared.geometry.Geometry.{Geometry}
use Rattle.spec_file.specs.CatalogRows.{CatalogRow}
use Rattle.spec_file.specs.Header.{page_type}
use Rattle.spec_file.specs.Image.{Image, page}
use Rattle.spec_check.specs.declared.report.CheckError.{CheckError}
use Rattle.spec_check.specs.declared.report.CheckReport.{CheckReport}
use Rattle.spec_check.specs.declared.report.TableLine.{TableLine}
use Rattle.spec_check.specs.Errors.{Lists, error_cmp}
use Rattle.spec_check.proofs.Members.{sorted_same, nothing_there, cons_here}
use Rattle.spec_check.specs.System.{IsSystemSound, wrong_page}
use Rattle.spec_tables.specs.Seen.{AreSeen, rows_on}
use Rattle.spec_tables.specs.Lines.{IsLineOf, AreTables}
use Rattle.spec_tables.specs.Written.{Stands, HasSystemError}
use Rattle.law_check.specs.Laws.{OneReport}

pub error_total : IsTotalOrder error_cmp
error_total =
    then_total (on_total (λ x. x.number) nat_cmp_total) (then_total (on_total (λ x. x.object) nat_cmp_total)
    (then_total (on_total (λ x. x.page) nat_cmp_total) (then_total (on_total (λ x. x.other) nat_cmp_total)
    (then_total (on_total (λ x. x.slot) nat_cmp_total) (on_total (λ x. x.value) nat_cmp_total)))))

-- two lists of the errors of one rule are equal
pub one_list : (xs ys : List CheckError) (P : CheckError → Type 0) → Lists xs P → Lists ys P → xs ≡ ys
one_list xs ys P a b =
    sorted_same error_cmp error_total xs ys a.sorted b.sorted (λ x. (λ h. b.complete x (a.sound x h), λ h. a.complete x (b.sound x h)))

-- so are two lists of the pages seen of an object
seen_once : (g : Geometry) (image : Image) (row : CatalogRow) (pages pages' : List ℕ) → AreSeen g image row pages → AreSeen g image row pages' → pages ≡ pages'
seen_once g image row pages pages' a b =
    sorted_same nat_cmp nat_cmp_total pages pages' a.sorted b.sorted (λ p. (λ h. b.complete p (a.sound p h), λ h. a.complete p (b.sound p h)))

abbrev line_from : ℕ → ℕ → ℕ → TableLine
line_from object rows pages = record { object = object; rows = rows; pages = pages }

line_of_parts : (line line' : TableLine) → line.object ≡ line'.object → line.rows ≡ line'.rows → line.pages ≡ line'.pages → line ≡ line'
line_of_parts line line' object rows pages =
    ap (λ o. line_from o line.rows line.pages) object ∙ ap (λ r. line_from line'.object r line.pages) rows ∙ ap (line_from line'.object line'.rows) pages

-- an object has one line
pub one_line : (g : Geometry) (image : Image) (row : CatalogRow) (line line' : TableLine) → IsLineOf g image row line → IsLineOf g image row line' → line ≡ line'
one_line g image row line line' a b =
    let seen = seen_once g image row a.seen b.seen a.are_seen b.are_seen in
    line_of_parts line line' (a.object ∙ sym b.object)
    (a.rows ∙ ap (sum_by (λ p. rows_on (page image p))) seen ∙ sym b.rows)
    (a.pages ∙ ap length seen ∙ sym b.pages)

lines_in : (g : Geometry) (image : Image) (lines lines' : List TableLine) → AreTables g image lines → AreTables g image lines' → (line : TableLine) → Contains lines line → Contains lines' line
lines_in g image lines lines' a b line h =
    let of = a.sound line h in
    let there = b.complete of.0 of.1 in
    subst (Contains lines') (one_line g image of.0 there.0 line there.2 of.2) there.1

one_table : (g : Geometry) (image : Image) (lines lines' : List TableLine) → AreTables g image lines → AreTables g image lines' → lines ≡ lines'
one_table g image lines lines' a b =
    sorted_same (on (λ line. line.object) nat_cmp) (on_total (λ line. line.object) nat_cmp_total) lines lines' a.sorted b.sorted
    (λ line. (lines_in g image lines lines' a b line, lines_in g image lines' lines b a line))

-- the errors of a report tell whether a system page is wrong
told : (g : Geometry) (image : Image) (errors : List CheckError) → Lists errors (Stands g image) → HasSystemError g image ⊎ IsSystemSound g image
told g image [] lists =
    inr (λ p inside wrong. nothing_there _ (lists.complete (wrong_page p (page_type (page image p))) (inl (p, inside, wrong, inl refl))))
told g image (x ∷ xs) lists = ⊎_elim (λ system. inl (x, system)) (λ rule. inr rule.0) (lists.sound x (cons_here x xs))

abbrev report_from : List CheckError → List TableLine → CheckReport
report_from errors tables = record { errors = errors; tables = tables }

report_of_parts : (report report' : CheckReport) → report.errors ≡ report'.errors → report.tables ≡ report'.tables → report ≡ report'
report_of_parts report report' errors tables = ap (λ e. report_from e report.tables) errors ∙ ap (report_from report'.errors) tables

pub one_report : OneReport
one_report g image report report' a b =
    report_of_parts report report' (one_list report.errors report'.errors (Stands g image) a.errors b.errors)
    (⊎_elim (λ wrong. a.unsound wrong ∙ sym (b.unsound wrong))
    (λ sound. one_table g image report.tables report'.tables (a.tables sound) (b.tables sound))
    (told g image report.errors a.errors))
