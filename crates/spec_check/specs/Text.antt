-- The bytes of a report (all texts are this project's own).
use Rattle.std.specs.Prelude.{ℕ, List, ◌++◌, not, codes, decimal, flat_map, count_by}
use Rattle.spec_check.specs.declared.report.CheckError.{CheckError}
use Rattle.spec_check.specs.declared.report.TableLine.{TableLine}
use Rattle.spec_check.specs.declared.report.CheckReport.{CheckReport}
use Rattle.spec_check.specs.Errors.{is_allocation}

-- one line for each error
unfoldable pub error_line : CheckError → List ℕ
error_line x =
    codes "Msg " ++ decimal x.number ++ codes ": object " ++ decimal x.object ++ codes ", page " ++ decimal x.page
    ++ codes ", other " ++ decimal x.other ++ codes ", slot " ++ decimal x.slot ++ codes ", value " ++ decimal x.value
    ++ codes "\n"

-- one line for each object
unfoldable pub table_line : TableLine → List ℕ
table_line t =
    codes "Msg 2593: object " ++ decimal t.object ++ codes ", rows " ++ decimal t.rows ++ codes ", pages "
    ++ decimal t.pages ++ codes "\n"

-- the last line counts the errors of each class
unfoldable pub total_line : List CheckError → List ℕ
total_line errors =
    codes "Msg 8989: " ++ decimal (count_by is_allocation errors) ++ codes " allocation errors, "
    ++ decimal (count_by (λ x. not (is_allocation x)) errors) ++ codes " consistency errors\n"

unfoldable pub report_text : CheckReport → List ℕ
report_text report = flat_map error_line report.errors ++ flat_map table_line report.tables ++ total_line report.errors
