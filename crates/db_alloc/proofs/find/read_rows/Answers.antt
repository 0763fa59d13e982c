use Rattle.std.proofs.Common.{sym, ◌∙◌}
use Rattle.db_alloc.proofs.Rows.{passes, says_other, fails, rows_good, rows_bad}
use Rattle.db_alloc.proofs.find.read_rows.Goals as goal

pub returns-then-not-is_page_of-clause-does : goal.returns-then-not-is_page_of-clause-does
returns-then-not-is_page_of-clause-does c = λ a. rows_bad a c.args.boot.now.bytes (says_other c.args.boot.now.bytes (sym c.is_page_of.ensures ∙ c.if-not-is_page_of.true))

pub returns-in-Ok-clause-does : goal.returns-in-Ok-clause-does
returns-in-Ok-clause-does c = λ a. rows_good a c.args.boot.now.bytes _ (passes c.args.boot.now.bytes c.row_laws.ensures.catalog (sym c.is_page_of.ensures ∙ c.if-not-is_page_of.false) c.in-Ok.ensures.bad) c.in-Ok.ensures.rows

pub returns-in-Err-Bad-clause-does : goal.returns-in-Err-Bad-clause-does
returns-in-Err-Bad-clause-does c = λ a. rows_bad a c.args.boot.now.bytes (fails c.args.boot.now.bytes c.row_laws.ensures.catalog (rw c.in-Err-Bad.field-0-is at c.in-Err-Bad.ensures.bad))
