use Rattle.std.proofs.Common.{refl, sym, ap, ◌∙◌, map}
use Rattle.spec_plan.specs.Reading.{named_among}
use Rattle.db_cat.specs.Rows.{row_of}
use Rattle.db_locks.proofs.PlanLaws.{does_then}
use Rattle.db_alloc.specs.declared.find.FindStop.TheVariants.{Page, NoTable}
use Rattle.db_alloc.proofs.Steps.{does_ok, does_exit_as, found_some, found_none}
use Rattle.db_alloc.proofs.find.read_named.Goals as goal

pub returns-in_err-rows : goal.returns-in_err-rows
returns-in_err-rows c = λ a. does_exit_as _ row_of (Page c.in_err-rows.field-0.0) _ refl (c.in_err-rows.ensures.does a) c.from_residual.ensures.1

pub returns-in-Some : goal.returns-in-Some
returns-in-Some c = λ a. does_then _ (does_ok (c.in_ok-rows.ensures.does a)) (found_some _ a _ _ _ (sym (c.in-Some.ensures ∙ ap (named_among (map row_of c.in_ok-rows.rows.items)) c.as_str.ensures)))

pub returns-in-None : goal.returns-in-None
returns-in-None c = λ a. does_then _ (does_ok (c.in_ok-rows.ensures.does a)) (found_none _ a _ _ NoTable (sym (c.in-None.ensures ∙ ap (named_among (map row_of c.in_ok-rows.rows.items)) c.as_str.ensures)) refl)
