use Rattle.std.proofs.Common.{refl}
use Rattle.db_cat.specs.Rows.{row_of}
use Rattle.db_alloc.specs.declared.find.FindStop.TheVariants.{Page}
use Rattle.db_alloc.specs.Tables.{numbers}
use Rattle.db_alloc.proofs.Steps.{does_exit_as}
use Rattle.db_heap.specs.declared.insert.InsertStop.TheVariants.{Find}
use Rattle.db_heap.proofs.InsertSteps.{place_none, place_exit, place_done}
use Rattle.db_heap.proofs.insert.place_row.Goals as goal

pub returns-in_err-p : goal.returns-in_err-p
returns-in_err-p g c = λ name looked before. does_exit_as _ _ (Find (Page c.in_err-p.field-0.0)) _ refl (c.in_err-p.ensures.does looked before) c.from_residual.ensures.1

pub returns-in_err-write_row-in-Some : goal.returns-in_err-write_row-in-Some
returns-in_err-write_row-in-Some g c = λ name looked before.
    place_exit name looked (row_of c.args.table.now.row) c.args.row.now (numbers c.args.pages.now) _ c.in-Some.p _ _ c.in-Some.is before (c.in_ok-p.ensures.does looked before) c.in_ok-p.ensures.view
    c.in_err-write_row-in-Some.ensures c.from_residual-in_err-write_row-in-Some.ensures.1

pub returns-in_ok-write_row-in-Some : goal.returns-in_ok-write_row-in-Some
returns-in_ok-write_row-in-Some g c = λ name looked before.
    place_done name looked (row_of c.args.table.now.row) c.args.row.now (numbers c.args.pages.now) _ c.in-Some.p c.in-Some.is before (c.in_ok-p.ensures.does looked before) c.in_ok-p.ensures.view
    c.in_ok-write_row-in-Some.ensures

pub returns-in-None : goal.returns-in-None
returns-in-None g c = λ name looked before. place_none name looked (row_of c.args.table.now.row) c.args.row.now (numbers c.args.pages.now) _ c.in-None.is (c.in_ok-p.ensures.does looked before)
