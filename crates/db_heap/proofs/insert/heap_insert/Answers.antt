use Rattle.std.proofs.Common.{refl}
use Rattle.db_cat.specs.Rows.{row_of}
use Rattle.db_alloc.proofs.Steps.{does_ok, does_exit_as}
use Rattle.db_heap.specs.declared.insert.InsertStop.TheVariants.{Find}
use Rattle.db_heap.proofs.InsertSteps.{insert_found}
use Rattle.db_heap.proofs.insert.heap_insert.Goals as goal

pub returns-in_err-row : goal.returns-in_err-row
returns-in_err-row g c = does_exit_as _ _ (Find c.in_err-row.field-0.0) _ refl c.in_err-row.ensures c.from_residual-in_err-row.ensures.1

pub returns : goal.returns
returns g c =
    insert_found c.args.name.now c.args.key c.args.payload.now (row_of c.in_ok-row.row) _ c.heap_row-size.ensures.bytes (does_ok c.in_ok-row.ensures) (c.insert_row.ensures c.args.name.now)
