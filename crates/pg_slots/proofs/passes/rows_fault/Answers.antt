use Rattle.pg_slots.proofs.Stand.{rows_stand}
use Rattle.pg_slots.proofs.passes.rows_fault.Goals as goal

pub order_fault-requires-clause-rows : goal.order_fault-requires-clause-rows
order_fault-requires-clause-rows c = rows_stand c.args.kind c.args.page.now.bytes c.requires.room c.in_default.ensures

pub has_free_count-requires-clause-rows : goal.has_free_count-requires-clause-rows
has_free_count-requires-clause-rows c = rows_stand c.args.kind c.args.page.now.bytes c.requires.room c.in_default.ensures
