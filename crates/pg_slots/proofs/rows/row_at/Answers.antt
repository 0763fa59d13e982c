use Rattle.std.proofs.Common.{arith}
use Rattle.pg_slots.proofs.rows.row_at.Goals as goal

pub slot_at-start-requires : goal.slot_at-start-requires
slot_at-start-requires c = omega (arith, c.requires.i, c.requires.rows.few)

pub row_size-size-requires-clause-slot : goal.row_size-size-requires-clause-slot
row_size-size-requires-clause-slot c = omega (arith, c.requires.i, c.requires.rows.few)

pub row_size-size-requires-clause-says : goal.row_size-size-requires-clause-says
row_size-size-requires-clause-says c = c.requires.rows.says c.args.i c.requires.i
