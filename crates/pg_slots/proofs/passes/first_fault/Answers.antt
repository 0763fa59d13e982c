use Rattle.spec_rows.proofs.TestLaws.{room_passes}
use Rattle.pg_slots.proofs.Tested.{tested_rows}
use Rattle.pg_slots.proofs.passes.first_fault.Goals as goal

pub rows_fault-requires-clause-room : goal.rows_fault-requires-clause-room
rows_fault-requires-clause-room c = room_passes c.args.p.0 c.args.object.0 c.args.kind c.args.page.now.bytes c.in_default.ensures

pub returns : goal.returns
returns c =
    tested_rows c.args.p.0 c.args.object.0 c.args.kind c.args.page.now.bytes c.rows_fault.result c.in_default.ensures c.rows_fault.ensures
