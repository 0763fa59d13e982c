use Rattle.std.proofs.Common.{arith}
use Rattle.spec_rows.proofs.SlotLaws.{rows_size_more}
use Rattle.pg_slots.proofs.passes.rows_size.Goals as goal

pub loop-slot-preserved : goal.loop-slot-preserved
loop-slot-preserved c =
    let more = rows_size_more c.args.page.now.bytes c.loop-slot.slot in
    let ends = c.requires.rows.ends c.loop-slot.slot (omega arith) in
    record { value = omega (arith, more); most = omega (arith, ends) }
