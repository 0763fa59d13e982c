use Rattle.std.proofs.Common.{◌-◌, arith}
use Rattle.pg_slots.proofs.Steps.{one_more, overlap_at, none_overlaps}
use Rattle.pg_slots.proofs.order.fault_of_rising.Goals as goal

pub returns-in-Some : goal.returns-in-Some
returns-in-Some c =
    overlap_at c.args.page.now.bytes (λ k. k) c.requires.order (c.loop-slot.slot - 1) c.loop-slot.slot (omega arith) (omega arith)
    c.loop-slot.invariant _ c.in-Some.ensures

pub loop-slot-preserved : goal.loop-slot-preserved
loop-slot-preserved c =
    one_more c.args.page.now.bytes (λ k. k) (c.loop-slot.slot - 1) c.loop-slot.slot (omega arith) c.loop-slot.invariant c.in_default.ensures

pub returns : goal.returns
returns c =
    none_overlaps c.args.page.now.bytes (λ k. k) c.requires.order c.loop-slot.slot (omega arith) c.loop-slot.invariant
