use Rattle.std.proofs.Common.{◌-◌, arith}
use Rattle.pg_slots.specs.Starts.{slot_in}
use Rattle.pg_slots.proofs.Steps.{one_more, overlap_at, none_overlaps}
use Rattle.pg_slots.proofs.order.fault_in_order.Goals as goal

pub returns-in-Some : goal.returns-in-Some
returns-in-Some c =
    overlap_at c.args.page.now.bytes (slot_in c.args.starts.now) c.requires.order (c.loop-k.k - 1) c.loop-k.k (omega arith) (omega arith)
    c.loop-k.invariant _ c.in-Some.ensures

pub loop-k-preserved : goal.loop-k-preserved
loop-k-preserved c =
    one_more c.args.page.now.bytes (slot_in c.args.starts.now) (c.loop-k.k - 1) c.loop-k.k (omega arith) c.loop-k.invariant c.in_default.ensures

pub returns : goal.returns
returns c =
    none_overlaps c.args.page.now.bytes (slot_in c.args.starts.now) c.requires.order c.loop-k.k (omega arith) c.loop-k.invariant
