use Rattle.std.proofs.Common.{◌≡◌, ◌+◌, ◌≤◌, length, drop, reverse, take}
use Rattle.spec_log.specs.Log.{left_of}
use Rattle.plain_log.proofs.left.newest_left.Given as goal

abbrev pub invariant-loop-i : goal.invariant-loop-i
invariant-loop-i l = record {
  inside : l.undone + l.i ≤ length l.items;
  same : left_of l.t (reverse l.items) ≡ drop l.undone (left_of l.t (reverse (take l.i l.items)));
}

abbrev pub decreases-loop-i : goal.decreases-loop-i
decreases-loop-i l = l.i
