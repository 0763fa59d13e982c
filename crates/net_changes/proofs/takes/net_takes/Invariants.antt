use Rattle.std.proofs.Common.{◌≡◌, take, IsTrue, filter}
use Rattle.net_changes.specs.Shown.{counts_shown}
use Rattle.net_changes.proofs.takes.net_takes.Given as goal

abbrev pub invariant-loop-r : goal.invariant-loop-r
invariant-loop-r g l =
    let s = g.P.PlanPages.state l.v in
    IsTrue s.told → l.takes.items ≡ filter (counts_shown s) (take l.r-index l.taken)
