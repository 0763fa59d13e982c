use Rattle.std.proofs.Common.{◌≡◌, ◌++◌, take, IsTrue}
use Rattle.net_changes.specs.Shown.{numbers, pages_shown}
use Rattle.net_changes.proofs.pages.add_pages.Given as goal

abbrev pub invariant-loop-p : goal.invariant-loop-p
invariant-loop-p g l =
    let s = g.P.PlanPages.state l.v in
    IsTrue s.told → l.changes.items ≡ l.fn.changes.items ++ pages_shown s l.iams (numbers (take l.p-index l.pages))
