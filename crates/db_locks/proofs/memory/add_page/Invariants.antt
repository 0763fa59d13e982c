use Rattle.std.proofs.Common.{◌≡◌, ◌++◌, take, drop}
use Rattle.db_locks.specs.States.{with_page}
use Rattle.db_locks.proofs.memory.add_page.Given as goal

abbrev pub invariant-loop-i : goal.invariant-loop-i
invariant-loop-i l = record {
  same : l.list.items ≡ l.fn.list.items;
  rest : take l.i l.list.items ++ with_page l.p (drop l.i l.list.items) ≡ with_page l.p l.list.items;
}
