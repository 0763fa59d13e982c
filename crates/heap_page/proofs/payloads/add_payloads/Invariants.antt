use Rattle.std.proofs.Common.{◌≡◌, ◌++◌}
use Rattle.heap_page.proofs.KeyRows.{first_payloads}
use Rattle.heap_page.proofs.payloads.add_payloads.Given as goal

abbrev pub invariant-loop-i : goal.invariant-loop-i
invariant-loop-i l = l.into.items ≡ l.fn.into.items ++ first_payloads l.key l.page.bytes l.i
