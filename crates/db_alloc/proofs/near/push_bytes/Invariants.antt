use Rattle.db_alloc.specs.Near.{Includes, IsInBytes}
use Rattle.db_alloc.proofs.near.push_bytes.Given as goal

abbrev pub invariant-loop-n : goal.invariant-loop-n
invariant-loop-n l = Includes l.pages (IsInBytes l.iam.bytes l.first l.n) l.initial.found.items l.found.items
