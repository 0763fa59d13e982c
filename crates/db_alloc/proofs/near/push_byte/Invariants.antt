use Rattle.db_alloc.specs.Near.{Includes}
use Rattle.db_alloc.proofs.NearPages.{IsInBits}
use Rattle.db_alloc.proofs.near.push_byte.Given as goal

abbrev pub invariant-loop-n : goal.invariant-loop-n
invariant-loop-n l = Includes l.pages (IsInBits l.byte l.e l.n) l.initial.found.items l.found.items
