use Rattle.db_alloc.specs.Marks.{marks}
use Rattle.db_alloc.specs.Near.{Includes}
use Rattle.db_alloc.specs.Tables.{bytes_of}
use Rattle.db_alloc.proofs.NearPages.{IsInFirst}
use Rattle.db_alloc.proofs.near.push_chain.Given as goal

abbrev pub invariant-loop-iam : goal.invariant-loop-iam
invariant-loop-iam l = Includes l.pages (IsInFirst (λ bytes p. marks l.g p bytes) (bytes_of l.iams) l.iam-index) l.initial.found.items l.found.items
