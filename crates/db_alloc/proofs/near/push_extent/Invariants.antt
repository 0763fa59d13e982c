use Rattle.db_alloc.specs.Near.{Includes}
use Rattle.db_alloc.proofs.NearPages.{Between}
use Rattle.db_alloc.proofs.near.push_extent.Given as goal

abbrev pub invariant-loop-p : goal.invariant-loop-p
invariant-loop-p l = Includes l.pages (Between l.first l.p) l.initial.found.items l.found.items
