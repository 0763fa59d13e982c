use Rattle.std.proofs.Common.{[], drop}
use Rattle.spec_file.specs.Roles.{is_ordinary}
use Rattle.spec_words.specs.Words.{where_good, for_each}
use Rattle.db_locks.specs.Does.{stop_of}
use Rattle.db_locks.specs.States.{PlanState}
use Rattle.db_locks.proofs.LoopLaws.{Leads}
use Rattle.db_alloc.specs.Tables.{numbers}
use Rattle.db_alloc.proofs.drop.check_ordinary.Given as goal

abbrev pub invariant-loop-p : goal.invariant-loop-p
invariant-loop-p l = (a : PlanState) → Leads stop_of [] a a (for_each (λ p. where_good (is_ordinary l.geometry p) p) (numbers l.pages)) (for_each (λ p. where_good (is_ordinary l.geometry p) p) (numbers (drop l.p-index l.pages)))
