-- The pages of a table behind its PFS bytes.
use Rattle.std.proofs.Common.{◌≡◌, refl, ℕ, IsTrue, List, [], Result, Ok, Err, Vec, Global}
use Rattle.std.specs.Prelude.{IfOk}
use Rattle.spec_file.specs.declared.data.PageNo.{PageNo}
use Rattle.spec_words.specs.NetChanges.{FileShape}
use Rattle.spec_words.specs.Views.{Plan}
use Rattle.spec_words.specs.Words.{◌then◌, sees}
use Rattle.spec_words.specs.Tables.{object_pages}
use Rattle.db_locks.specs.declared.plan_pages.PageStop.{PageStop}
use Rattle.db_locks.specs.States.{PlanState}
use Rattle.db_locks.specs.Does.{Does, stop_of}
use Rattle.db_locks.proofs.PlanLaws.{does_then, does_stop, does_see}
use Rattle.db_alloc.specs.Results.{value_as}
use Rattle.db_alloc.specs.Tables.{numbers}

pub pages_then : {a b : PlanState} (plan : Plan (Unit {0})) (shape : FileShape) (chain : List ℕ) (r : Result (Vec PageNo Global) PageStop) → Does a b plan (value_as (λ found. tt) r)
    → IfOk r (λ found. IsTrue b.told → numbers found.items ≡ object_pages shape chain b.view)
    → Does a b (plan then (λ _. sees (object_pages shape chain))) (value_as (λ found. numbers found.items) r)
pages_then {b = b} plan shape chain (Ok found) d h = does_then _ d (does_see [] b (object_pages shape chain) (numbers found.items) h)
pages_then plan shape chain (Err e) d h = does_stop {meaning = stop_of} stop_of _ e refl d
