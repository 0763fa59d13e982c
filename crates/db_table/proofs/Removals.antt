-- An entry that was found is emptied.
use Rattle.std.proofs.Common.{◌≡◌, ℕ, List, Some, Result, sym, ◌∙◌}
use Rattle.spec_script.specs.declared.reply.Reply.TheVariants.{Done}
use Rattle.spec_words.specs.Words.{◌then◌, give}
use Rattle.spec_alloc.specs.Search.{where_found}
use Rattle.spec_alloc.specs.Objects.{entry_emptied}
use Rattle.db_locks.specs.declared.plan_pages.PageStop.{PageStop}
use Rattle.db_locks.specs.States.{PlanState}
use Rattle.db_locks.specs.Does.{DoesAfter}
use Rattle.db_alloc.specs.Results.{value_as}
use Rattle.db_alloc.proofs.ObjectSteps.{then_given}
use Rattle.db_alloc.proofs.Steps.{then_assoc, give_then, then_same, does_plan}

found_then : (i : ℕ) → (where_found (Some i) entry_emptied then (λ _. give Done)) ≡ (entry_emptied i then (λ _. give Done))
found_then i =
    then_assoc (entry_emptied i) (λ y. give (Some y)) (λ _. give Done) ∙ then_same (entry_emptied i) (λ y. give_then (Some y) (λ _. give Done))

pub emptied_then : {looked : List ℕ} {a b : PlanState} (i : ℕ) (result : Result (Unit {0}) PageStop) → DoesAfter looked a b (entry_emptied i) result
    → DoesAfter looked a b (where_found (Some i) entry_emptied then (λ _. give Done)) (value_as (λ done. Done) result)
emptied_then i result d = does_plan (sym (found_then i)) (then_given Done result d)
