-- The last call of a chain, whose stops are handed on.
use Rattle.std.proofs.Common.{◌≡◌, ℕ, List, Result, Err, sym, ap, ◌∙◌, subst}
use Rattle.std.specs.Prelude.{IsErrAnd}
use Rattle.std.proofs.lemmas.Result.{err_from_is_err_and}
use Rattle.spec_words.specs.Views.{Plan}
use Rattle.db_locks.specs.States.{PlanState}
use Rattle.db_locks.specs.Does.{Stop, MayStop, HasCause, DoesAs}
use Rattle.db_alloc.specs.Results.{value_as}

-- a stop of the last call that is handed on as one of another kind
pub last_exit : {A C D E : Type 0} {meaning : E → Stop} {reading : D → Stop} {looked : List ℕ} {a b : PlanState} {plan : Plan A} (f : C → A) {stop : E} (other : D) (r : Result C D)
    → reading other ≡ meaning stop → DoesAs meaning looked a b plan (Err stop) → IsErrAnd r (λ s. s ≡ other) → DoesAs reading looked a b plan (value_as f r)
last_exit {A} {C} {D} {reading = reading} {looked} {a} {b} {plan} f other r same d h =
    let p = err_from_is_err_and r h in
    subst (λ (q : Result C D). DoesAs {A = A} reading looked a b plan (value_as f q)) (sym (p.1 ∙ ap Err p.2)) (record {
      exact = λ told. subst (λ (s : Stop). MayStop looked (plan a.view) s) (sym same) (d.exact told);
      stays = d.stays;
      cause = subst (λ (s : Stop). HasCause a b s) (sym same) d.cause;
    })
