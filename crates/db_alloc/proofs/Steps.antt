-- How plans and what calls did are put together beyond the laws of db_locks.
use Rattle.std.proofs.Common.{◌≡◌, ℕ, IsTrue, List, [], ◌∷◌, ◌++◌, Contains, Result, Ok, Err, refl, sym, ap, ◌∙◌, subst}
use Rattle.std.proofs.lemmas.List.{append_assoc}
use Rattle.spec_words.specs.Views.{View, End, Gives, Stops, Plan}
use Rattle.spec_words.specs.Words.{ended, gone_on, ◌then◌, give, refuse, found_or, look, for_each}
use Rattle.db_locks.specs.States.{PlanState}
use Rattle.db_locks.specs.Does.{Stop, WasRefused, MayAnswer, DoesAs}
use Rattle.std.specs.Prelude.{IsErrAnd, Option, Some, None}
use Rattle.spec_script.specs.declared.reply.Refusal.{Refusal}
use Rattle.std.proofs.lemmas.Result.{err_from_is_err_and}
use Rattle.std.proofs.lemmas.List.Elements.{Contains-append_right, Contains-push}
use Rattle.spec_file.specs.declared.data.Resource.{Resource}
use Rattle.db_alloc.specs.Results.{value_as}
use Rattle.db_locks.proofs.LoopLaws.{Leads}
use Rattle.db_locks.proofs.PlanLaws.{does_stop, does_give, does_refuse}

-- ---- plans

after_assoc : {A B C : Type 0} (reached : List ℕ) (e : End A) (f : A → Plan B) (g : B → Plan C)
    → gone_on (gone_on reached e f).reached (gone_on reached e f).ending g ≡ gone_on reached e (λ x. f x then g)
unfolding ◌then◌
after_assoc {A} {B} {C} reached (Gives x view) f g = by_end (f x view).reached (f x view).ending
  where
    by_end : (more : List ℕ) (e : End B) → gone_on (reached ++ more) e g ≡ ended (reached ++ (gone_on more e g).reached) (gone_on more e g).ending
    by_end more (Gives y w) = ap (λ ps. ended ps (g y w).ending) (append_assoc reached more (g y w).reached)
    by_end more (Stops refusal) = refl
after_assoc reached (Stops refusal) f g = refl

-- plans in a row
pub then_assoc : {A B C : Type 0} (plan : Plan A) (f : A → Plan B) (g : B → Plan C) → ((plan then f) then g) ≡ (plan then (λ x. f x then g))
unfolding ◌then◌
then_assoc plan f g = λ i view. after_assoc (plan view).reached (plan view).ending f g i

pub give_then : {A B : Type 0} (x : A) (f : A → Plan B) → (give x then f) ≡ f x
unfolding ◌then◌ give
give_then x f = λ i view. f x view

-- what comes behind is the same plan
pub then_same : {A B : Type 0} (plan : Plan A) {f g : A → Plan B} → ((x : A) → f x ≡ g x) → (plan then f) ≡ (plan then g)
then_same plan {f} {g} h = ap (λ (k : _). plan then k) (λ i x. h x i)

-- ---- calls

pub does_plan : {A E : Type 0} {meaning : E → Stop} {looked : List ℕ} {a b : PlanState} {plan other : Plan A} {result : Result A E}
    → plan ≡ other → DoesAs meaning looked a b plan result → DoesAs meaning looked a b other result
does_plan {A} {E} {meaning} {looked} {a} {b} {result = result} e d = subst (λ (plan : Plan A). DoesAs meaning looked a b plan result) e d

-- what is told of the view may stand in the plan
pub does_told : {A B E : Type 0} {meaning : E → Stop} {looked : List ℕ} {a b : PlanState} (next : A → Plan B) {x y : A} {result : Result B E}
    → (IsTrue a.told → x ≡ y) → DoesAs meaning looked a b (next x) result → DoesAs meaning looked a b (next y) result
does_told {meaning = meaning} {looked} {a} {b} next {x} {y} {result} same d = record {
  exact = λ told. subst (λ z. MayAnswer meaning looked (next z a.view) b.view result) (same told) (d.exact told);
  stays = d.stays;
  cause = d.cause;
}

-- a value says nothing of errors
pub does_ok : {A E D : Type 0} {meaning : E → Stop} {reading : D → Stop} {looked : List ℕ} {a b : PlanState} {plan : Plan A} {x : A}
    → DoesAs {E = E} meaning looked a b plan (Ok x) → DoesAs {E = D} reading looked a b plan (Ok x)
does_ok d = record { exact = d.exact; stays = d.stays; cause = tt }

-- a stop that is handed on by `?`, as one of another kind, where the value stands for another
pub does_exit_as : {A B C D E : Type 0} {meaning : E → Stop} {reading : D → Stop} {looked : List ℕ} {a b : PlanState} {plan : Plan A} (next : A → Plan B) (f : C → B) {stop : E} (other : D) (r : Result C D)
    → reading other ≡ meaning stop → DoesAs meaning looked a b plan (Err stop) → IsErrAnd r (λ s. s ≡ other) → DoesAs reading looked a b (plan then next) (value_as f r)
does_exit_as {B} {C} {D} {reading = reading} {looked} {a} {b} {plan} next f other r same d h =
    let p = err_from_is_err_and r h in
    subst (λ (q : Result C D). DoesAs {A = B} reading looked a b (plan then next) (value_as f q)) (sym (p.1 ∙ ap Err p.2)) (does_stop reading next other same d)

-- a look reaches its page
pub look_reached : (looked : List ℕ) (r : Resource) (p : ℕ) (view : View) → view.other r ≡ None → Contains (looked ++ (look r p view).reached) p
unfolding look
look_reached looked r p view free = rw free (Contains-append_right looked (p ∷ []) p (Contains-push [] p))

-- what there is, or not
pub found_some : {A E : Type 0} {meaning : E → Stop} (looked : List ℕ) (a : PlanState) (o : Option A) (x : A) (other : Plan A) → o ≡ Some x
    → DoesAs meaning looked a a (found_or o other) (Ok x)
found_some looked a o x other e = rw e (does_give looked a x)

pub found_none : {A E : Type 0} {meaning : E → Stop} (looked : List ℕ) (a : PlanState) (o : Option A) (refusal : Refusal) (e : E) → o ≡ None → meaning e ≡ WasRefused refusal
    → DoesAs meaning looked a a (found_or o (refuse refusal)) (Err e)
found_none looked a o refusal e none means = rw none (does_refuse looked a refusal e means)

-- a step of a plan stopped, and `?` hands that on, where the value stands for another
pub leads_exit_as : {A B C E : Type 0} {meaning : E → Stop} {looked : List ℕ} {a b c : PlanState} {whole : Plan B} {plan : Plan A} (next : A → Plan B) (f : C → B) {stop : E} (r : Result C E)
    → Leads meaning looked a b whole (plan then next) → DoesAs meaning looked b c plan (Err stop) → IsErrAnd r (λ s. s ≡ stop) → DoesAs meaning looked a c whole (value_as f r)
leads_exit_as {B = B} {C} {E} {meaning} {looked} {a} {b} {c} {whole} next f {stop} r l d h =
    let p = err_from_is_err_and r h in
    subst (λ (q : Result C E). DoesAs {A = B} meaning looked a c whole (value_as f q)) (sym (p.1 ∙ ap Err p.2)) (l.lead c (Err stop) (does_stop meaning next stop refl d))

-- one of a list was done, or stopped where the value stands for another
pub each_exit_as : {C E : Type 0} {meaning : E → Stop} {looked : List ℕ} {a b c : PlanState} {whole : Plan (Unit {0})} (each : ℕ → Plan (Unit {0})) (x : ℕ) (xs : List ℕ) (f : C → Unit {0}) {stop : E} (r : Result C E)
    → Leads meaning looked a b whole (for_each each (x ∷ xs)) → DoesAs meaning looked b c (each x) (Err stop) → IsErrAnd r (λ s. s ≡ stop) → DoesAs meaning looked a c whole (value_as f r)
unfolding for_each
each_exit_as each x xs f r l d h = leads_exit_as (λ _. for_each each xs) f r l d h
