-- How calls are put together as plans are: a chain of calls did what the chain of their plans says.
use Rattle.std.proofs.Common.{◌≡◌, ℕ, Bool, true, false, IsTrue, List, [], ◌++◌, Contains, Result, Ok, Err, inl, inr, refl, sym, ap, ◌∙◌, subst, arith}
use Rattle.std.specs.Prelude.{IsErrAnd, IfErr, if◌then◌else◌}
use Rattle.std.proofs.lemmas.List.{append_assoc}
use Rattle.std.proofs.lemmas.List.Elements.{Contains-append_left, Contains-append_right, Contains-append_cases}
use Rattle.std.proofs.lemmas.Result.{err_from_is_err_and}
use Rattle.spec_script.specs.declared.reply.Refusal.{Refusal}
use Rattle.spec_plan.specs.Refusals.{bad_page}
use Rattle.spec_words.specs.Views.{View, End, Gives, Stops, Outcome, Plan}
use Rattle.spec_words.specs.Words.{ended, gone_on, ◌then◌, give, refuse, sees, where_good}
use Rattle.db_locks.specs.States.{PlanState}
use Rattle.db_locks.specs.Does.{Stop, WasHeld, WasRefused, HasFailed, WasShort, MayStop, MayAnswer, HasCause, Stays, DoesAs}

-- ---- what may be answered

Contains-regroup : (looked reached more : List ℕ) (p : ℕ) → Contains ((looked ++ reached) ++ more) p → Contains (looked ++ (reached ++ more)) p
Contains-regroup looked reached more p h = subst (λ (ps : List ℕ). Contains ps p) (append_assoc looked reached more) h

-- pages that the first plan reached count as reached before the second
stop_later : {A : Type 0} (looked reached : List ℕ) (outcome : Outcome A) (stop : Stop) → MayStop (looked ++ reached) outcome stop
    → MayStop looked (ended (reached ++ outcome.reached) outcome.ending) stop
stop_later looked reached outcome (WasHeld r t) h = h
stop_later looked reached outcome (WasRefused refusal) h = h
stop_later looked reached outcome (HasFailed p) h = Contains-regroup looked reached outcome.reached p h
stop_later looked reached outcome WasShort h = tt

answer_later : {A E : Type 0} (meaning : E → Stop) (looked reached : List ℕ) (outcome : Outcome A) (view : View) (result : Result A E)
    → MayAnswer meaning (looked ++ reached) outcome view result → MayAnswer meaning looked (ended (reached ++ outcome.reached) outcome.ending) view result
answer_later meaning looked reached outcome view (Ok x) h = h
answer_later meaning looked reached outcome view (Err e) h = stop_later looked reached outcome (meaning e) h

answer_same : {A E : Type 0} (meaning : E → Stop) (looked : List ℕ) {o o' : Outcome A} (view : View) (result : Result A E) → o ≡ o'
    → MayAnswer meaning looked o view result → MayAnswer meaning looked o' view result
answer_same {A} meaning looked view result e h = subst (λ (o : Outcome A). MayAnswer meaning looked o view result) e h

-- ---- what stays

pub stays_same : (a : PlanState) → Stays a a
stays_same a = record { told = refl; shape = refl; start = refl; other = refl; own = refl; faults = omega arith }

pub stays_then : {a b c : PlanState} → Stays a b → Stays b c → Stays a c
stays_then f g = record {
  told = g.told ∙ f.told;
  shape = g.shape ∙ f.shape;
  start = g.start ∙ f.start;
  other = g.other ∙ f.other;
  own = g.own ∙ f.own;
  faults = omega (arith, f.faults, g.faults);
}

cause_earlier : (a b c : PlanState) (stop : Stop) → Stays a b → HasCause b c stop → HasCause a c stop
cause_earlier a b c (WasHeld r t) s h = ap (λ f. f r) (sym s.other) ∙ h
cause_earlier a b c (WasRefused refusal) s h = tt
cause_earlier a b c (HasFailed p) s h = let l = s.faults in omega (arith, l, h)
cause_earlier a b c WasShort s h = tt

causes_earlier : {A E : Type 0} (meaning : E → Stop) (a b c : PlanState) (result : Result A E) → Stays a b
    → IfErr result (λ e. HasCause b c (meaning e)) → IfErr result (λ e. HasCause a c (meaning e))
causes_earlier meaning a b c (Ok x) s h = h
causes_earlier meaning a b c (Err e) s h = cause_earlier a b c (meaning e) s h

-- ---- chains

-- the first call gave a value, and the second did what comes behind
pub does_after : {A B E : Type 0} {meaning : E → Stop} {looked : List ℕ} {a b c : PlanState} {plan : Plan A} (next : A → Plan B) {x : A} {result : Result B E}
    → DoesAs meaning looked a b plan (Ok x) → DoesAs meaning (looked ++ (plan a.view).reached) b c (next x) result → DoesAs meaning looked a c (plan then next) result
unfolding ◌then◌
does_after {A} {B} {E} {meaning} {looked} {a} {b} {c} {plan} next {x} {result} f g = record {
  exact = λ told. let reached = (plan a.view).reached in
      answer_same meaning looked c.view result (ap (λ (e : End A). gone_on reached e next) (sym (f.exact told)))
      (answer_later meaning looked reached (next x b.view) c.view result (g.exact (f.stays.told ∙ told)));
  stays = stays_then f.stays g.stays;
  cause = causes_earlier meaning a b c result f.stays g.cause;
}

-- what was reached before may be more
stop_within : {A : Type 0} (less more : List ℕ) (outcome : Outcome A) (stop : Stop) → ((p : ℕ) → Contains less p → Contains more p)
    → MayStop less outcome stop → MayStop more outcome stop
stop_within less more outcome (WasHeld r t) w h = h
stop_within less more outcome (WasRefused refusal) w h = h
stop_within less more outcome (HasFailed p) w h = elim (Contains-append_cases less outcome.reached p h) [
  | inl before ↦ Contains-append_left more outcome.reached p (w p before)
  | inr here ↦ Contains-append_right more outcome.reached p here
]
stop_within less more outcome WasShort w h = tt

answer_within : {A E : Type 0} (meaning : E → Stop) (less more : List ℕ) (outcome : Outcome A) (view : View) (result : Result A E)
    → ((p : ℕ) → Contains less p → Contains more p) → MayAnswer meaning less outcome view result → MayAnswer meaning more outcome view result
answer_within meaning less more outcome view (Ok x) w h = h
answer_within meaning less more outcome view (Err e) w h = stop_within less more outcome (meaning e) w h

pub does_within : {A E : Type 0} {meaning : E → Stop} {less : List ℕ} (more : List ℕ) {a b : PlanState} {plan : Plan A} {result : Result A E}
    → (IsTrue a.told → (p : ℕ) → Contains less p → Contains more p) → DoesAs meaning less a b plan result → DoesAs meaning more a b plan result
does_within {A} {E} {meaning} {less} more {a} {b} {plan} {result} w d = record {
  exact = λ told. answer_within meaning less more (plan a.view) b.view result (w told) (d.exact told);
  stays = d.stays;
  cause = d.cause;
}

none_before : (p : ℕ) → let none : List ℕ = [] in Contains none p → ⊥
none_before p h = omega (arith, h.1)

pub does_more : {A E : Type 0} {meaning : E → Stop} (looked : List ℕ) {a b : PlanState} {plan : Plan A} {result : Result A E}
    → DoesAs meaning [] a b plan result → DoesAs meaning looked a b plan result
does_more looked d = does_within looked (λ told p h. absurd (none_before p h)) d

pub does_then : {A B E : Type 0} {meaning : E → Stop} {a b c : PlanState} {plan : Plan A} (next : A → Plan B) {x : A} {result : Result B E}
    → DoesAs meaning [] a b plan (Ok x) → DoesAs meaning [] b c (next x) result → DoesAs meaning [] a c (plan then next) result
does_then next f g = does_after next f (does_more _ g)

-- the first call stopped, and nothing comes behind
longer : {A B : Type 0} (looked reached : List ℕ) (p : ℕ) (e : End A) (next : A → Plan B) → Contains (looked ++ reached) p → Contains (looked ++ (gone_on reached e next).reached) p
longer looked reached p (Gives x v) next h = elim (Contains-append_cases looked reached p h) [
  | inl before ↦ Contains-append_left looked _ p before
  | inr here ↦ Contains-append_right looked _ p (Contains-append_left reached (next x v).reached p here)
]
longer looked reached p (Stops refusal) next h = h

stop_then : {A B : Type 0} (looked : List ℕ) (outcome : Outcome A) (next : A → Plan B) (stop : Stop)
    → MayStop looked outcome stop → MayStop looked (gone_on outcome.reached outcome.ending next) stop
stop_then {A} looked outcome next (WasHeld r t) h = ap (λ (e : End A). (gone_on outcome.reached e next).ending) h
stop_then {A} looked outcome next (WasRefused refusal) h = ap (λ (e : End A). (gone_on outcome.reached e next).ending) h
stop_then looked outcome next (HasFailed p) h = longer looked outcome.reached p outcome.ending next h
stop_then looked outcome next WasShort h = tt

-- the errors of the first call may be read otherwise than those of the chain
pub does_stop : {A B E D : Type 0} {meaning : E → Stop} {looked : List ℕ} {a b : PlanState} {plan : Plan A} (reading : D → Stop) (next : A → Plan B) {stop : E} (other : D)
    → reading other ≡ meaning stop → DoesAs meaning looked a b plan (Err stop) → DoesAs {A = B} reading looked a b (plan then next) (Err other)
unfolding ◌then◌
does_stop {meaning = meaning} {looked} {a} {b} {plan} reading next {stop} other same f = record {
  exact = λ told. subst (λ (s : Stop). MayStop looked (gone_on (plan a.view).reached (plan a.view).ending next) s) (sym same) (stop_then looked (plan a.view) next (meaning stop) (f.exact told));
  stays = f.stays;
  cause = subst (λ (s : Stop). HasCause a b s) (sym same) f.cause;
}

stop_at : {A B E : Type 0} {meaning : E → Stop} {looked : List ℕ} {a b : PlanState} {plan : Plan A} (next : A → Plan B) (stop : E) (r : Result B E)
    → DoesAs meaning looked a b plan (Err stop) → r ≡ Err stop → DoesAs meaning looked a b (plan then next) r
stop_at {meaning = meaning} next stop r f e = rw e (does_stop meaning next stop refl f)

-- the same, where the stop is handed on by `?`
pub does_exit : {A B E : Type 0} {meaning : E → Stop} {looked : List ℕ} {a b : PlanState} {plan : Plan A} (next : A → Plan B) {stop : E} {r : Result B E}
    → DoesAs meaning looked a b plan (Err stop) → IsErrAnd r (λ s. s ≡ stop) → DoesAs meaning looked a b (plan then next) r
does_exit next {stop} {r} f h = let p = err_from_is_err_and r h in stop_at next stop r f (p.1 ∙ ap Err p.2)

-- ---- words that read nothing

pub does_give : {A E : Type 0} {meaning : E → Stop} (looked : List ℕ) (a : PlanState) (x : A) → DoesAs meaning looked a a (give x) (Ok x)
unfolding give
does_give looked a x = record { exact = λ told. refl; stays = stays_same a; cause = tt }

pub does_refuse : {A E : Type 0} {meaning : E → Stop} (looked : List ℕ) (a : PlanState) (refusal : Refusal) (e : E) → meaning e ≡ WasRefused refusal
    → DoesAs {A = A} meaning looked a a (refuse refusal) (Err e)
unfolding refuse
does_refuse {A} looked a refusal e means = record {
  exact = λ told. subst (λ (s : Stop). MayStop {A = A} looked (ended [] (Stops refusal)) s) (sym means) refl;
  stays = stays_same a;
  cause = subst (λ (s : Stop). HasCause a a s) (sym means) tt;
}

-- a value that is that of the view, where the view is told
pub does_see : {A E : Type 0} {meaning : E → Stop} (looked : List ℕ) (a : PlanState) (f : View → A) (x : A) → (IsTrue a.told → x ≡ f a.view)
    → DoesAs meaning looked a a (sees f) (Ok x)
unfolding sees
does_see looked a f x h = record { exact = λ told. ap (λ y. Gives y a.view) (sym (h told)); stays = stays_same a; cause = tt }

-- what is asked of a page holds, or it doesn't
pub does_good : {E : Type 0} {meaning : E → Stop} (looked : List ℕ) (a : PlanState) (good : Bool) (p : ℕ) → (IsTrue a.told → good ≡ true)
    → DoesAs meaning looked a a (where_good good p) (Ok tt)
unfolding where_good
does_good looked a good p h = record { exact = λ told. rw (h told) refl; stays = stays_same a; cause = tt }

pub does_bad : {E : Type 0} {meaning : E → Stop} (looked : List ℕ) (a : PlanState) (good : Bool) (p : ℕ) (e : E) → meaning e ≡ WasRefused (bad_page p)
    → (IsTrue a.told → good ≡ false) → DoesAs meaning looked a a (where_good good p) (Err e)
unfolding where_good
does_bad looked a good p e means h = record {
  exact = λ told. subst (λ (s : Stop). MayStop looked (where_good good p a.view) s) (sym means) (rw (h told) refl);
  stays = stays_same a;
  cause = subst (λ (s : Stop). HasCause a a s) (sym means) tt;
}
