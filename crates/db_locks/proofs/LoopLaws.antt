-- Loops over numbers do what plans over lists say: of a part that is done and a part that is to come.
use Rattle.std.proofs.Common.{◌≡◌, ℕ, List, [], ◌∷◌, ◌++◌, Contains, Option, Some, None, Result, Ok, Err, refl, sym, ap, ◌∙◌, subst, ◌<◌, ◌≤◌, ◌+◌, suc, length, map, drop, get_or, arith}
use Rattle.std.proofs.Math.Seq.{drop-cons}
use Rattle.std.proofs.Math.ListN.{drop_of_length-le}
use Rattle.spec_file.specs.declared.data.PageNo.{PageNo}
use Rattle.std.specs.Prelude.{IsErrAnd}
use Rattle.std.proofs.lemmas.List.{append_assoc, append-nil}
use Rattle.std.proofs.lemmas.List.Elements.{Contains-append_left}
use Rattle.spec_words.specs.Views.{View, End, Gives, Stops, Outcome, Plan}
use Rattle.spec_words.specs.Words.{ended, gone_on, ◌then◌, give, first_of, for_each, all_of}
use Rattle.db_locks.specs.States.{PlanState}
use Rattle.db_locks.specs.Does.{Stop, Stays, DoesAs}
use Rattle.db_locks.proofs.PlanLaws.{stays_same, stays_then, does_after, does_exit, does_within, does_give}
use Rattle.db_locks.proofs.WordLaws.{does_as}

-- what is to be done of a whole plan, after its first part
pub record Leads {A E : Type 0} (meaning : E → Stop) (looked : List ℕ) (a b : PlanState) (whole rest : Plan A) : Type 0 where
  pub stays : Stays a b
  pub lead : (c : PlanState) (result : Result A E) → DoesAs meaning looked b c rest result → DoesAs meaning looked a c whole result

pub leads_none : {A E : Type 0} (meaning : E → Stop) (looked : List ℕ) (a : PlanState) (whole : Plan A) → Leads meaning looked a a whole whole
leads_none meaning looked a whole = record { stays = stays_same a; lead = λ c result d. d }

-- pages that were reached count as well where more were
pub does_further : {A E : Type 0} {meaning : E → Stop} {looked : List ℕ} (reached : List ℕ) {a b : PlanState} {plan : Plan A} {result : Result A E}
    → DoesAs meaning looked a b plan result → DoesAs meaning (looked ++ reached) a b plan result
does_further {looked = looked} reached d = does_within (looked ++ reached) (λ told p h. Contains-append_left looked reached p h) d

-- a step of the plan gave a value
pub leads_then : {A B E : Type 0} {meaning : E → Stop} {looked : List ℕ} {a b c : PlanState} {whole : Plan B} {plan : Plan A} (next : A → Plan B) (x : A)
    → Leads meaning looked a b whole (plan then next) → DoesAs meaning looked b c plan (Ok x) → Leads meaning looked a c whole (next x)
leads_then {b = b} {plan = plan} next x l d = record {
  stays = stays_then l.stays d.stays;
  lead = λ e result rest. l.lead e result (does_after next d (does_further (plan b.view).reached rest));
}

-- a step stopped, and `?` hands that on
pub leads_exit : {A B E : Type 0} {meaning : E → Stop} {looked : List ℕ} {a b c : PlanState} {whole : Plan B} {plan : Plan A} (next : A → Plan B) {stop : E} {result : Result B E}
    → Leads meaning looked a b whole (plan then next) → DoesAs meaning looked b c plan (Err stop) → IsErrAnd result (λ s. s ≡ stop) → DoesAs meaning looked a c whole result
leads_exit {c = c} next {result = result} l d h = l.lead c result (does_exit next d h)

-- the rest may be said otherwise
pub leads_as : {A E : Type 0} {meaning : E → Stop} {looked : List ℕ} {a b : PlanState} {whole rest : Plan A} (other : Plan A)
    → ((view : View) → other view ≡ rest view) → Leads meaning looked a b whole rest → Leads meaning looked a b whole other
leads_as {A} {E} {meaning} {looked} {a} {b} {whole} {rest} other same l = record {
  stays = l.stays;
  lead = λ c result d. l.lead c result (does_as rest (λ told. ap (λ (o : Outcome A). o.ending) (same b.view)) (λ told p h. subst (λ (o : Outcome A). Contains (looked ++ o.reached) p) (same b.view) h) d);
}

-- ---- for_each

pub each_step : {E : Type 0} {meaning : E → Stop} {looked : List ℕ} {a b c : PlanState} {whole : Plan (Unit {0})} (each : ℕ → Plan (Unit {0})) (x : ℕ) (xs : List ℕ)
    → Leads meaning looked a b whole (for_each each (x ∷ xs)) → DoesAs meaning looked b c (each x) (Ok tt) → Leads meaning looked a c whole (for_each each xs)
unfolding for_each
each_step each x xs l d = leads_then (λ _. for_each each xs) tt l d

pub each_exit : {E : Type 0} {meaning : E → Stop} {looked : List ℕ} {a b c : PlanState} {whole : Plan (Unit {0})} (each : ℕ → Plan (Unit {0})) (x : ℕ) (xs : List ℕ) {stop : E} {result : Result (Unit {0}) E}
    → Leads meaning looked a b whole (for_each each (x ∷ xs)) → DoesAs meaning looked b c (each x) (Err stop) → IsErrAnd result (λ s. s ≡ stop) → DoesAs meaning looked a c whole result
unfolding for_each
each_exit each x xs l d h = leads_exit (λ _. for_each each xs) l d h

pub each_end : {E : Type 0} {meaning : E → Stop} {looked : List ℕ} {a b : PlanState} {whole : Plan (Unit {0})} (each : ℕ → Plan (Unit {0}))
    → Leads meaning looked a b whole (for_each each []) → DoesAs meaning looked a b whole (Ok tt)
unfolding for_each
each_end {looked = looked} {b = b} each l = l.lead b (Ok tt) (does_give looked b tt)

-- ---- first_of

-- one of the numbers gave nothing
pub first_more : {A E : Type 0} {meaning : E → Stop} {looked : List ℕ} {a b c : PlanState} {whole : Plan (Option A)} (try : ℕ → Plan (Option A)) (x : ℕ) (xs : List ℕ)
    → Leads meaning looked a b whole (first_of try (x ∷ xs)) → DoesAs meaning looked b c (try x) (Ok None) → Leads meaning looked a c whole (first_of try xs)
unfolding first_of
first_more try x xs l d = leads_then _ None l d

pub first_found : {A E : Type 0} {meaning : E → Stop} {looked : List ℕ} {a b c : PlanState} {whole : Plan (Option A)} (try : ℕ → Plan (Option A)) (x : ℕ) (xs : List ℕ) (found : A)
    → Leads meaning looked a b whole (first_of try (x ∷ xs)) → DoesAs meaning looked b c (try x) (Ok (Some found)) → DoesAs meaning looked a c whole (Ok (Some found))
unfolding first_of
first_found {looked = looked} {c = c} try x xs found l d = (leads_then _ (Some found) l d).lead c (Ok (Some found)) (does_give looked c (Some found))

pub first_exit : {A E : Type 0} {meaning : E → Stop} {looked : List ℕ} {a b c : PlanState} {whole : Plan (Option A)} (try : ℕ → Plan (Option A)) (x : ℕ) (xs : List ℕ) {stop : E} {result : Result (Option A) E}
    → Leads meaning looked a b whole (first_of try (x ∷ xs)) → DoesAs meaning looked b c (try x) (Err stop) → IsErrAnd result (λ s. s ≡ stop) → DoesAs meaning looked a c whole result
unfolding first_of
first_exit try x xs l d h = leads_exit _ l d h

pub first_end : {A E : Type 0} {meaning : E → Stop} {looked : List ℕ} {a b : PlanState} {whole : Plan (Option A)} (try : ℕ → Plan (Option A))
    → Leads meaning looked a b whole (first_of try []) → DoesAs meaning looked a b whole (Ok None)
unfolding first_of
first_end {looked = looked} {b = b} try l = l.lead b (Ok None) (does_give looked b None)

-- ---- all_of

-- what is found of the rest stands behind what was found
abbrev pub rest_of : {A : Type 0} → (ℕ → Plan A) → List A → List ℕ → Plan (List A)
rest_of each found xs = all_of each xs then (λ rest. give (found ++ rest))

pub all_begin : {A E : Type 0} (meaning : E → Stop) (looked : List ℕ) (a : PlanState) (each : ℕ → Plan A) (xs : List ℕ)
    → Leads meaning looked a a (all_of each xs) (rest_of each [] xs)
unfolding ◌then◌ give
all_begin {A} meaning looked a each xs = leads_as (rest_of each [] xs) (λ view. by_end (all_of each xs view).reached (all_of each xs view).ending) (leads_none meaning looked a (all_of each xs))
  where
    by_end : (reached : List ℕ) (ending : End (List A)) → gone_on reached ending (λ rest. give rest) ≡ ended reached ending
    by_end reached (Gives x v) = ap (λ ps. ended ps (Gives x v)) (append-nil reached)
    by_end reached (Stops refusal) = refl

-- the first of the rest, and then the others
abbrev step_of : {A : Type 0} → (ℕ → Plan A) → List A → ℕ → List ℕ → Plan (List A)
step_of each found x xs = each x then (λ first. rest_of each (found ++ first ∷ []) xs)

others_as : {A : Type 0} (found : List A) (y : A) (before reached : List ℕ) (ending : End (List A))
    → let given = gone_on reached ending (λ rest. give (y ∷ rest)) in
    gone_on (before ++ given.reached) given.ending (λ rest. give (found ++ rest))
    ≡ ended (before ++ (gone_on reached ending (λ rest. give ((found ++ y ∷ []) ++ rest))).reached) (gone_on reached ending (λ rest. give ((found ++ y ∷ []) ++ rest))).ending
unfolding give
others_as found y before reached (Gives ys w) =
    ap (λ ps. ended ps (Gives (found ++ (y ∷ ys)) w)) (append-nil (before ++ (reached ++ [])))
    ∙ ap (λ all. ended (before ++ (reached ++ [])) (Gives all w)) (sym (append_assoc found (y ∷ []) ys))
others_as found y before reached (Stops refusal) = refl

steps_as : {A : Type 0} (each : ℕ → Plan A) (found : List A) (xs : List ℕ) (before : List ℕ) (ending : End A)
    → let given = gone_on before ending (λ first. all_of each xs then (λ rest. give (first ∷ rest))) in
    gone_on given.reached given.ending (λ rest. give (found ++ rest)) ≡ gone_on before ending (λ first. rest_of each (found ++ first ∷ []) xs)
unfolding ◌then◌
steps_as each found xs before (Gives y v) = others_as found y before (all_of each xs v).reached (all_of each xs v).ending
steps_as each found xs before (Stops refusal) = refl

split : {A : Type 0} (each : ℕ → Plan A) (found : List A) (x : ℕ) (xs : List ℕ) (view : View) → step_of each found x xs view ≡ rest_of each found (x ∷ xs) view
unfolding ◌then◌ all_of
split each found x xs view = sym (steps_as each found xs (each x view).reached (each x view).ending)

pub all_step : {A E : Type 0} {meaning : E → Stop} {looked : List ℕ} {a b c : PlanState} {whole : Plan (List A)} (each : ℕ → Plan A) (found : List A) (x : ℕ) (xs : List ℕ) (y : A)
    → Leads meaning looked a b whole (rest_of each found (x ∷ xs)) → DoesAs meaning looked b c (each x) (Ok y) → Leads meaning looked a c whole (rest_of each (found ++ y ∷ []) xs)
all_step each found x xs y l d = leads_then _ y (leads_as (step_of each found x xs) (split each found x xs) l) d

pub all_exit : {A E : Type 0} {meaning : E → Stop} {looked : List ℕ} {a b c : PlanState} {whole : Plan (List A)} (each : ℕ → Plan A) (found : List A) (x : ℕ) (xs : List ℕ) {stop : E} {result : Result (List A) E}
    → Leads meaning looked a b whole (rest_of each found (x ∷ xs)) → DoesAs meaning looked b c (each x) (Err stop) → IsErrAnd result (λ s. s ≡ stop) → DoesAs meaning looked a c whole result
all_exit each found x xs l d h = leads_exit _ (leads_as (step_of each found x xs) (split each found x xs) l) d h

none_left : {A : Type 0} (each : ℕ → Plan A) (found : List A) (view : View) → give found view ≡ rest_of each found [] view
unfolding ◌then◌ give all_of
none_left each found view = ap (λ all. ended [] (Gives all view)) (sym (append-nil found))

pub all_end : {A E : Type 0} {meaning : E → Stop} {looked : List ℕ} {a b : PlanState} {whole : Plan (List A)} (each : ℕ → Plan A) (found : List A)
    → Leads meaning looked a b whole (rest_of each found []) → DoesAs meaning looked a b whole (Ok found)
all_end {looked = looked} {b = b} each found l = (leads_as (give found) (none_left each found) l).lead b (Ok found) (does_give looked b found)

-- ---- numbers of pages that a loop goes over

abbrev pub numbers : List PageNo → List ℕ
numbers pages = map (λ p. p.0) pages

pub numbers_step : (pages : List PageNo) (i : ℕ) (d : PageNo) → i < length pages → numbers (drop i pages) ≡ (get_or pages i d).0 ∷ numbers (drop (i + 1) pages)
numbers_step pages i d lt = let next : suc i ≡ i + 1 = omega arith in ap numbers (drop-cons pages i d lt) ∙ ap (λ k. (get_or pages i d).0 ∷ numbers (drop k pages)) next

pub numbers_end : (pages : List PageNo) (i : ℕ) → length pages ≤ i → numbers (drop i pages) ≡ []
numbers_end pages i ge = ap numbers (drop_of_length-le pages ge)
