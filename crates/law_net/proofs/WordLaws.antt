-- What the words of plans keep: a plan leads to what each way through it leads to.
use Rattle.std.proofs.Common.{◌≡◌, ℕ, Bool, true, false, List, [], ◌∷◌, Option, Some, None, refl}
use Rattle.std.specs.Prelude.{if◌then◌else◌}
use Rattle.spec_file.specs.declared.data.Resource.{Resource}
use Rattle.spec_file.specs.Image.{page}
use Rattle.spec_log.specs.declared.item.Cell.{Cell}
use Rattle.spec_script.specs.declared.reply.Refusal.{Refusal}
use Rattle.spec_words.specs.Views.{View, End, Gives, Stops, Outcome, Plan}
use Rattle.law_net.specs.GoodViews.{IfGives, Leads}
use Rattle.spec_words.specs.Words.{◌then◌, gone_on, ended, by_holder, give, refuse, sees, unless_held, where_good, look, reach, take, write, with_taken, written, found_or, for_each, all_of}

gone : {A B : Type 0} (reached : List ℕ) (o : End A) (next : A → Plan B) (K : B → View → Type 0) → IfGives (λ x w. Leads (next x) w K) o → IfGives K (gone_on reached o next).ending
gone reached (Gives x view) next K h = h
gone reached (Stops refusal) next K h = tt

pub leads_then : {A B : Type 0} (plan : Plan A) (next : A → Plan B) (v : View) (K : B → View → Type 0) → Leads plan v (λ x w. Leads (next x) w K) → Leads (plan then next) v K
unfolding ◌then◌
leads_then plan next v K h = gone (plan v).reached (plan v).ending next K h

pub leads_give : {A : Type 0} (x : A) (v : View) (K : A → View → Type 0) → K x v → Leads (give x) v K
unfolding give
leads_give x v K h = h

pub leads_refuse : {A : Type 0} (refusal : Refusal) (v : View) (K : A → View → Type 0) → Leads (refuse refusal) v K
unfolding refuse
leads_refuse refusal v K = tt

pub leads_sees : {A : Type 0} (f : View → A) (v : View) (K : A → View → Type 0) → K (f v) v → Leads (sees f) v K
unfolding sees
leads_sees f v K h = h

free_holder : {A : Type 0} (r : Resource) (o : Option ℕ) (free : Outcome A) (K : A → View → Type 0) → (o ≡ None → IfGives K free.ending) → IfGives K (by_holder r o free).ending
free_holder r None free K h = h refl
free_holder r (Some t) free K h = tt

pub leads_held : (r : Resource) (v : View) (K : Unit {0} → View → Type 0) → (v.other r ≡ None → K tt v) → Leads (unless_held r) v K
unfolding unless_held
leads_held r v K h = free_holder r (v.other r) (ended [] (Gives tt v)) K h

pub leads_good : (good : Bool) (p : ℕ) (v : View) (K : Unit {0} → View → Type 0) → (good ≡ true → K tt v) → Leads (where_good good p) v K
unfolding where_good
leads_good true p v K h = h refl
leads_good false p v K h = tt

pub leads_look : (r : Resource) (p : ℕ) (v : View) (K : List ℕ → View → Type 0) → (v.other r ≡ None → K (page v.now p) v) → Leads (look r p) v K
unfolding look
leads_look r p v K h = free_holder r (v.other r) (ended (p ∷ []) (Gives (page v.now p) v)) K h

pub leads_reach : (p : ℕ) (v : View) (K : List ℕ → View → Type 0) → K (page v.now p) v → Leads (reach p) v K
unfolding reach
leads_reach p v K h = h

pub leads_take : (r : Resource) (v : View) (K : Unit {0} → View → Type 0) → (v.other r ≡ None → K tt (with_taken r v)) → Leads (take r) v K
unfolding take
leads_take r v K h = free_holder r (v.other r) (ended [] (Gives tt (with_taken r v))) K h

pub leads_write : (r : Resource) (cell : Cell) (bytes : List ℕ) (v : View) (K : Unit {0} → View → Type 0) → (v.other r ≡ None → K tt (written cell bytes (with_taken r v))) →
    Leads (write r cell bytes) v K
unfolding write
leads_write r cell bytes v K h = free_holder r (v.other r) (ended [] (Gives tt (written cell bytes (with_taken r v)))) K h

pub leads_found : {A : Type 0} (o : Option A) (other : Plan A) (v : View) (K : A → View → Type 0) → ((x : A) → o ≡ Some x → K x v) → (o ≡ None → Leads other v K) → Leads (found_or o other) v K
leads_found None other v K some none = none refl
leads_found (Some x) other v K some none = leads_give x v K (some x refl)

-- what a plan leads to weakens
pub leads_weaker : {A : Type 0} (plan : Plan A) (v : View) (K L : A → View → Type 0) → ((x : A) (w : View) → K x w → L x w) → Leads plan v K → Leads plan v L
leads_weaker {A = A} plan v K L w h = weaker (plan v).ending h
  where
    weaker : (o : End A) → IfGives K o → IfGives L o
    weaker (Gives x view) h = w x view h
    weaker (Stops refusal) h = h

-- one after another: what each keeps, all keep
pub leads_each : (each : ℕ → Plan (Unit {0})) (xs : List ℕ) (I : View → Type 0) (v : View) → ((x : ℕ) (w : View) → I w → Leads (each x) w (λ u. I)) → I v → Leads (for_each each xs) v (λ u. I)
unfolding for_each
leads_each each [] I v all h = leads_give tt v (λ u. I) h
leads_each each (x ∷ xs) I v all h =
    leads_then (each x) (λ u. for_each each xs) v (λ u. I) (leads_weaker (each x) v (λ u. I) (λ u w. Leads (for_each each xs) w (λ s. I)) (λ u w i. leads_each each xs I w all i) (all x v h))

-- what each gives, all give, and what each keeps they keep
pub leads_all : {A : Type 0} (each : ℕ → Plan A) (xs : List ℕ) (I : View → Type 0) (v : View) → ((x : ℕ) (w : View) → I w → Leads (each x) w (λ a. I)) → I v → Leads (all_of each xs) v (λ xs. I)
unfolding all_of
leads_all each [] I v all h = leads_give [] v (λ xs. I) h
leads_all each (x ∷ xs) I v all h =
    leads_then (each x) (λ first. all_of each xs then (λ rest. give (first ∷ rest))) v (λ xs. I)
    (leads_weaker (each x) v (λ a. I) (λ first w. Leads (all_of each xs then (λ rest. give (first ∷ rest))) w (λ xs. I))
    (λ first w i.
    leads_then (all_of each xs) (λ rest. give (first ∷ rest)) w (λ xs. I)
    (leads_weaker (all_of each xs) w (λ xs. I) (λ rest u. Leads (give (first ∷ rest)) u (λ xs. I)) (λ rest u k. leads_give (first ∷ rest) u (λ xs. I) k) (leads_all each xs I w all i)))
    (all x v h))
