-- What holds of finitely many can be listed in order: not by an algorithm, so all is said of a goal that is no
-- more than a contradiction.
use Rattle.std.proofs.Common.{◌≡◌, ◌⊎◌, List, [], ◌∷◌, Contains, Ordering, refl, sym, ap, subst, ◌∙◌, inl, inr, ⊎_elim}
use Rattle.std.specs.Cmp.{IsTotalOrder}
use Rattle.std.specs.List.{AllByRecursion}
use Rattle.std.specs.List.Sorted.{IsStrictlySortedBy}
use Rattle.std.specs.Ordering.{ordering_reverse}
use Rattle.std.specs.declared.cmp.Ordering.TheVariants.{Less, Equal, Greater}
use Rattle.spec_check.proofs.Members.{nothing_there, cons_cases, cons_here, cons_there, below, rest_sorted, sorted_none, not_both}

-- a case split, where only a contradiction is wanted
pub decided : (P : Type 0) → (P ⊎ (P → ⊥) → ⊥) → ⊥
decided P h = h (inr (λ p. h (inl p)))

all_from : {X : Type 0} (P : X → Type 0) (xs : List X) → ((x : X) → Contains xs x → P x) → AllByRecursion P xs
all_from P [] h = tt
all_from P (x ∷ xs) h = (h x (cons_here x xs), all_from P xs (λ z there. h z (cons_there x xs z there)))

sorted_cons : {K : Type 0} (R : K → K → Ordering) (x : K) (xs : List K) → ((z : K) → Contains xs z → R x z ≡ Less)
    → IsStrictlySortedBy R xs → IsStrictlySortedBy R (x ∷ xs)
unfolding IsStrictlySortedBy
sorted_cons R x xs less sorted = (all_from (λ z. R x z ≡ Less) xs less, sorted)

-- the list with x at its place
record IsPlaced {K : Type 0} (R : K → K → Ordering) (x : K) (xs : List K) : Type 0 where
  pub with : List K
  pub sorted : IsStrictlySortedBy R with
  pub sound : (z : K) → Contains with z → (x ≡ z) ⊎ Contains xs z
  pub complete : (z : K) → (x ≡ z) ⊎ Contains xs z → Contains with z

-- ties are equal
abbrev pub TiesAreEqual : {K : Type 0} → (K → K → Ordering) → Type 0
TiesAreEqual {K} R = (x y : K) → R x y ≡ Equal → x ≡ y

compared : (c : Ordering) → (c ≡ Less) ⊎ ((c ≡ Equal) ⊎ (c ≡ Greater))
compared Less = inl refl
compared Equal = inr (inl refl)
compared Greater = inr (inr refl)

front : {K : Type 0} (R : K → K → Ordering) → IsTotalOrder R → (x y : K) (ys : List K) → IsStrictlySortedBy R (y ∷ ys) → R x y ≡ Less → IsPlaced R x (y ∷ ys)
front R o x y ys sorted less = record {
  with = x ∷ y ∷ ys;
  sorted = sorted_cons R x (y ∷ ys) (λ z h. ⊎_elim (λ here. subst (λ w. R x w ≡ Less) here less)
      (λ there. o.trans x y z less (below R y ys z sorted there)) (cons_cases y ys z h)) sorted;
  sound = λ z h. cons_cases x (y ∷ ys) z h;
  complete = λ z h. ⊎_elim (λ here. subst (Contains (x ∷ y ∷ ys)) here (cons_here x (y ∷ ys))) (λ there. cons_there x (y ∷ ys) z there) h;
}

tied : {K : Type 0} (R : K → K → Ordering) (x y : K) (ys : List K) → IsStrictlySortedBy R (y ∷ ys) → x ≡ y → IsPlaced R x (y ∷ ys)
tied R x y ys sorted same = record {
  with = y ∷ ys;
  sorted = sorted;
  sound = λ z h. inr h;
  complete = λ z h. ⊎_elim (λ here. subst (Contains (y ∷ ys)) (sym same ∙ here) (cons_here y ys)) (λ there. there) h;
}

behind : {K : Type 0} (R : K → K → Ordering) (x y : K) (ys : List K) → IsStrictlySortedBy R (y ∷ ys) → R y x ≡ Less → IsPlaced R x ys → IsPlaced R x (y ∷ ys)
behind R x y ys sorted less rest = record {
  with = y ∷ rest.with;
  sorted = sorted_cons R y rest.with (λ z h. ⊎_elim (λ here. subst (λ w. R y w ≡ Less) here less) (λ there. below R y ys z sorted there) (rest.sound z h)) rest.sorted;
  sound = λ z h. ⊎_elim (λ here. inr (subst (Contains (y ∷ ys)) here (cons_here y ys)))
      (λ there. ⊎_elim (λ is. inl is) (λ old. inr (cons_there y ys z old)) (rest.sound z there)) (cons_cases y rest.with z h);
  complete = λ z h. ⊎_elim (λ is. cons_there y rest.with z (rest.complete z (inl is)))
      (λ old. ⊎_elim (λ here. subst (Contains (y ∷ rest.with)) here (cons_here y rest.with))
      (λ there. cons_there y rest.with z (rest.complete z (inr there))) (cons_cases y ys z old)) h;
}

placed : {K : Type 0} (R : K → K → Ordering) → IsTotalOrder R → TiesAreEqual R → (x : K) (xs : List K) → IsStrictlySortedBy R xs → IsPlaced R x xs
placed R o ties x [] sorted = record {
  with = x ∷ [];
  sorted = sorted_cons R x [] (λ z h. absurd (nothing_there z h)) (sorted_none R);
  sound = λ z h. cons_cases x [] z h;
  complete = λ z h. ⊎_elim (λ here. subst (Contains (x ∷ [])) here (cons_here x [])) (λ there. absurd (nothing_there z there)) h;
}
placed R o ties x (y ∷ ys) sorted = elim (compared (R x y)) [
  | inl less ↦ front R o x y ys sorted less
  | inr (inl tie) ↦ tied R x y ys sorted (ties x y tie)
  | inr (inr more) ↦ behind R x y ys sorted (o.antisymm y x ∙ ap ordering_reverse more) (placed R o ties x ys (rest_sorted R y ys sorted))
]

-- the list has what is asked for, among these candidates
pub record ListsOf {K : Type 0} (R : K → K → Ordering) (P : K → Type 0) (candidates : List K) : Type 0 where
  pub found : List K
  pub sorted : IsStrictlySortedBy R found
  pub sound : (z : K) → Contains found z → P z
  pub complete : (z : K) → Contains candidates z → P z → Contains found z

with_one : {K : Type 0} (R : K → K → Ordering) → IsTotalOrder R → TiesAreEqual R → (P : K → Type 0) (x : K) (xs : List K) → P x → ListsOf R P xs → ListsOf R P (x ∷ xs)
with_one R o ties P x xs is rest =
    let at = placed R o ties x rest.found rest.sorted in record {
      found = at.with;
      sorted = at.sorted;
      sound = λ z h. ⊎_elim (λ here. subst P here is) (λ there. rest.sound z there) (at.sound z h);
      complete = λ z h p. at.complete z (⊎_elim (λ here. inl here) (λ there. inr (rest.complete z there p)) (cons_cases x xs z h));
    }

without_one : {K : Type 0} (R : K → K → Ordering) (P : K → Type 0) (x : K) (xs : List K) → (P x → ⊥) → ListsOf R P xs → ListsOf R P (x ∷ xs)
without_one R P x xs other rest = record {
  found = rest.found;
  sorted = rest.sorted;
  sound = rest.sound;
  complete = λ z h p. ⊎_elim (λ here. absurd (other (subst P (sym here) p))) (λ there. rest.complete z there p) (cons_cases x xs z h);
}

pub listed : {K : Type 0} (R : K → K → Ordering) → IsTotalOrder R → TiesAreEqual R → (P : K → Type 0) (candidates : List K) → (ListsOf R P candidates → ⊥) → ⊥
listed R o ties P [] h = h (record { found = []; sorted = sorted_none R; sound = λ z there. absurd (nothing_there z there); complete = λ z there p. there })
listed R o ties P (x ∷ xs) h = listed R o ties P xs (λ rest. decided (P x) (λ cases. ⊎_elim
    (λ is. h (with_one R o ties P x xs is rest)) (λ other. h (without_one R P x xs other rest)) cases))

-- a list with two members that differ begins with two
pub has_two : {X : Type 0} (xs : List X) (a b : X) → Contains xs a → Contains xs b → (a ≡ b → ⊥) → (first second : X) × (rest : List X) × (xs ≡ first ∷ second ∷ rest)
has_two [] a b at_a at_b differ = absurd (nothing_there a at_a)
has_two (x ∷ []) a b at_a at_b differ = absurd (⊎_elim (λ here. ⊎_elim (λ too. differ (sym here ∙ too)) (λ no_. nothing_there b no_) (cons_cases x [] b at_b))
    (λ no_. nothing_there a no_) (cons_cases x [] a at_a))
has_two (x ∷ y ∷ xs) a b at_a at_b differ = (x, y, xs, refl)

-- the first two of a sorted list differ
pub two_differ : {K : Type 0} (R : K → K → Ordering) → IsTotalOrder R → (xs : List K) (a b : K) (rest : List K) → IsStrictlySortedBy R xs → xs ≡ a ∷ b ∷ rest → a ≡ b → ⊥
two_differ R o xs a b rest sorted is same =
    let less = below R a (b ∷ rest) b (subst (IsStrictlySortedBy R) is sorted) (cons_here b rest) in
    let self : R a a ≡ Less = subst (λ z. R a z ≡ Less) (sym same) less in
    not_both R o a a self self
