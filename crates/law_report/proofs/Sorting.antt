-- What can be listed can be listed in strict order.
use Rattle.std.proofs.Common.{◌≡◌, ◌⊎◌, List, [], ◌∷◌, Contains, Ordering, refl, sym, subst, ap, ◌∙◌, inl, inr, ⊎_elim}
use Rattle.std.specs.Cmp.{IsTotalOrder}
use Rattle.std.specs.List.Sorted.{IsStrictlySortedBy}
use Rattle.std.specs.Ordering.{nat_cmp, then_cmp, ordering_then, ordering_reverse}
use Rattle.std.specs.declared.cmp.Ordering.TheVariants.{Less, Equal, Greater}
use Rattle.std.proofs.lemmas.List.Elements.{recursion_from_All, All-contains_itself, All-weaker}
use Rattle.std.proofs.lemmas.Cmp.{ranked}
use Rattle.spec_check.proofs.Members.{nothing_there, cons_cases, cons_here, cons_there, below, rest_sorted, sorted_none, sorted_same}
use Rattle.law_report.proofs.Listings.{Listing}

pub record Ordered {X : Type 0} (R : X → X → Ordering) (P : X → Type 0) : Type 0 where
  pub members : List X
  pub sorted : IsStrictlySortedBy R members
  pub sound : (x : X) → Contains members x → P x
  pub complete : (x : X) → P x → Contains members x

sorted_cons : {X : Type 0} (R : X → X → Ordering) (x : X) (xs : List X) → IsStrictlySortedBy R xs → ((y : X) → Contains xs y → R x y ≡ Less)
    → IsStrictlySortedBy R (x ∷ xs)
unfolding IsStrictlySortedBy
sorted_cons R x xs sorted above =
    (recursion_from_All (λ y. R x y ≡ Less) xs (All-weaker (Contains xs) (λ y. R x y ≡ Less) above xs (All-contains_itself xs)), sorted)

-- zs has z beside the members of ys
record HasAlso {X : Type 0} (R : X → X → Ordering) (z : X) (ys : List X) : Type 0 where
  list : List X
  sorted : IsStrictlySortedBy R list
  from : (x : X) → Contains list x → (z ≡ x) ⊎ Contains ys x
  into : (x : X) → (z ≡ x) ⊎ Contains ys x → Contains list x

insertion : {X : Type 0} (R : X → X → Ordering) → IsTotalOrder R → (z y : X) (ys : List X) → IsStrictlySortedBy R (y ∷ ys)
    → (R z y ≡ Equal → z ≡ y) → HasAlso R z ys → (c : Ordering) → R z y ≡ c → HasAlso R z (y ∷ ys)
insertion R o z y ys sorted same rest Less is = record {
  list = z ∷ y ∷ ys;
  sorted = sorted_cons R z (y ∷ ys) sorted
      (λ x h. ⊎_elim (λ e. subst (λ w. R z w ≡ Less) e is) (λ t. o.trans z y x is (below R y ys x sorted t)) (cons_cases y ys x h));
  from = cons_cases z (y ∷ ys);
  into = λ x h. ⊎_elim (λ e. subst (Contains (z ∷ y ∷ ys)) e (cons_here z (y ∷ ys))) (λ t. cons_there z (y ∷ ys) x t) h;
}
insertion R o z y ys sorted same rest Equal is = record {
  list = y ∷ ys;
  sorted = sorted;
  from = λ x h. inr h;
  into = λ x h. ⊎_elim (λ e. subst (Contains (y ∷ ys)) (sym (same is) ∙ e) (cons_here y ys)) (λ t. t) h;
}
insertion R o z y ys sorted same rest Greater is =
    let less : R y z ≡ Less = o.antisymm y z ∙ ap ordering_reverse is in
    record {
      list = y ∷ rest.list;
      sorted = sorted_cons R y rest.list rest.sorted
          (λ x h. ⊎_elim (λ e. subst (λ w. R y w ≡ Less) e less) (λ t. below R y ys x sorted t) (rest.from x h));
      from = λ x h. ⊎_elim (λ e. inr (subst (Contains (y ∷ ys)) e (cons_here y ys)))
          (λ t. ⊎_elim (λ e. inl e) (λ u. inr (cons_there y ys x u)) (rest.from x t)) (cons_cases y rest.list x h);
      into = λ x h. ⊎_elim (λ e. cons_there y rest.list x (rest.into x (inl e)))
          (λ t. ⊎_elim (λ e. subst (Contains (y ∷ rest.list)) e (cons_here y rest.list))
          (λ u. cons_there y rest.list x (rest.into x (inr u))) (cons_cases y ys x t)) h;
    }

inserted : {X : Type 0} (R : X → X → Ordering) → IsTotalOrder R → (z : X) (ys : List X) → IsStrictlySortedBy R ys
    → ((y : X) → Contains ys y → R z y ≡ Equal → z ≡ y) → HasAlso R z ys
inserted R o z [] sorted same = record {
  list = z ∷ [];
  sorted = sorted_cons R z [] sorted (λ y h. absurd (nothing_there y h));
  from = cons_cases z [];
  into = λ x h. ⊎_elim (λ e. subst (Contains (z ∷ [])) e (cons_here z [])) (λ t. cons_there z [] x t) h;
}
inserted R o z (y ∷ ys) sorted same =
    insertion R o z y ys sorted (same y (cons_here y ys)) (inserted R o z ys (rest_sorted R y ys sorted) (λ w h. same w (cons_there y ys w h))) (R z y) refl

sorted_list : {X : Type 0} (R : X → X → Ordering) → IsTotalOrder R → (xs : List X)
    → ((x y : X) → Contains xs x → Contains xs y → R x y ≡ Equal → x ≡ y) → Ordered R (Contains xs)
sorted_list R o [] same = record { members = []; sorted = sorted_none R; sound = λ x h. h; complete = λ x h. h }
sorted_list R o (z ∷ xs) same =
    let rest = sorted_list R o xs (λ x y h k. same x y (cons_there z xs x h) (cons_there z xs y k)) in
    let also = inserted R o z rest.members rest.sorted (λ y h. same z y (cons_here z xs) (cons_there z xs y (rest.sound y h))) in
    record {
      members = also.list;
      sorted = also.sorted;
      sound = λ x h. ⊎_elim (λ e. subst (Contains (z ∷ xs)) e (cons_here z xs)) (λ t. cons_there z xs x (rest.sound x t)) (also.from x h);
      complete = λ x h. also.into x (⊎_elim (λ e. inl e) (λ t. inr (rest.complete x t)) (cons_cases z xs x h));
    }

pub ordered : {X : Type 0} {P : X → Type 0} (R : X → X → Ordering) → IsTotalOrder R → Listing P
    → ((x y : X) → P x → P y → R x y ≡ Equal → x ≡ y) → Ordered R P
ordered R o a same =
    let list = sorted_list R o a.members (λ x y h k. same x y (a.sound x h) (a.sound y k)) in
    record {
      members = list.members;
      sorted = list.sorted;
      sound = λ x h. a.sound x (list.sound x h);
      complete = λ x h. list.complete x (a.complete x h);
    }

-- lists that a statement asks for in strict order are all the same one
pub one_ordered : {X : Type 0} (R : X → X → Ordering) (P : X → Type 0) → IsTotalOrder R → (a : Ordered R P) (xs : List X) → IsStrictlySortedBy R xs
    → ((x : X) → Contains xs x → P x) → ((x : X) → P x → Contains xs x) → xs ≡ a.members
one_ordered R P o a xs sorted sound complete =
    sorted_same R o xs a.members sorted a.sorted (λ x. (λ h. a.complete x (sound x h), λ h. complete x (a.sound x h)))

-- the order tells things apart
abbrev pub Apart : {X : Type 0} → (X → X → Ordering) → Type 0
Apart {X} R = (x y : X) → R x y ≡ Equal → x ≡ y

pub numbers_apart : Apart nat_cmp
numbers_apart x y h = ranked x y Equal (sym h)

both_equal : (a b : Ordering) → ordering_then a b ≡ Equal → (a ≡ Equal) × (b ≡ Equal)
both_equal Less b h = absurd (cc)
both_equal Equal b h = (refl, h)
both_equal Greater b h = absurd (cc)

-- two things of equal rank are ranked equal by each of two orders in turn
pub both_ranks : {X : Type 0} (R S : X → X → Ordering) (x y : X) → then_cmp R S x y ≡ Equal → (R x y ≡ Equal) × (S x y ≡ Equal)
both_ranks R S x y h = both_equal (R x y) (S x y) h
