-- Members of lists that a map or a filter makes, and lists in strict order.
use Rattle.std.proofs.Common.{◌≡◌, ◌⊎◌, ◌↔◌, ℕ, ◌+◌, ◌<◌, ◌==◌, Bool, true, false, IsTrue, List, [], ◌∷◌, ◌++◌, Contains, map, filter, cond, length, get_or, arith, sym, subst, ap, ◌∙◌, refl, inl, inr, ⊎_elim, Ordering}
use Rattle.std.specs.Cmp.{IsTotalOrder}
use Rattle.std.specs.Ordering.{on}
use Rattle.std.specs.List.{AllByRecursion, range_with_len}
use Rattle.std.specs.List.Sorted.{IsStrictlySortedBy}
use Rattle.std.specs.declared.cmp.Ordering.TheVariants.{Less, Greater}
use Rattle.std.proofs.lemmas.Bool.{eqb-true}
use Rattle.std.proofs.lemmas.List.FromFn.{length-range_with_len, get_or-range_with_len}
use Rattle.std.proofs.lemmas.List.Elements.{All-from_recursion, recursion_from_All, All-contains, All-push, Contains-push_cases, Contains-push, Contains-append_left, Contains-append_right, Contains-append_cases}
use Rattle.std.proofs.lemmas.Map.Keys.{sorted_from_all_adjacent}

pub nothing_there : {X : Type 0} (x : X) → Contains {X = X} [] x → ⊥
nothing_there x h = omega (arith, h.1)

one_is : {X : Type 0} (x y : X) → Contains (x ∷ []) y → x ≡ y
one_is x y h = ⊎_elim (λ none. absurd (nothing_there y none)) (λ e. e) (Contains-push_cases [] x y h)

pub cons_cases : {X : Type 0} (x : X) (xs : List X) (y : X) → Contains (x ∷ xs) y → (x ≡ y) ⊎ Contains xs y
cons_cases x xs y h = ⊎_elim (λ a. inl (one_is x y a)) (λ b. inr b) (Contains-append_cases (x ∷ []) xs y h)

pub cons_here : {X : Type 0} (x : X) (xs : List X) → Contains (x ∷ xs) x
cons_here x xs = Contains-append_left (x ∷ []) xs x (Contains-push [] x)

pub cons_there : {X : Type 0} (x : X) (xs : List X) (y : X) → Contains xs y → Contains (x ∷ xs) y
cons_there x xs y h = Contains-append_right (x ∷ []) xs y h

pub map_from : {X Y : Type 0} (f : X → Y) (xs : List X) (y : Y) → Contains (map f xs) y → (x : X) × Contains xs x × (f x ≡ y)
map_from f [] y h = absurd (nothing_there y h)
map_from f (x ∷ xs) y h = ⊎_elim (λ e. (x, cons_here x xs, e))
    (λ t. let r = map_from f xs y t in (r.0, cons_there x xs r.0 r.1, r.2)) (cons_cases (f x) (map f xs) y h)

pub map_in : {X Y : Type 0} (f : X → Y) (xs : List X) (x : X) → Contains xs x → Contains (map f xs) (f x)
map_in f [] x h = absurd (nothing_there x h)
map_in f (z ∷ zs) x h = ⊎_elim (λ e. subst (Contains (f z ∷ map f zs)) (ap f e) (cons_here (f z) (map f zs)))
    (λ t. cons_there (f z) (map f zs) (f x) (map_in f zs x t)) (cons_cases z zs x h)

from_step : {X : Type 0} (b : Bool) (p : X → Bool) (z : X) (zs : List X) (x : X) → p z ≡ b → Contains (cond b (z ∷ filter p zs) (filter p zs)) x
    → (Contains (filter p zs) x → Contains zs x × (p x ≡ true)) → Contains (z ∷ zs) x × (p x ≡ true)
from_step true p z zs x is h rest = ⊎_elim (λ e. (subst (Contains (z ∷ zs)) e (cons_here z zs), subst (λ y. p y ≡ true) e is))
    (λ t. let r = rest t in (cons_there z zs x r.0, r.1)) (cons_cases z (filter p zs) x h)
from_step false p z zs x is h rest = let r = rest h in (cons_there z zs x r.0, r.1)

pub filter_from : {X : Type 0} (p : X → Bool) (xs : List X) (x : X) → Contains (filter p xs) x → Contains xs x × (p x ≡ true)
filter_from p [] x h = absurd (nothing_there x h)
filter_from p (z ∷ zs) x h = from_step (p z) p z zs x refl h (filter_from p zs x)

in_step : {X : Type 0} (b : Bool) (p : X → Bool) (z : X) (zs : List X) (x : X) → p z ≡ b → p x ≡ true → (z ≡ x) ⊎ Contains (filter p zs) x
    → Contains (cond b (z ∷ filter p zs) (filter p zs)) x
in_step true p z zs x is passes h = ⊎_elim (λ e. subst (Contains (z ∷ filter p zs)) e (cons_here z (filter p zs)))
    (λ t. cons_there z (filter p zs) x t) h
in_step false p z zs x is passes h = ⊎_elim (λ e. let no : false ≡ true = sym is ∙ (ap p e ∙ passes) in absurd (cc)) (λ t. t) h

pub filter_in : {X : Type 0} (p : X → Bool) (xs : List X) (x : X) → Contains xs x → p x ≡ true → Contains (filter p xs) x
filter_in p [] x h passes = absurd (nothing_there x h)
filter_in p (z ∷ zs) x h passes = in_step (p z) p z zs x refl passes
    (⊎_elim (λ e. inl e) (λ t. inr (filter_in p zs x t passes)) (cons_cases z zs x h))

pub range_from : (n i : ℕ) → Contains (range_with_len 0 n) i → i < n
range_from n i h =
    let inside : h.0 < n = omega (arith, h.1, length-range_with_len 0 n) in
    let is : i ≡ 0 + h.0 = sym h.2 ∙ get_or-range_with_len 0 n h.0 i inside in omega arith

pub range_in : (n i : ℕ) → i < n → Contains (range_with_len 0 n) i
range_in n i h = (i, omega (arith, length-range_with_len 0 n), get_or-range_with_len 0 n i i h ∙ omega arith)

pub none_there : {X : Type 0} (xs : List X) (x : X) → IsTrue (length xs == 0) → Contains xs x → ⊥
none_there xs x empty h = let none : length xs ≡ 0 = eqb-true (length xs) 0 empty in omega (arith, h.1)

pub none_from : {X : Type 0} (xs : List X) → ((x : X) → Contains xs x → ⊥) → IsTrue (length xs == 0)
none_from [] none = refl
none_from (x ∷ xs) none = absurd (none x (cons_here x xs))

pub some_there : {X : Type 0} (xs : List X) → (length xs == 0) ≡ false → (x : X) × Contains xs x
some_there [] h = absurd (cc)
some_there (x ∷ xs) h = (x, cons_here x xs)

-- two strictly sorted lists with the same elements are equal
pub not_both : {K : Type 0} (R : K → K → Ordering) → IsTotalOrder R → (x y : K) → R x y ≡ Less → R y x ≡ Less → ⊥
not_both R o x y p q = let e = o.antisymm x y in let f : Less ≡ Greater = sym p ∙ (e ∙ ap (λ c. Rattle.std.specs.Ordering.ordering_reverse c) q) in cc

pub below : {K : Type 0} (R : K → K → Ordering) (x : K) (xs : List K) (z : K) → IsStrictlySortedBy R (x ∷ xs) → Contains xs z → R x z ≡ Less
unfolding IsStrictlySortedBy
below R x xs z s h = All-contains (λ y. R x y ≡ Less) xs z (All-from_recursion (λ y. R x y ≡ Less) xs s.0) h

pub rest_sorted : {K : Type 0} (R : K → K → Ordering) (x : K) (xs : List K) → IsStrictlySortedBy R (x ∷ xs) → IsStrictlySortedBy R xs
unfolding IsStrictlySortedBy
rest_sorted R x xs s = s.1

pub sorted_none : {K : Type 0} (R : K → K → Ordering) → IsStrictlySortedBy R []
unfolding IsStrictlySortedBy
sorted_none R = tt

-- a member more at the end, above all others
pub sorted_push : {K : Type 0} (R : K → K → Ordering) (xs : List K) (z : K) → IsStrictlySortedBy R xs → ((y : K) → Contains xs y → R y z ≡ Less)
    → IsStrictlySortedBy R (xs ++ z ∷ [])
unfolding IsStrictlySortedBy
sorted_push R [] z s above = (tt, tt)
sorted_push R (x ∷ xs) z s above = (
  recursion_from_All (λ y. R x y ≡ Less) (xs ++ z ∷ [])
      (All-push (λ y. R x y ≡ Less) xs z (All-from_recursion (λ y. R x y ≡ Less) xs s.0) (above x (cons_here x xs))),
  sorted_push R xs z s.1 (λ y h. above y (cons_there x xs y h)),
)

heads : {K : Type 0} (R : K → K → Ordering) → IsTotalOrder R → (x y : K) (xs ys : List K) → IsStrictlySortedBy R (x ∷ xs) → IsStrictlySortedBy R (y ∷ ys)
    → ((z : K) → Contains (x ∷ xs) z ↔ Contains (y ∷ ys) z) → x ≡ y
heads R o x y xs ys s t same = ⊎_elim (λ e. sym e)
    (λ later. ⊎_elim (λ e. e)
    (λ after. absurd (not_both R o x y (below R x xs y s after) (below R y ys x t later)))
    (cons_cases x xs y ((same y).1 (cons_here y ys))))
    (cons_cases y ys x ((same x).0 (cons_here x xs)))

tail_in : {K : Type 0} (R : K → K → Ordering) → IsTotalOrder R → (x y : K) (xs ys : List K) → x ≡ y → IsStrictlySortedBy R (x ∷ xs)
    → ((z : K) → Contains (x ∷ xs) z → Contains (y ∷ ys) z) → (z : K) → Contains xs z → Contains ys z
tail_in R o x y xs ys e s same z h = ⊎_elim
    (λ here. let less = below R x xs z s h in let self : R x x ≡ Less = subst (λ w. R x w ≡ Less) (sym here ∙ sym e) less in absurd (not_both R o x x self self))
    (λ there. there) (cons_cases y ys z (same z (cons_there x xs z h)))

pub sorted_same : {K : Type 0} (R : K → K → Ordering) → IsTotalOrder R → (xs ys : List K) → IsStrictlySortedBy R xs → IsStrictlySortedBy R ys
    → ((z : K) → Contains xs z ↔ Contains ys z) → xs ≡ ys
sorted_same R o [] [] s t same = refl
sorted_same R o [] (y ∷ ys) s t same = absurd (nothing_there y ((same y).1 (cons_here y ys)))
sorted_same R o (x ∷ xs) [] s t same = absurd (nothing_there x ((same x).0 (cons_here x xs)))
sorted_same R o (x ∷ xs) (y ∷ ys) s t same =
    let e = heads R o x y xs ys s t same in
    let tails = sorted_same R o xs ys (rest_sorted R x xs s) (rest_sorted R y ys t)
    (λ z. (tail_in R o x y xs ys e s (λ w. (same w).0) z, tail_in R o y x ys xs (sym e) t (λ w. (same w).1) z)) in
    ap (λ w. w ∷ xs) e ∙ ap (λ l. y ∷ l) tails

-- a list in the order of a key gives its keys in order
all_map : {X Y : Type 0} (f : X → Y) (R : Y → Y → Ordering) (x : X) (xs : List X) → AllByRecursion (λ y. on f R x y ≡ Less) xs
    → AllByRecursion (λ y. R (f x) y ≡ Less) (map f xs)
all_map f R x [] h = tt
all_map f R x (y ∷ ys) h = (h.0, all_map f R x ys h.1)

pub sorted_map : {X Y : Type 0} (f : X → Y) (R : Y → Y → Ordering) (xs : List X) → IsStrictlySortedBy (on f R) xs → IsStrictlySortedBy R (map f xs)
unfolding IsStrictlySortedBy
sorted_map f R [] s = tt
sorted_map f R (x ∷ xs) s = (all_map f R x xs s.0, sorted_map f R xs s.1)

-- numbers of which each is below the next by an order
pub range_sorted : (R : ℕ → ℕ → Ordering) → IsTotalOrder R → (n : ℕ) → ((k : ℕ) → k + 1 < n → R k (k + 1) ≡ Less) → IsStrictlySortedBy R (range_with_len 0 n)
range_sorted R o n rises = sorted_from_all_adjacent o (range_with_len 0 n) 0 (λ k h.
    let inside : k + 1 < n = omega (arith, length-range_with_len 0 n) in
    let at : get_or (range_with_len 0 n) k 0 ≡ k = get_or-range_with_len 0 n k 0 (omega arith) ∙ omega arith in
    let next : get_or (range_with_len 0 n) (k + 1) 0 ≡ k + 1 = get_or-range_with_len 0 n (k + 1) 0 inside ∙ omega arith in
    rw (at, next) (rises k inside))
