-- What a sort leaves is the list of the definition: lists that rise and have the same members, each as often, are one.
use Rattle.std.proofs.Common.{◌≡◌, ℕ, zero, suc, ◌+◌, ◌<◌, ◌≤◌, Bool, true, false, cond, List, [], ◌∷◌, length, get_or, refl, sym, ap, ◌∙◌, subst, arith}
use Rattle.std.specs.Prelude.{if◌then◌else◌, sum_by, bytes_eq}
use Rattle.std.specs.List.Sorted.{IsPermutation, IsSortedBy}
use Rattle.std.specs.Ordering.{nat_cmp, is_lt, is_eq, ordering_reverse}
use Rattle.std.specs.declared.cmp.Ordering.{Ordering}
use Rattle.std.specs.declared.cmp.Ordering.TheVariants.{Less, Equal, Greater}
use Rattle.std.specs.Cmp.{IsStrictWeakOrder}
use Rattle.std.specs.Cmp.Lexicographic.{slice_cmp}
use Rattle.std.proofs.lemmas.Bool.{true≢false}
use Rattle.std.proofs.lemmas.Cmp.{nat_list_cmp_total}
use Rattle.std.proofs.lemmas.List.Sorted.{ranks_by, sorted_far, sum_by-IsPermutation}
use Rattle.std.proofs.lemmas.List.Sums.{sum_by-cons}
use Rattle.std.proofs.lemmas.Map.Text.{is_eq-slice_cmp}
use Rattle.std.proofs.lemmas.Slice.Eq.{bytes_eq-Decides}
use Rattle.spec_words.specs.Orders.{is_below, put_in, in_rising_order}

pub below_order : IsStrictWeakOrder is_below
below_order = ranks_by nat_list_cmp_total (λ (bytes : List ℕ). bytes)

never_below_at : (x : List ℕ) (b : Bool) → is_below x x ≡ b → is_below x x ≡ false
never_below_at x true e = below_order.one_way x x e
never_below_at x false e = e

never_below : (x : List ℕ) → is_below x x ≡ false
never_below x = never_below_at x (is_below x x) refl

tied : (o : Ordering) → is_lt o ≡ false → is_lt (ordering_reverse o) ≡ false → is_eq o ≡ true
tied Less a b = absurd (true≢false a)
tied Equal a b = refl
tied Greater a b = absurd (true≢false b)

-- where neither of two is below the other they are one
one_place : (x y : List ℕ) → is_below x y ≡ false → is_below y x ≡ false → x ≡ y
one_place x y a b =
    (bytes_eq-Decides x y).0 (sym (is_eq-slice_cmp x y) ∙ tied (slice_cmp nat_cmp x y) a (ap is_lt (sym (nat_list_cmp_total.antisymm y x)) ∙ b))

-- none of them is below x
abbrev pub Bounds : List ℕ → List (List ℕ) → Type 0
Bounds x [] = Unit {0}
Bounds x (y ∷ ys) = (is_below y x ≡ false) × Bounds x ys

-- each is one of those behind it, or goes before them
abbrev pub Rises : List (List ℕ) → Type 0
Rises [] = Unit {0}
Rises (x ∷ xs) = Bounds x xs × Rises xs

-- what isn't below a higher one isn't below a lower one
bounds_lower : (x y : List ℕ) (zs : List (List ℕ)) → is_below y x ≡ false → Bounds y zs → Bounds x zs
bounds_lower x y [] h b = tt
bounds_lower x y (z ∷ zs) h b = (below_order.chain z y x b.0 h, bounds_lower x y zs h b.1)

put_bounds_at : (x y z : List ℕ) (zs : List (List ℕ)) (b : Bool) → is_below y x ≡ false → Bounds x (z ∷ zs) → Bounds x (put_in y zs) → Bounds x (if b then z ∷ put_in y zs else y ∷ z ∷ zs)
put_bounds_at x y z zs true h b rest = (b.0, rest)
put_bounds_at x y z zs false h b rest = (h, b)

put_bounds : (x y : List ℕ) (zs : List (List ℕ)) → is_below y x ≡ false → Bounds x zs → Bounds x (put_in y zs)
put_bounds x y [] h b = (h, tt)
put_bounds x y (z ∷ zs) h b = put_bounds_at x y z zs (is_below z y) h b (put_bounds x y zs h b.1)

put_rises_at : (x y : List ℕ) (ys : List (List ℕ)) (b : Bool) → is_below y x ≡ b → Rises (y ∷ ys) → Rises (put_in x ys) → Rises (if b then y ∷ put_in x ys else x ∷ y ∷ ys)
put_rises_at x y ys true e r rest = (put_bounds y x ys (below_order.one_way y x e) r.0, rest)
put_rises_at x y ys false e r rest = ((e, bounds_lower x y ys e r.0), r)

put_rises : (x : List ℕ) (ys : List (List ℕ)) → Rises ys → Rises (put_in x ys)
put_rises x [] r = (tt, tt)
put_rises x (y ∷ ys) r = put_rises_at x y ys (is_below y x) refl r (put_rises x ys r.1)

rises : (xs : List (List ℕ)) → Rises (in_rising_order xs)
rises [] = tt
rises (x ∷ xs) = put_rises x (in_rising_order xs) (rises xs)

-- ---- as often

put_sum_at : (f : List ℕ → ℕ) (x y : List ℕ) (ys : List (List ℕ)) (b : Bool) → sum_by f (put_in x ys) ≡ f x + sum_by f ys →
    sum_by f (if b then y ∷ put_in x ys else x ∷ y ∷ ys) ≡ f x + sum_by f (y ∷ ys)
put_sum_at f x y ys true e = let a = sum_by-cons f y (put_in x ys) in let b = sum_by-cons f y ys in omega (arith, a, b, e)
put_sum_at f x y ys false e = sum_by-cons f x (y ∷ ys)

put_sum : (f : List ℕ → ℕ) (x : List ℕ) (ys : List (List ℕ)) → sum_by f (put_in x ys) ≡ f x + sum_by f ys
put_sum f x [] = sum_by-cons f x []
put_sum f x (y ∷ ys) = put_sum_at f x y ys (is_below y x) (put_sum f x ys)

same_sum : (f : List ℕ → ℕ) (xs : List (List ℕ)) → sum_by f (in_rising_order xs) ≡ sum_by f xs
same_sum f [] = refl
same_sum f (x ∷ xs) = put_sum f x (in_rising_order xs) ∙ ap (λ n. f x + n) (same_sum f xs) ∙ sym (sum_by-cons f x xs)

as_number : Bool → ℕ
as_number true = 1
as_number false = 0

-- 1 of x, and 0 of all others
one_if : List ℕ → List ℕ → ℕ
one_if x y = as_number (bytes_eq y x)

self_one : (x : List ℕ) → one_if x x ≡ 1
unfolding one_if as_number
self_one x = ap as_number ((bytes_eq-Decides x x).1 refl)

other_none : (x y : List ℕ) → (y ≡ x → ⊥) → one_if x y ≡ 0
unfolding one_if as_number
other_none x y other = at (bytes_eq y x) refl
  where
    at : (b : Bool) → bytes_eq y x ≡ b → as_number b ≡ 0
    at true e = absurd (other ((bytes_eq-Decides y x).0 e))
    at false e = refl

-- what is below a bound of others isn't among them
absent : (x y : List ℕ) (zs : List (List ℕ)) → is_below x y ≡ true → Bounds y zs → sum_by (one_if x) zs ≡ 0
absent x y [] h b = refl
absent x y (z ∷ zs) h b =
    let here = other_none x z (λ e. true≢false (sym h ∙ ap (λ u. is_below u y) (sym e) ∙ b.0)) in
    let rest = absent x y zs h b.1 in
    let whole = sum_by-cons (one_if x) z zs in
    omega (arith, here, rest, whole)

-- the first of one list isn't below the first of another that rises and has the same members
not_first : (x y : List ℕ) (xs ys : List (List ℕ)) → sum_by (one_if x) (x ∷ xs) ≡ sum_by (one_if x) (y ∷ ys) → Bounds y ys → (b : Bool) → is_below x y ≡ b → is_below x y ≡ false
not_first x y xs ys same bounds true e =
    let none = absent x y (y ∷ ys) e (never_below y, bounds) in
    let some = sum_by-cons (one_if x) x xs in
    let one = self_one x in
    absurd (omega (arith, none, some, one, same))
not_first x y xs ys same bounds false e = e

pub one_rising : (xs ys : List (List ℕ)) → Rises xs → Rises ys → ((f : List ℕ → ℕ) → sum_by f xs ≡ sum_by f ys) → xs ≡ ys
one_rising [] [] r s same = refl
one_rising [] (y ∷ ys) r s same = let more = sum_by-cons (λ z. 1) y ys in let e = same (λ z. 1) in absurd (omega (arith, more, e))
one_rising (x ∷ xs) [] r s same = let more = sum_by-cons (λ z. 1) x xs in let e = same (λ z. 1) in absurd (omega (arith, more, e))
one_rising (x ∷ xs) (y ∷ ys) r s same =
    let first = one_place x y (not_first x y xs ys (same (one_if x)) s.0 (is_below x y) refl) (not_first y x ys xs (sym (same (one_if y))) r.0 (is_below y x) refl) in
    ap (λ z. z ∷ xs) first ∙ ap (λ zs. y ∷ zs) (one_rising xs ys r.1 s.1 (λ f.
    let e = same f in
    let a = sum_by-cons f x xs in
    let b = sum_by-cons f y ys in
    let c = ap f first in
    omega (arith, a, b, c, e)))

-- ---- from a sort

bounds_from : (x : List ℕ) (xs : List (List ℕ)) → ((k : ℕ) → k < length xs → is_below (get_or xs k x) x ≡ false) → Bounds x xs
bounds_from x [] h = tt
bounds_from x (y ∷ ys) h = (h 0 (omega arith), bounds_from x ys (λ k lt. h (suc k) (omega (arith, lt))))

rises_from : (xs : List (List ℕ)) → ((i j : ℕ) (d : List ℕ) → i ≤ j → j < length xs → is_below (get_or xs j d) (get_or xs i d) ≡ false) → Rises xs
rises_from [] h = tt
rises_from (x ∷ xs) h = (bounds_from x xs (λ k lt. h 0 (suc k) x (omega arith) (omega (arith, lt))), rises_from xs (λ i j d le lt. h (suc i) (suc j) d (omega (arith, le)) (omega (arith, lt))))

-- a sorted permutation is the list in rising order
pub sorted_is : (xs ys : List (List ℕ)) → IsPermutation xs ys → IsSortedBy is_below ys → ys ≡ in_rising_order xs
sorted_is xs ys moved sorted =
    one_rising ys (in_rising_order xs) (rises_from ys (sorted_far is_below below_order ys sorted)) (rises xs)
    (λ f. sum_by-IsPermutation f xs ys moved ∙ sym (same_sum f xs))
