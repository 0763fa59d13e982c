-- Sums over all views, and facts of each view, after a change of one.
use Rattle.std.proofs.Common.{◌≡◌, ◌≢◌, ◌≤◌, ◌+◌, ℕ, zero, suc, List, [], ◌∷◌, set, refl, sym, ap, subst, ⊎_elim, arith}
use Rattle.std.specs.List.{sum_by}
use Rattle.std.proofs.lemmas.List.Sums.{sum_by-cons}
use mathlib.Core.Option.{some, some-ne-none, some-injective}
use lib.ListN.{get_elem?}
use Rattle.atomic_table.proofs.Lists.{at_set}
use Rattle.ck_claim.specs.declared.rule.SeatView.{SeatView}
use Rattle.ck_claim.specs.declared.rule.Bounds.{Bounds}
use Rattle.ck_claim.specs.Rule.{parts_of, Fits}

-- a sum after a change of one view
pub sum_by-set : (f : SeatView → ℕ) (views : List SeatView) (i : ℕ) (v w : SeatView) → get_elem? views i ≡ some v → sum_by f (set views i w) + f v ≡ sum_by f views + f w
sum_by-set f [] i v w at = absurd (some-ne-none v (sym at))
sum_by-set f (x ∷ xs) zero v w at = let same : f x ≡ f v = ap f (some-injective x v at) in let a = sum_by-cons f x xs in let b = sum_by-cons f w xs in omega arith
sum_by-set f (x ∷ xs) (suc i) v w at = let r = sum_by-set f xs i v w at in let a = sum_by-cons f x xs in let b = sum_by-cons f x (set xs i w) in omega arith

-- each view is in the sum
pub in_sum : (f : SeatView → ℕ) (views : List SeatView) (i : ℕ) (v : SeatView) → get_elem? views i ≡ some v → f v ≤ sum_by f views
in_sum f [] i v at = absurd (some-ne-none v (sym at))
in_sum f (x ∷ xs) zero v at = let same : f x ≡ f v = ap f (some-injective x v at) in let a = sum_by-cons f x xs in omega arith
in_sum f (x ∷ xs) (suc i) v at = let r = in_sum f xs i v at in let a = sum_by-cons f x xs in omega arith

-- a sum that is everywhere at most another is at most the other
pub sum_by-le : (f g : SeatView → ℕ) (views : List SeatView) → ((v : SeatView) → f v ≤ g v) → sum_by f views ≤ sum_by g views
sum_by-le f g [] le = omega arith
sum_by-le f g (x ∷ xs) le = let r = sum_by-le f g xs le in let l = le x in let a = sum_by-cons f x xs in let b = sum_by-cons g x xs in omega arith

-- where one seat has all parts, and f is 0 of each view with none, the sum over all views is its own
pub sum_by-alone : (f : SeatView → ℕ) (views : List SeatView) (i : ℕ) (v : SeatView) → ((j : ℕ) (u : SeatView) → get_elem? views j ≡ some u → u.parts ≡ 0 → f u ≡ 0)
    → get_elem? views i ≡ some v → sum_by parts_of views ≡ v.parts → sum_by f views ≡ f v
sum_by-alone f [] i v idle at all = absurd (some-ne-none v (sym at))
sum_by-alone f (x ∷ xs) zero v idle at all =
    let e = some-injective x v at in
    let p : x.parts ≡ v.parts = ap parts_of e in
    let q : f x ≡ f v = ap f e in
    let a = sum_by-cons f x xs in
    let b = sum_by-cons parts_of x xs in
    let r = none_left f xs (λ j u there empty. idle (suc j) u there empty) (omega arith) in omega arith
  where
    none_left : (f : SeatView → ℕ) (xs : List SeatView) → ((j : ℕ) (u : SeatView) → get_elem? xs j ≡ some u → u.parts ≡ 0 → f u ≡ 0) → sum_by parts_of xs ≡ 0 → sum_by f xs ≡ 0
    none_left f [] idle no_part = omega arith
    none_left f (x ∷ xs) idle no_part =
        let a = sum_by-cons f x xs in
        let b = sum_by-cons parts_of x xs in
        let p : f x ≡ 0 = idle 0 x refl (omega arith) in
        let r = none_left f xs (λ j u there empty. idle (suc j) u there empty) (omega arith) in omega arith
sum_by-alone f (x ∷ xs) (suc i) v idle at all =
    let a = sum_by-cons f x xs in
    let b = sum_by-cons parts_of x xs in
    let p = in_sum parts_of xs i v at in
    let q : f x ≡ 0 = idle 0 x refl (omega arith) in
    let r = sum_by-alone f xs i v (λ j u there empty. idle (suc j) u there empty) at (omega arith) in omega arith

-- one view changes, and the others fit as they did
pub fits-set : (k : Bounds) (m n : ℕ) (views : List SeatView) (i : ℕ) (w : SeatView) → m ≤ n → ((j : ℕ) (v : SeatView) → get_elem? views j ≡ some v → Fits k m v) → Fits k n w
    → (j : ℕ) (v : SeatView) → get_elem? (set views i w) j ≡ some v → Fits k n v
fits-set k m n views i w up each mine j v at = ⊎_elim
    (λ (e : (j ≡ i) × (w ≡ v)). subst (Fits k n) e.1 mine)
    (λ (e : (j ≢ i) × (get_elem? views j ≡ some v)). let f = each j v e.1 in record { spent = f.spent; count = f.count; knows_all = λ is. let g = f.knows_all is in omega arith })
    (at_set views i j w v at)
