-- Beginnings of one list. `IsPrefix xs ys` is a rest with xs ++ rest ≡ ys.
use Rattle.std.specs.Prelude.{◌≡◌, ℕ, ◌≤◌, List, [], ◌∷◌, ◌++◌, length, Some, slice_get, Contains, nat_lt, if◌then◌else◌}
use Rattle.std.proofs.Common.{zero, suc, true, false, refl, ap, sym, ◌∙◌, subst, arith, append_assoc, length-append}
use Rattle.std.proofs.lemmas.Bool.Decides.{nat_tests}
use Rattle.std.proofs.lemmas.List.Elements.{Contains-append_left}
use mathlib.Core.List.{IsPrefix}
use Rattle.turn_seat.specs.Shown.{longer}

-- each list begins itself
pub prefix_self : {A : Type 0} (xs : List A) → IsPrefix xs xs
prefix_self [] = ([], refl)
prefix_self (x ∷ xs) = (let rest = prefix_self xs in rest.0, ap (λ ys. x ∷ ys) (prefix_self xs).1)

-- what begins a beginning begins the whole
pub prefix_trans : {A : Type 0} (xs ys zs : List A) → IsPrefix xs ys → IsPrefix ys zs → IsPrefix xs zs
prefix_trans xs ys zs p q = (p.0 ++ q.0, sym (append_assoc xs p.0 q.0) ∙ (ap (λ l. l ++ q.0) p.1 ∙ q.1))

-- a list begins each list to which something is added at its end
pub prefix_append : {A : Type 0} (xs ys : List A) → IsPrefix xs (xs ++ ys)
prefix_append xs ys = (ys, refl)

-- of two beginnings of one list the shorter begins the longer
pub prefix_shorter : {A : Type 0} (xs ys zs : List A) → IsPrefix xs zs → IsPrefix ys zs → length xs ≤ length ys → IsPrefix xs ys
prefix_shorter [] ys zs p q le = (ys, refl)
prefix_shorter (x ∷ xs) [] zs p q le = absurd (omega arith)
prefix_shorter (x ∷ xs) (y ∷ ys) [] p q le = absurd (cc (p.1))
prefix_shorter (x ∷ xs) (y ∷ ys) (z ∷ zs) p q le =
    let heads : x ≡ y = cc (p.1, q.1) in
    let rest = prefix_shorter xs ys zs (p.0, cc (p.1)) (q.0, cc (q.1)) (omega arith) in
    (rest.0, cc (heads, rest.1))

-- a beginning that is as long as the whole is the whole
pub prefix_whole : {A : Type 0} (xs ys : List A) → IsPrefix xs ys → length ys ≤ length xs → xs ≡ ys
prefix_whole [] [] p le = refl
prefix_whole [] (y ∷ ys) p le = absurd (omega arith)
prefix_whole (x ∷ xs) [] p le = absurd (cc (p.1))
prefix_whole (x ∷ xs) (y ∷ ys) p le =
    let rest = prefix_whole xs ys (p.0, cc (p.1)) (omega arith) in cc (p.1, rest)

pub prefix_length : {A : Type 0} (xs ys : List A) → IsPrefix xs ys → length xs ≤ length ys
prefix_length xs ys p = omega (arith, sym (ap length p.1) ∙ length-append xs p.0)

-- what stands in a beginning stands in the whole, at the same place
pub prefix_get : {A : Type 0} (xs ys : List A) (k : ℕ) (x : A) → IsPrefix xs ys → slice_get xs k ≡ Some x → slice_get ys k ≡ Some x
prefix_get [] ys k x p at = absurd cc
prefix_get (y ∷ xs) [] k x p at = absurd (cc (p.1))
prefix_get (y ∷ xs) (z ∷ ys) zero x p at = cc (p.1, at)
prefix_get (y ∷ xs) (z ∷ ys) (suc k) x p at = prefix_get xs ys k x (p.0, cc (p.1)) at

-- what is an element of a beginning is one of the whole
pub prefix_contains : {A : Type 0} (xs ys : List A) (x : A) → IsPrefix xs ys → Contains xs x → Contains ys x
prefix_contains xs ys x p among = subst (λ l. Contains l x) p.1 (Contains-append_left xs p.0 x among)

-- two beginnings of one list begin the longer of them, which begins that list too
pub prefix_longer_left : {A : Type 0} (xs ys zs : List A) → IsPrefix xs zs → IsPrefix ys zs → IsPrefix xs (longer xs ys)
prefix_longer_left xs ys zs p q = elim (nat_lt (length xs) (length ys)) as (λ b. nat_lt (length xs) (length ys) ≡ b → IsPrefix xs (if b then ys else xs)) [
  | true ↦ λ is. prefix_shorter xs ys zs p q (grind (arith, nat_tests))
  | false ↦ λ is. prefix_self xs
] refl

pub prefix_longer_right : {A : Type 0} (xs ys zs : List A) → IsPrefix xs zs → IsPrefix ys zs → IsPrefix ys (longer xs ys)
prefix_longer_right xs ys zs p q = elim (nat_lt (length xs) (length ys)) as (λ b. nat_lt (length xs) (length ys) ≡ b → IsPrefix ys (if b then ys else xs)) [
  | true ↦ λ is. prefix_self ys
  | false ↦ λ is. prefix_shorter ys xs zs q p (grind (arith, nat_tests))
] refl

pub longer_prefix : {A : Type 0} (xs ys zs : List A) → IsPrefix xs zs → IsPrefix ys zs → IsPrefix (longer xs ys) zs
longer_prefix xs ys zs p q = elim (nat_lt (length xs) (length ys)) as (λ b. IsPrefix (if b then ys else xs) zs) [ true ↦ q | false ↦ p ]
