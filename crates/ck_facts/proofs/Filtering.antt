-- A list up to and from a partition point is what a filter keeps of it.
use Rattle.std.proofs.Common.{◌≡◌, ℕ, ◌+◌, ◌<◌, ◌≤◌, Bool, true, false, not, List, [], ◌∷◌, ◌++◌, length, take, drop, filter, arith, sym, refl, ap, ◌∙◌, append-nil, length-drop}
use Rattle.std.specs.List.{All}
use Rattle.std.specs.List.Sorted.{IsPartitionPoint}
use Rattle.std.proofs.lemmas.List.{get_or-drop, get_or-take, length-take, take-append-drop}
use Rattle.std.proofs.lemmas.List.Elements.{filter-append, All-tail}

all_kept : {X : Type 0} (p : X → Bool) (xs : List X) → All (λ y. p y ≡ true) xs → filter p xs ≡ xs
all_kept p [] h = refl
all_kept p (x ∷ xs) h = let here : p x ≡ true = h 0 x (omega arith) in rw here (ap (λ l. x ∷ l) (all_kept p xs (All-tail (λ y. p y ≡ true) x xs h)))

none_kept : {X : Type 0} (p : X → Bool) (xs : List X) → All (λ y. p y ≡ false) xs → filter p xs ≡ []
none_kept p [] h = refl
none_kept p (x ∷ xs) h = let here : p x ≡ false = h 0 x (omega arith) in rw here (none_kept p xs (All-tail (λ y. p y ≡ false) x xs h))

split : {X : Type 0} (p : X → Bool) (xs : List X) (i : ℕ) → filter p xs ≡ filter p (take i xs) ++ filter p (drop i xs)
split p xs i = ap (filter p) (sym (take-append-drop i xs)) ∙ filter-append p (take i xs) (drop i xs)

in_front : {X : Type 0} (xs : List X) (i k : ℕ) → k < length (take i xs) → k < i
in_front xs i k h = omega (arith, length-take i xs)

behind : {X : Type 0} (xs : List X) (i k : ℕ) → i ≤ length xs → k < length (drop i xs) → i + k < length xs
behind xs i k fits h = omega (arith, length-drop i xs)

front_passes : {X : Type 0} (p : X → Bool) (xs : List X) (i : ℕ) → IsPartitionPoint (λ y. p y ≡ true) (λ y. p y ≡ false) xs i
    → All (λ y. p y ≡ true) (take i xs)
front_passes p xs i f k d h =
    let within : k < i = in_front xs i k h in
    ap p (get_or-take i xs k d within) ∙ f.0 k d (omega arith) within

rest_fails : {X : Type 0} (p : X → Bool) (xs : List X) (i : ℕ) → i ≤ length xs → IsPartitionPoint (λ y. p y ≡ true) (λ y. p y ≡ false) xs i
    → All (λ y. p y ≡ false) (drop i xs)
rest_fails p xs i fits f k d h =
    let within : i + k < length xs = behind xs i k fits h in
    ap p (get_or-drop i xs k d) ∙ f.1 (i + k) d (omega arith) within

pub front_is : {X : Type 0} (p : X → Bool) (xs : List X) (i : ℕ) → i ≤ length xs → IsPartitionPoint (λ y. p y ≡ true) (λ y. p y ≡ false) xs i
    → take i xs ≡ filter p xs
front_is p xs i fits f =
    sym (split p xs i ∙ (ap (λ l. l ++ filter p (drop i xs)) (all_kept p _ (front_passes p xs i f))
    ∙ (ap (λ l. take i xs ++ l) (none_kept p _ (rest_fails p xs i fits f)) ∙ append-nil (take i xs))))

other_false : {X : Type 0} (p : X → Bool) (xs : List X) → All (λ y. p y ≡ true) xs → All (λ y. not (p y) ≡ false) xs
other_false p xs h k d below = ap not (h k d below)

other_true : {X : Type 0} (p : X → Bool) (xs : List X) → All (λ y. p y ≡ false) xs → All (λ y. not (p y) ≡ true) xs
other_true p xs h k d below = ap not (h k d below)

pub rest_is : {X : Type 0} (p : X → Bool) (xs : List X) (i : ℕ) → i ≤ length xs → IsPartitionPoint (λ y. p y ≡ true) (λ y. p y ≡ false) xs i
    → drop i xs ≡ filter (λ y. not (p y)) xs
rest_is p xs i fits f =
    sym (split (λ y. not (p y)) xs i
    ∙ (ap (λ l. l ++ filter (λ y. not (p y)) (drop i xs)) (none_kept (λ y. not (p y)) _ (other_false p _ (front_passes p xs i f)))
    ∙ all_kept (λ y. not (p y)) _ (other_true p _ (rest_fails p xs i fits f))))
