-- A list read from its end.
use Rattle.std.proofs.Common.{◌≡◌, ℕ, zero, suc, ◌+◌, ◌<◌, Bool, true, false, ◌||◌, List, [], ◌∷◌, ◌++◌, length, get_or, take, reverse, refl, ap, ◌∙◌, subst, sym, arith}
use Rattle.std.specs.List.{list_any}
use Rattle.std.proofs.lemmas.List.{take_more, reverse-append}
use Rattle.std.proofs.lemmas.Bool.{or_left, or_right}

pub reverse_push : {X : Type 0} (xs : List X) (x : X) → reverse (xs ++ x ∷ []) ≡ x ∷ reverse xs
reverse_push xs x = reverse-append xs (x ∷ [])

pub reverse_take_more : {X : Type 0} (xs : List X) (i : ℕ) (d : X) → i < length xs → reverse (take (i + 1) xs) ≡ get_or xs i d ∷ reverse (take i xs)
reverse_take_more xs i d lt = ap reverse (take_more xs i d lt) ∙ reverse_push (take i xs) (get_or xs i d)

any_append : {X : Type 0} (p : X → Bool) (xs ys : List X) → list_any p (xs ++ ys) ≡ (list_any p xs || list_any p ys)
any_append p [] ys = refl
any_append p (x ∷ xs) ys = ap (λ b. p x || b) (any_append p xs ys) ∙ or_assoc (p x) (list_any p xs) (list_any p ys)
  where
    or_assoc : (a b c : Bool) → (a || (b || c)) ≡ ((a || b) || c)
    or_assoc true b c = refl
    or_assoc false b c = refl

pub any_hit : {X : Type 0} (p : X → Bool) (xs : List X) (i : ℕ) (d : X) → i < length xs → p (get_or xs i d) ≡ true → list_any p (reverse xs) ≡ true
any_hit p [] i d lt h = absurd (omega arith)
any_hit p (x ∷ xs) zero d lt h =
    ap (list_any p) (reverse-append (x ∷ []) xs) ∙ any_append p (reverse xs) (x ∷ []) ∙ or_right (list_any p (reverse xs)) (list_any p (x ∷ [])) (or_left (p x) false h)
any_hit p (x ∷ xs) (suc i) d lt h =
    let less : i < length xs = omega arith in
    ap (list_any p) (reverse-append (x ∷ []) xs) ∙ any_append p (reverse xs) (x ∷ []) ∙ or_left (list_any p (reverse xs)) (list_any p (x ∷ [])) (any_hit p xs i d less h)

pub any_more_false : {X : Type 0} (p : X → Bool) (xs : List X) (i : ℕ) (d : X) → i < length xs → list_any p (reverse (take i xs)) ≡ false → p (get_or xs i d) ≡ false → list_any p (reverse (take (i + 1) xs)) ≡ false
any_more_false p xs i d lt none miss = ap (list_any p) (reverse_take_more xs i d lt) ∙ ap (λ b. b || list_any p (reverse (take i xs))) miss ∙ none

-- the same, where the element is known as one that stands there
pub any_hit_at : {X : Type 0} (p : X → Bool) (xs : List X) (i : ℕ) (x : X) → i < length xs → x ≡ get_or xs i x → p x ≡ true → list_any p (reverse xs) ≡ true
any_hit_at p xs i x lt e h = any_hit p xs i x lt (subst (λ y. p y ≡ true) e h)

pub any_more_false_at : {X : Type 0} (p : X → Bool) (xs : List X) (i : ℕ) (x : X) → i < length xs → x ≡ get_or xs i x → list_any p (reverse (take i xs)) ≡ false → p x ≡ false →
    list_any p (reverse (take (i + 1) xs)) ≡ false
any_more_false_at p xs i x lt e none miss = any_more_false p xs i x lt none (subst (λ y. p y ≡ false) e miss)

-- the part that ends with the element at i
pub reverse_take_at : {X : Type 0} (xs : List X) (i : ℕ) (x : X) → i < length xs → x ≡ get_or xs i x → reverse (take (i + 1) xs) ≡ x ∷ reverse (take i xs)
reverse_take_at xs i x lt e = reverse_take_more xs i x lt ∙ ap (λ y. y ∷ reverse (take i xs)) (sym e)

-- one element more, in its own order
pub any_one_more : {X : Type 0} (p : X → Bool) (xs : List X) (i : ℕ) (x d : X) → i < length xs → x ≡ get_or xs i d → list_any p (take (i + 1) xs) ≡ (list_any p (take i xs) || (p x || false))
any_one_more p xs i x d lt e = ap (list_any p) (take_more xs i d lt ∙ ap (λ y. take i xs ++ y ∷ []) (sym e)) ∙ any_append p (take i xs) (x ∷ [])

pub any_stands : {X : Type 0} (p : X → Bool) (xs : List X) (i : ℕ) (x d : X) → i < length xs → x ≡ get_or xs i d → p x ≡ true → list_any p xs ≡ true
any_stands p [] i x d lt e h = absurd (omega arith)
any_stands p (y ∷ xs) zero x d lt e h = or_left (p y) (list_any p xs) (subst (λ z. p z ≡ true) e h)
any_stands p (y ∷ xs) (suc i) x d lt e h = let less : i < length xs = omega arith in or_right (p y) (list_any p xs) (any_stands p xs i x d less e h)
