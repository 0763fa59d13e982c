-- The three words after one changes, and small facts of options.
use Rattle.std.proofs.Common.{◌≡◌, ◌<◌, ℕ, zero, suc, Bool, true, false, true≢false, List, [], ◌∷◌, length, set, sym, refl, ◌∙◌, arith}
use Rattle.std.specs.Prelude.{slice_index, Option, Some, None}
use mathlib.Core.Option.{some, some-ne-none}
use lib.ListN.{get_elem?}

pub set_0_0 : (ws : List ℕ) (m : ℕ) → length ws ≡ 3 → slice_index (set ws 0 m) 0 ≡ m
set_0_0 [] m e = absurd (omega arith)
set_0_0 (x ∷ xs) m e = refl

pub set_0_1 : (ws : List ℕ) (m : ℕ) → slice_index (set ws 0 m) 1 ≡ slice_index ws 1
set_0_1 [] m = refl
set_0_1 (x ∷ xs) m = refl

pub set_0_2 : (ws : List ℕ) (m : ℕ) → slice_index (set ws 0 m) 2 ≡ slice_index ws 2
set_0_2 [] m = refl
set_0_2 (x ∷ xs) m = refl

pub set_1_0 : (ws : List ℕ) (m : ℕ) → slice_index (set ws 1 m) 0 ≡ slice_index ws 0
set_1_0 [] m = refl
set_1_0 (x ∷ xs) m = refl

pub set_1_1 : (ws : List ℕ) (m : ℕ) → length ws ≡ 3 → slice_index (set ws 1 m) 1 ≡ m
set_1_1 [] m e = absurd (omega arith)
set_1_1 (x ∷ []) m e = absurd (omega arith)
set_1_1 (x ∷ y ∷ ys) m e = refl

pub set_1_2 : (ws : List ℕ) (m : ℕ) → slice_index (set ws 1 m) 2 ≡ slice_index ws 2
set_1_2 [] m = refl
set_1_2 (x ∷ []) m = refl
set_1_2 (x ∷ y ∷ ys) m = refl

pub set_2_0 : (ws : List ℕ) (m : ℕ) → slice_index (set ws 2 m) 0 ≡ slice_index ws 0
set_2_0 [] m = refl
set_2_0 (x ∷ xs) m = refl

pub set_2_1 : (ws : List ℕ) (m : ℕ) → slice_index (set ws 2 m) 1 ≡ slice_index ws 1
set_2_1 [] m = refl
set_2_1 (x ∷ []) m = refl
set_2_1 (x ∷ y ∷ ys) m = refl

pub set_2_2 : (ws : List ℕ) (m : ℕ) → length ws ≡ 3 → slice_index (set ws 2 m) 2 ≡ m
set_2_2 [] m e = absurd (omega arith)
set_2_2 (x ∷ []) m e = absurd (omega arith)
set_2_2 (x ∷ y ∷ []) m e = absurd (omega arith)
set_2_2 (x ∷ y ∷ z ∷ zs) m e = refl

-- where something stands at i, the list is longer than i
pub at_bound : {A : Type 0} (l : List A) (i : ℕ) (a : A) → get_elem? l i ≡ some a → i < length l
at_bound [] i a e = absurd (some-ne-none a (sym e))
at_bound (x ∷ xs) zero a e = omega arith
at_bound (x ∷ xs) (suc i) a e = let r = at_bound xs i a e in omega arith

pub off : {G : Type 0} (b : Bool) → b ≡ false → b ≡ true → G
off b is not = absurd (true≢false (sym not ∙ is))

pub not_on : (b : Bool) → (b ≡ true → ⊥) → b ≡ false
not_on true never = absurd (never refl)
not_on false never = refl

pub none_some : {G : Type 0} (o : Option ℕ) (k : ℕ) → o ≡ None → o ≡ Some k → G
none_some o k a b = absurd (cc (a, b))

pub some_same : (a b : ℕ) → Some a ≡ Some b → a ≡ b
some_same a b e = cc e
