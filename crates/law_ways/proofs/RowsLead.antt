-- The row towards a key is the last whose key is not above it, or else the first; in a leaf, a row is found at its key.
use Rattle.std.proofs.Common.{◌≡◌, ℕ, suc, ◌≤◌, Bool, true, false, List, [], ◌∷◌, Option, Some, None, nat_lt, ◌==◌, refl, sym, ap, ◌∙◌, inl, inr, arith}
use Rattle.std.specs.Prelude.{if◌then◌else◌}
use Rattle.std.proofs.lemmas.Bool.{cases_order, lt-ltb, le-ltb, ltb-true, ltb-false, eq-eqb, ne_eqb}
use Rattle.spec_levels.specs.Levels.{Row}
use Rattle.spec_ways.specs.Rows.{value_at, value_found}
use Rattle.spec_ways.specs.Ways.{are_above, row_toward}
use Rattle.law_ways.proofs.Bounds.{Within}
use Rattle.law_ways.proofs.RowLaws.{value_same, value_other}
use Rattle.law_ways.proofs.RowValues.{none_below}
use Rattle.law_ways.specs.WayLaws.{AreAbove, IsLastNotAbove, RowsLead}

are_all : (k : ℕ) (rows : List (Row ℕ)) → are_above k rows ≡ true → AreAbove k rows
are_all k [] e = tt
are_all k (s ∷ rest) e = by_test (nat_lt k s.key) refl e (are_all k rest)
  where
    by_test : (b : Bool) → nat_lt k s.key ≡ b → (if b then are_above k rest else false) ≡ true → (are_above k rest ≡ true → AreAbove k rest) → AreAbove k (s ∷ rest)
    by_test true less e go = (ltb-true k s.key less, go e)
    by_test false less e go = absurd (cc)

toward_low : (k : ℕ) (r : Row ℕ) (rest : List (Row ℕ)) → are_above k (r ∷ rest) ≡ false → (row_toward k (r ∷ rest)).key ≤ k
toward_low k r [] e = by_test (nat_lt k r.key) refl e
  where
    by_test : (b : Bool) → nat_lt k r.key ≡ b → (if b then true else false) ≡ false → r.key ≤ k
    by_test true less e = absurd (cc)
    by_test false less e = ltb-false k r.key less
toward_low k r (s ∷ rest) e = by_test (are_above k (s ∷ rest)) refl e (toward_low k s rest)
  where
    by_first : (b : Bool) → nat_lt k r.key ≡ b → (if b then true else false) ≡ false → r.key ≤ k
    by_first true less e = absurd (cc)
    by_first false less e = ltb-false k r.key less

    by_test : (b : Bool) → are_above k (s ∷ rest) ≡ b → (if nat_lt k r.key then b else false) ≡ false → (are_above k (s ∷ rest) ≡ false → (row_toward k (s ∷ rest)).key ≤ k)
        → (if b then r else row_toward k (s ∷ rest)).key ≤ k
    by_test true above e go = by_first (nat_lt k r.key) refl e
    by_test false above e go = go above

lead : (k : ℕ) (r : Row ℕ) (rest : List (Row ℕ)) → IsLastNotAbove k (r ∷ rest) (row_toward k (r ∷ rest))
lead k r [] = record { front = []; back = []; rows_are = refl; above = tt; not_above = inr refl }
lead k r (s ∷ rest) = by_test (are_above k (s ∷ rest)) refl (lead k s rest)
  where
    by_test : (b : Bool) → are_above k (s ∷ rest) ≡ b → IsLastNotAbove k (s ∷ rest) (row_toward k (s ∷ rest)) → IsLastNotAbove k (r ∷ s ∷ rest) (if b then r else row_toward k (s ∷ rest))
    by_test true e h = record { front = []; back = s ∷ rest; rows_are = refl; above = are_all k (s ∷ rest) e; not_above = inr refl }
    by_test false e h = record { front = r ∷ h.front; back = h.back; rows_are = ap (λ l. r ∷ l) h.rows_are; above = h.above; not_above = inl (toward_low k s rest e) }

pub rows_lead : RowsLead
rows_lead k r rest = lead k r rest

-- a row of a leaf
module _ {V : Type 0} where
  found_later : (k : ℕ) (x : Row V) (xs : List (Row V)) → nat_lt x.key k ≡ true → value_found k (x ∷ xs) ≡ value_found k xs
  found_later k x xs e = rw e refl

  found_here : (k : ℕ) (x : Row V) (xs : List (Row V)) → nat_lt x.key k ≡ false → value_found k (x ∷ xs) ≡ (if k == x.key then Some x.value else None)
  found_here k x xs e = rw e refl

  pub found_is : (low : ℕ) (high : Option ℕ) (k : ℕ) (xs : List (Row V)) → Within low high xs → value_found k xs ≡ value_at k xs
  found_is low high k [] w = refl
  found_is low high k (x ∷ xs) w = elim (cases_order k x.key) [
    | inl same ↦
        found_here k x xs (le-ltb x.key k (omega (arith, same)))
        ∙ ap (λ (b : Bool). if b then Some x.value else None) (eq-eqb k x.key same) ∙ sym (value_same k x xs same)
    | inr (inl less) ↦
        found_here k x xs (le-ltb x.key k (omega (arith, less)))
        ∙ ap (λ (b : Bool). if b then Some x.value else None) (ne_eqb k x.key (λ same. omega (arith, same, less)))
        ∙ sym (none_below k x.key high (x ∷ xs) less (omega arith, w.1, w.2))
    | inr (inr more) ↦
        found_later k x xs (lt-ltb x.key k more) ∙ found_is (suc x.key) high k xs w.2 ∙ sym (value_other k x xs (λ same. omega (arith, same, more)))
  ]
