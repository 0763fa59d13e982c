-- The lowest place of which something holds.
use Rattle.std.proofs.Common.{◌≡◌, ◌≢◌, refl, ℕ, zero, suc, ◌+◌, ◌<◌, ◌≤◌, Bool, true, false, List, [], ◌∷◌, filter, Option, Some, None, ap, sym, ◌∙◌, arith, inl, inr}
use Rattle.std.specs.Prelude.{slice_get}
use Rattle.std.specs.List.{range_with_len}
use Rattle.std.proofs.lemmas.Bool.{false≢true, cases_lt}
use Rattle.std.proofs.lemmas.Option.{none-some}
use Rattle.spec_file.specs.Catalog.{entry_count, entry_at}
use Rattle.db_cat.specs.Changes.{entries_where}

or_zero : Option ℕ → ℕ
or_zero None = 0
or_zero (Some x) = x

pub some_same : {x y : ℕ} → Some x ≡ Some y → x ≡ y
unfolding or_zero
some_same h = ap or_zero h

lowest_here : (f : ℕ → Bool) (a n : ℕ) → f a ≡ true → slice_get (filter f (range_with_len a (suc n))) 0 ≡ Some a
lowest_here f a n holds = rw holds refl

lowest_later : (f : ℕ → Bool) (a n : ℕ) → f a ≡ false → slice_get (filter f (range_with_len a (suc n))) 0 ≡ slice_get (filter f (range_with_len (a + 1) n)) 0
lowest_later f a n not_here = rw not_here refl

lowest_by : (f : ℕ → Bool) (a n i : ℕ) (b : Bool) → f a ≡ b → a ≤ i → f i ≡ true → ((k : ℕ) → a ≤ k → k < i → f k ≡ false)
    → (a < i → slice_get (filter f (range_with_len (a + 1) n)) 0 ≡ Some i) → slice_get (filter f (range_with_len a (suc n))) 0 ≡ Some i
lowest_by f a n i true here low holds before later = lowest_here f a n here ∙ ap Some (elim (cases_lt a i) [
  | inl less ↦ absurd (false≢true (sym (before a (omega arith) less) ∙ here))
  | inr not_less ↦ omega (arith, low, not_less)
])
lowest_by f a n i false not_here low holds before later = lowest_later f a n not_here ∙ elim (cases_lt a i) [
  | inl less ↦ later less
  | inr not_less ↦ let same : a ≡ i = omega (arith, low, not_less) in absurd (false≢true (sym not_here ∙ ap f same ∙ holds))
]

pub lowest_is : (f : ℕ → Bool) (a n i : ℕ) → a ≤ i → i < a + n → f i ≡ true → ((k : ℕ) → a ≤ k → k < i → f k ≡ false) → slice_get (filter f (range_with_len a n)) 0 ≡ Some i
lowest_is f a zero i low high holds before = absurd (omega (arith, low, high))
lowest_is f a (suc n) i low high holds before =
    lowest_by f a n i (f a) refl low holds before
    (λ less. lowest_is f (a + 1) n i (omega (arith, less)) (omega (arith, high)) holds (λ k from to. before k (omega (arith, from)) to))

pub lowest_none : (f : ℕ → Bool) (a n : ℕ) → ((k : ℕ) → a ≤ k → k < a + n → f k ≡ false) → slice_get (filter f (range_with_len a n)) 0 ≡ None
lowest_none f a zero none = refl
lowest_none f a (suc n) none =
    lowest_later f a n (none a (omega arith) (omega arith)) ∙ lowest_none f (a + 1) n (λ k from to. none k (omega (arith, from)) (omega (arith, to)))

-- ---- and the other way round

pub record IsLowest (f : ℕ → Bool) (a n i : ℕ) : Type 0 where
  pub low : a ≤ i
  pub high : i < a + n
  pub holds : f i ≡ true
  pub before : (k : ℕ) → a ≤ k → k < i → f k ≡ false

first_here : (f : ℕ → Bool) (a n i : ℕ) → f a ≡ true → a ≡ i → IsLowest f a (suc n) i
first_here f a n i here same = record {
  low = omega (arith, same);
  high = omega (arith, same);
  holds = ap f (sym same) ∙ here;
  before = λ k from to. absurd (omega (arith, from, to, same));
}

first_later : (f : ℕ → Bool) (a n i : ℕ) → f a ≡ false → IsLowest f (a + 1) n i → IsLowest f a (suc n) i
first_later f a n i not_here rest =
    let low = rest.low in
    let high = rest.high in
    record {
      low = omega (arith, low);
      high = omega (arith, high);
      holds = rest.holds;
      before = λ k from to. elim (cases_lt a k) [
        | inl less ↦ rest.before k (omega (arith, less)) to
        | inr not_less ↦ let same : k ≡ a = omega (arith, from, not_less) in ap f same ∙ not_here
      ];
    }

fact_by : (f : ℕ → Bool) (a n i : ℕ) (b : Bool) → f a ≡ b → slice_get (filter f (range_with_len a (suc n))) 0 ≡ Some i
    → (slice_get (filter f (range_with_len (a + 1) n)) 0 ≡ Some i → IsLowest f (a + 1) n i) → IsLowest f a (suc n) i
fact_by f a n i true here h later = first_here f a n i here (some_same (sym (lowest_here f a n here) ∙ h))
fact_by f a n i false not_here h later = first_later f a n i not_here (later (sym (lowest_later f a n not_here) ∙ h))

pub lowest_fact : (f : ℕ → Bool) (a n i : ℕ) → slice_get (filter f (range_with_len a n)) 0 ≡ Some i → IsLowest f a n i
lowest_fact f a zero i h = absurd (none-some i h)
lowest_fact f a (suc n) i h = fact_by f a n i (f a) refl h (λ rest. lowest_fact f (a + 1) n i rest)

none_by : (f : ℕ → Bool) (a n : ℕ) (b : Bool) → f a ≡ b → slice_get (filter f (range_with_len a (suc n))) 0 ≡ None
    → (f a ≡ false) × (slice_get (filter f (range_with_len (a + 1) n)) 0 ≡ None)
none_by f a n true here h = absurd (none-some a (sym h ∙ lowest_here f a n here))
none_by f a n false not_here h = (not_here, sym (lowest_later f a n not_here) ∙ h)

pub none_fact : (f : ℕ → Bool) (a n : ℕ) → slice_get (filter f (range_with_len a n)) 0 ≡ None → (k : ℕ) → a ≤ k → k < a + n → f k ≡ false
none_fact f a zero h k from to = absurd (omega (arith, from, to))
none_fact f a (suc n) h k from to = let parts = none_by f a n (f a) refl h in elim (cases_lt a k) [
  | inl less ↦ none_fact f (a + 1) n parts.1 k (omega (arith, less)) (omega (arith, to))
  | inr not_less ↦ let same : k ≡ a = omega (arith, from, not_less) in ap f same ∙ parts.0
]

-- ---- entries

pub entry_is : (holds : List ℕ → Bool) (boot : List ℕ) (i : ℕ) → i < entry_count → holds (entry_at boot i) ≡ true → ((k : ℕ) → k < i → holds (entry_at boot k) ≡ false)
    → slice_get (entries_where holds boot) 0 ≡ Some i
unfolding entries_where
entry_is holds boot i lt here before = lowest_is (λ k. holds (entry_at boot k)) 0 entry_count i (omega arith) (omega (arith, lt)) here (λ k from to. before k to)

pub entry_none : (holds : List ℕ → Bool) (boot : List ℕ) → ((k : ℕ) → k < entry_count → holds (entry_at boot k) ≡ false) → slice_get (entries_where holds boot) 0 ≡ None
unfolding entries_where
entry_none holds boot none = lowest_none (λ k. holds (entry_at boot k)) 0 entry_count (λ k from to. none k (omega (arith, to)))

pub entry_fact : (holds : List ℕ → Bool) (boot : List ℕ) (i : ℕ) → slice_get (entries_where holds boot) 0 ≡ Some i → IsLowest (λ k. holds (entry_at boot k)) 0 entry_count i
unfolding entries_where
entry_fact holds boot i h = lowest_fact (λ k. holds (entry_at boot k)) 0 entry_count i h

pub no_entry_fact : (holds : List ℕ → Bool) (boot : List ℕ) → slice_get (entries_where holds boot) 0 ≡ None → (k : ℕ) → k < entry_count → holds (entry_at boot k) ≡ false
unfolding entries_where
no_entry_fact holds boot h k lt = none_fact (λ k. holds (entry_at boot k)) 0 entry_count h k (omega arith) (omega (arith, lt))
