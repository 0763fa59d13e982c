-- What a change of rows leaves of the page test.
use Rattle.std.specs.Prelude.{◌≡◌, ℕ, ◌+◌, ◌-◌, ◌<◌, ◌≤◌, ◌==◌, false, IsTrue, List, length, refl}
use Rattle.std.specs.List.{insert, remove}
use Rattle.std.proofs.Common.{arith, ap, sym, subst, ◌∙◌, inl, inr, get_or}
use Rattle.std.proofs.lemmas.Bool.{cases_order, ne_eqb, and_right}
use Rattle.std.proofs.Common.{set}
use Rattle.std.proofs.lemmas.List.{same_lists, get_or-set_same, get_or-set_other, length-set}
use Rattle.std.proofs.lemmas.List.Edits.{length-insert, get_or-insert_below, get_or-insert_at, get_or-insert_above, length-remove, get_or-remove_below, get_or-remove_above}
use Rattle.spec_file.specs.Header.{header_of}
use Rattle.spec_file.specs.declared.header.Header.{Header}
use Rattle.spec_file.specs.declared.data.Kind.{Kind}
use Rattle.spec_rows.specs.Slots.{slot_count, rows_end, page_rows, rows_size, fits_page}
use Rattle.spec_rows.specs.PageTest as spec
use Rattle.spec_rows.specs.Changes.{with_counts, IsCompacted, FitsBehind, IsInserted, AtEnd, Compacted, MeetsTest}
use Rattle.pg_slots.proofs.Arranged.{layout_of, layout_size}
use Rattle.pg_slots.proofs.Moved.{same_rows, fits_still, parts}
use Rattle.pg_slots.proofs.Placed.{placed_holds}
use Rattle.pg_slots.proofs.Compacted.{compacted_holds}

-- the row fits behind the others once they are moved together
pub fits_compacted : (kind : Kind) (row before middle : List ℕ) → length before ≡ 8192 → spec.HoldsRows kind before → IsCompacted before middle
    → length row + 2 ≤ (header_of before).free_count → FitsBehind row middle
fits_compacted kind row before middle long holds compacted enough =
    let whole = parts kind before long holds in
    let size = layout_size kind before (page_rows before) (layout_of kind before long holds) in
    let count : slot_count middle ≡ slot_count before = ap (λ (h : Header). h.slots) compacted.header in
    let ends : rows_end middle ≡ 96 + rows_size before (slot_count before) = ap (λ (h : Header). h.free_from) compacted.header in
    omega (arith, whole, size, count, ends, enough)

pub inserted_holds : (kind : Kind) (i : ℕ) (row before now : List ℕ) → length before ≡ 8192 → spec.HoldsRows kind before → IsTrue (fits_page kind before row)
    → i ≤ slot_count before → length row + 2 ≤ (header_of before).free_count → IsInserted i row before now
    → spec.HoldsRows kind now × (page_rows now ≡ insert (page_rows before) i row)
inserted_holds kind i row before now long holds fits within enough (AtEnd behind placed) =
    placed_holds kind i row before now long holds fits within behind enough placed
inserted_holds kind i row before now long holds fits within enough (Compacted middle full compacted placed) =
    let first = compacted_holds kind before middle long holds compacted in
    let count : slot_count middle ≡ slot_count before = ap (λ (h : Header). h.slots) compacted.header in
    let free : (header_of middle).free_count ≡ (header_of before).free_count = ap (λ (h : Header). h.free_count) compacted.header in
    let second = placed_holds kind i row middle now (compacted.long ∙ long) first.0
    (fits_still kind before middle row (same_rows before middle _ _ _ compacted.header) fits) (omega (arith, count, within))
    (fits_compacted kind row before middle long holds compacted enough) (omega (arith, free, enough)) placed in
    (second.0, second.1 ∙ ap (λ (rows : List (List ℕ)). insert rows i row) first.1)

pub with_counts_twice : (before middle now : List ℕ) (a b c d e f : ℕ) → header_of middle ≡ with_counts a b c (header_of before)
    → header_of now ≡ with_counts d e f (header_of middle) → header_of now ≡ with_counts d e f (header_of before)
with_counts_twice before middle now a b c d e f first second = second ∙ ap (with_counts d e f) first

-- what the page test asks beside its rows stays
pub passes_still : (kind : Kind) (p o : ℕ) (before now : List ℕ) (a b c : ℕ) → header_of now ≡ with_counts a b c (header_of before)
    → spec.HoldsRows kind now → spec.PassesButRows p o kind before → spec.PassesButRows p o kind now
passes_still kind p o before now a b c header holds passes = record {
  own = subst (λ (h : Header). IsTrue (spec.is_own_page p h)) (sym header) passes.own;
  object = subst (λ (h : Header). IsTrue (spec.belongs_to o h)) (sym header) passes.object;
  links = subst (λ (h : Header). IsTrue (spec.has_links kind h)) (sym header) passes.links;
  holds = holds;
}

some_rows : (h : Header) → 0 < h.slots → IsTrue (spec.has_rows h)
some_rows h some =
    let several : (h.slots == 0) ≡ false = ne_eqb h.slots 0 (λ none. omega (arith, none)) in
    rw (and_right (h.page_type == 2) (h.slots == 0) several) refl

-- a page into which a row was put passes its test
pub inserted_test : (kind : Kind) (i : ℕ) (row before now : List ℕ) → IsInserted i row before now → spec.HoldsRows kind now → MeetsTest kind before now
inserted_test kind i row before now (AtEnd behind placed) holds p o passes =
    let count : slot_count now ≡ slot_count before + 1 = ap (λ (h : Header). h.slots) placed.header in
    record { rest = passes_still kind p o before now _ _ _ placed.header holds passes; rows = some_rows (header_of now) (omega (arith, count)) }
inserted_test kind i row before now (Compacted middle full compacted placed) holds p o passes =
    let count : slot_count now ≡ slot_count middle + 1 = ap (λ (h : Header). h.slots) placed.header in
    record {
      rest = passes_still kind p o before now _ _ _ (with_counts_twice before middle now _ _ _ _ _ _ compacted.header placed.header) holds passes;
      rows = some_rows (header_of now) (omega (arith, count));
    }

-- an element that is taken out and put in at the same place is exchanged
pub put_back : (xs : List (List ℕ)) (i : ℕ) (y : List ℕ) → i < length xs → insert (remove xs i) i y ≡ set xs i y
put_back xs i y within =
    let less = length-remove xs i within in
    let size = length-insert (remove xs i) i y (omega (arith, less)) in
    same_lists (insert (remove xs i) i y) (set xs i y) (omega (arith, less, size, length-set xs i y)) (λ k d inside. elim (cases_order k i) [
      | inl same ↦
          ap (λ (m : ℕ). get_or (insert (remove xs i) i y) m d) same ∙ get_or-insert_at (remove xs i) i y d (omega (arith, less))
          ∙ sym (get_or-set_same xs i y d within) ∙ ap (λ (m : ℕ). get_or (set xs i y) m d) (sym same)
      | inr (inl below) ↦
          get_or-insert_below (remove xs i) i y d k below (omega (arith, less)) ∙ get_or-remove_below xs i d k below within
          ∙ sym (get_or-set_other xs i k y d (omega (arith, below)))
      | inr (inr above) ↦
          let next : k ≡ (k - 1) + 1 = omega (arith, above) in
          ap (λ (m : ℕ). get_or (insert (remove xs i) i y) m d) next
          ∙ get_or-insert_above (remove xs i) i y d (k - 1) (omega (arith, above)) (omega (arith, less))
          ∙ get_or-remove_above xs i d (k - 1) (omega (arith, above)) within ∙ ap (λ (m : ℕ). get_or xs m d) (sym next)
          ∙ sym (get_or-set_other xs i k y d (omega (arith, above)))
    ])
