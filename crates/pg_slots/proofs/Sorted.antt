-- Starts that are sorted put the slots in order.
use Rattle.std.proofs.Common.{◌≡◌, refl, ℕ, ◌+◌, ◌*◌, ◌<◌, ◌≤◌, List, Ordering, length, map, get_or, true, false, arith, ap, sym, subst, ◌∙◌}
use Rattle.std.proofs.lemmas.Bool.Decides.{nat_tests}
use Rattle.std.proofs.lemmas.Cmp.{nat_cmp_total, nat_eq_equiv, on_total, then_total}
use Rattle.std.proofs.lemmas.List.{get_or_default}
use Rattle.std.proofs.lemmas.List.FromFn.{length-map-range_with_len, get_or-map-range_with_len}
use Rattle.std.proofs.lemmas.List.Sorted.{All-permutation, Contains-permutation, length_permutation, ranks_by, sorted_far}
use Rattle.std.proofs.lemmas.Map.Keys.{IsDistinct-from_apart, IsDistinct-IsPermutation, apart_from_distinct}
use Rattle.std.specs.Bool.{nat_eq}
use Rattle.std.specs.List.{range_with_len, All, AllAdjacentBelow, IsDistinct}
use Rattle.std.specs.List.Sorted.{IsPermutation, IsSorted}
use Rattle.std.specs.Ordering.{is_le, is_lt, nat_cmp, on, then_cmp}
use Rattle.spec_rows.specs.Slots.{slot_limit, slot_count}
use Rattle.pg_slots.specs.Starts.{start_of, no_start, AreInOrder}
use Rattle.pg_slots.specs.declared.order.RowStart.{RowStart}

-- where each row begins, by slot
abbrev pub starts_of : List ℕ → List RowStart
starts_of bytes = map (start_of bytes) (range_with_len 0 (slot_count bytes))

-- by offset, then slot
abbrev pub start_cmp : RowStart → RowStart → Ordering
start_cmp = then_cmp (on (λ s. s.offset) nat_cmp) (on (λ s. s.slot) nat_cmp)

turned : (a b : RowStart) → is_le (start_cmp a b) ≡ true → is_lt (start_cmp b a) ≡ false
turned a b upto = grind (arith, nat_tests)

-- what a test of neighbours finds in order is sorted
pub sorted_from_test : (starts : List RowStart) → AllAdjacentBelow (λ a b. is_le (start_cmp a b) ≡ true) starts (length starts) → IsSorted start_cmp starts
sorted_from_test starts upto k d low within = turned (get_or starts k d) (get_or starts (k + 1) d) (upto k d within)

start_at : (bytes : List ℕ) (i : ℕ) (d : RowStart) → i < slot_count bytes → get_or (starts_of bytes) i d ≡ start_of bytes i
start_at bytes i d within = get_or-map-range_with_len (start_of bytes) 0 (slot_count bytes) i i d within (omega arith)

start_count : (bytes : List ℕ) → length (starts_of bytes) ≡ slot_count bytes
start_count bytes = length-map-range_with_len (start_of bytes) 0 (slot_count bytes)

-- no two starts are of one slot
starts_apart : (bytes : List ℕ) → IsDistinct (on (λ s. s.slot) nat_eq) (starts_of bytes)
starts_apart bytes = IsDistinct-from_apart (on (λ s. s.slot) nat_eq) (starts_of bytes) (λ i j d less within.
    let second : j < slot_count bytes = omega (arith, start_count bytes) in
    rw (start_at bytes i d (omega arith), start_at bytes j d second) (grind (arith, nat_tests)))

-- s is where the row of its slot begins
abbrev IsStart : List ℕ → RowStart → Type 0
IsStart bytes s = (s.slot < slot_count bytes) × (start_of bytes s.slot ≡ s)

all_starts : (bytes : List ℕ) → All (IsStart bytes) (starts_of bytes)
all_starts bytes k d within =
    let small : k < slot_count bytes = omega (arith, start_count bytes) in
    subst (IsStart bytes) (sym (start_at bytes k d small)) (small, refl)

-- the keys of two starts rise where neither the order nor the slots say otherwise
keys_rise : (a b : RowStart) → a.slot < 4096 → b.slot < 4096 → is_lt (start_cmp b a) ≡ false → nat_eq a.slot b.slot ≡ false
    → a.offset * 4096 + a.slot < b.offset * 4096 + b.slot
keys_rise a b small small' up other = grind (arith, nat_tests)

pub sorted_in_order : (bytes : List ℕ) (starts : List RowStart) → slot_count bytes ≤ slot_limit → IsPermutation (starts_of bytes) starts → IsSorted start_cmp starts → AreInOrder bytes starts
sorted_in_order bytes starts few moved sorted =
    let size : length starts ≡ slot_count bytes = length_permutation (starts_of bytes) starts moved ∙ start_count bytes in
    let total = then_total (on_total (λ (s : RowStart). s.offset) nat_cmp_total) (on_total (λ (s : RowStart). s.slot) nat_cmp_total) in
    let apart = IsDistinct-IsPermutation (on (λ s. s.slot) nat_eq) (λ a b. nat_eq_equiv.symm a.slot b.slot) (starts_of bytes) starts moved (starts_apart bytes) in
    let all = All-permutation (IsStart bytes) (starts_of bytes) starts moved (all_starts bytes) in
    record {
      few = few;
      within = λ k small. (all k no_start (omega (arith, size))).0;
      rising = λ k l less within.
          let first = all k no_start (omega (arith, size)) in
          let second = all l no_start (omega (arith, size)) in
          let below = keys_rise (get_or starts k no_start) (get_or starts l no_start) (omega (arith, first.0)) (omega (arith, second.0))
          (sorted_far (λ x y. is_lt (start_cmp x y)) (ranks_by total (λ s. s)) starts sorted k l no_start (omega arith) (omega (arith, size)))
          (apart_from_distinct (on (λ s. s.slot) nat_eq) starts k l no_start apart less (omega (arith, size))) in
          omega (arith, below, ap (λ (s : RowStart). s.offset) first.1, ap (λ (s : RowStart). s.offset) second.1);
      whole = λ i small.
          let in_starts = Contains-permutation (starts_of bytes) starts (start_of bytes i) moved (i, omega (arith, start_count bytes), start_at bytes i (start_of bytes i) small) in
          (in_starts.0, omega (arith, size, in_starts.1), ap (λ (s : RowStart). s.slot) (get_or_default starts in_starts.0 no_start (start_of bytes i) in_starts.1 ∙ in_starts.2));
    }
