-- Rows that stand in the order of offset, then slot.
use Rattle.std.specs.Prelude.{◌≡◌, ℕ, ◌+◌, ◌<◌, ◌≤◌, List, refl}
use Rattle.std.proofs.Common.{arith, subst, sym, ap, inl, inr, ◌∙◌}
use Rattle.std.proofs.lemmas.Bool.{cases_order}
use Rattle.spec_rows.specs.Slots.{slot_count, slot_at, row_end}
use Rattle.spec_rows.specs.Order.{order_key, IsInOrder}
use Rattle.spec_rows.specs.PageTest.{fault, ComesBefore, IsOneBefore, IsFirstOverlap, OrderPasses}

pub key_from_order : (bytes : List ℕ) (i j : ℕ) → i < 4096 → j < 4096 → ComesBefore bytes i j → order_key bytes i < order_key bytes j
key_from_order bytes i j small small' before = elim before [
  | inl below ↦ omega arith
  | inr same ↦ omega (arith, same.0, same.1)
]

pub order_from_key : (bytes : List ℕ) (i j : ℕ) → i < 4096 → j < 4096 → order_key bytes i < order_key bytes j → ComesBefore bytes i j
order_from_key bytes i j small small' below = elim (cases_order (slot_at bytes i) (slot_at bytes j)) [
  | inl same ↦ inr (same, omega (arith, same))
  | inr (inl less) ↦ inl less
  | inr (inr more) ↦ absurd (omega (arith, more))
]

-- places rise where keys do
places_rise : (bytes : List ℕ) (at : ℕ → ℕ) → IsInOrder bytes at → (k l : ℕ) → k < slot_count bytes → l < slot_count bytes
    → order_key bytes (at k) < order_key bytes (at l) → k < l
places_rise bytes at ordered k l within within' less = elim (cases_order k l) [
  | inl same ↦ absurd (omega (arith, ap (λ m. order_key bytes (at m)) same))
  | inr (inl below) ↦ below
  | inr (inr above) ↦ absurd (omega (arith, ordered.rising l k above within))
]

pub next_in_order : (bytes : List ℕ) (at : ℕ → ℕ) → IsInOrder bytes at → (k : ℕ) → k + 1 < slot_count bytes → IsOneBefore bytes (at k) (at (k + 1))
next_in_order bytes at ordered k within =
    let n = slot_count bytes in
    let few = ordered.few in
    let first = ordered.within k (omega arith) in
    let second = ordered.within (k + 1) within in
    record {
      first = first;
      second = second;
      before = order_from_key bytes (at k) (at (k + 1)) (omega arith) (omega arith) (ordered.rising k (k + 1) (omega arith) within);
      none_between = λ m small after before.
          let found = ordered.whole m small in
          let after_key = subst (λ (s : ℕ). order_key bytes (at k) < order_key bytes s) (sym found.2) (key_from_order bytes (at k) m (omega arith) (omega arith) after) in
          let before_key = subst (λ (s : ℕ). order_key bytes s < order_key bytes (at (k + 1))) (sym found.2) (key_from_order bytes m (at (k + 1)) (omega arith) (omega arith) before) in
          let above : k < found.0 = places_rise bytes at ordered k found.0 (omega arith) found.1 after_key in
          let below : found.0 < k + 1 = places_rise bytes at ordered found.0 (k + 1) found.1 within before_key in
          omega arith;
    }

-- who stands before whom stands in neighbouring places
pub record StandNext (bytes : List ℕ) (at : ℕ → ℕ) (i j : ℕ) : Type 0 where
  pub place : ℕ
  pub within : place + 1 < slot_count bytes
  pub first : at place ≡ i
  pub second : at (place + 1) ≡ j

pub stand_next : (bytes : List ℕ) (at : ℕ → ℕ) → IsInOrder bytes at → (i j : ℕ) → IsOneBefore bytes i j → StandNext bytes at i j
stand_next bytes at ordered i j next =
    let few = ordered.few in
    let one = ordered.whole i next.first in
    let two = ordered.whole j next.second in
    let i_small : i < 4096 = omega (arith, next.first) in
    let j_small : j < 4096 = omega (arith, next.second) in
    let keys : order_key bytes i < order_key bytes j = key_from_order bytes i j i_small j_small next.before in
    let keys' : order_key bytes (at one.0) < order_key bytes (at two.0) =
    subst (λ (s : ℕ). order_key bytes s < order_key bytes (at two.0)) (sym one.2) (subst (λ (s : ℕ). order_key bytes i < order_key bytes s) (sym two.2) keys) in
    let below : one.0 < two.0 = places_rise bytes at ordered one.0 two.0 one.1 two.1 keys' in
    elim (cases_order (one.0 + 1) two.0) [
      | inl same ↦ record { place = one.0; within = omega (arith, two.1, same); first = one.2; second = ap at same ∙ two.2 }
      | inr (inl gap) ↦
          let middle = ordered.within (one.0 + 1) (omega (arith, two.1, gap)) in
          let after = subst (λ (s : ℕ). order_key bytes s < order_key bytes (at (one.0 + 1))) one.2 (ordered.rising one.0 (one.0 + 1) (omega arith) (omega (arith, two.1, gap))) in
          let before = subst (λ (s : ℕ). order_key bytes (at (one.0 + 1)) < order_key bytes s) two.2 (ordered.rising (one.0 + 1) two.0 gap two.1) in
          absurd (next.none_between (at (one.0 + 1)) middle
          (order_from_key bytes i (at (one.0 + 1)) i_small (omega arith) after)
          (order_from_key bytes (at (one.0 + 1)) j (omega arith) j_small before))
      | inr (inr over) ↦ absurd (omega (arith, below, over))
    ]

-- the first place whose row begins before the end of the one before gives the fault
pub overlap_in_order : (bytes : List ℕ) (at : ℕ → ℕ) → IsInOrder bytes at → (k : ℕ) → k + 1 < slot_count bytes
    → slot_at bytes (at (k + 1)) < row_end bytes (at k)
    → ((m : ℕ) → m < k → row_end bytes (at m) ≤ slot_at bytes (at (m + 1)))
    → IsFirstOverlap bytes (fault 8942 (at (k + 1)) (slot_at bytes (at (k + 1))))
overlap_in_order bytes at ordered k within overlaps earlier = record {
  one_before = at k;
  slot = at (k + 1);
  next = next_in_order bytes at ordered k within;
  overlaps = overlaps;
  earlier = λ i j next before.
      let few = ordered.few in
      let places = stand_next bytes at ordered i j next in
      let last = ordered.within (k + 1) within in
      let key = key_from_order bytes j (at (k + 1)) (omega (arith, next.second)) (omega arith) before in
      let key' = subst (λ (s : ℕ). order_key bytes s < order_key bytes (at (k + 1))) (sym places.second) key in
      let below : places.place + 1 < k + 1 = places_rise bytes at ordered (places.place + 1) (k + 1) places.within within key' in
      subst (λ (s : ℕ). row_end bytes i ≤ slot_at bytes s) places.second
      (subst (λ (s : ℕ). row_end bytes s ≤ slot_at bytes (at (places.place + 1))) places.first (earlier places.place (omega arith)));
  is = refl;
}

pub no_overlap_in_order : (bytes : List ℕ) (at : ℕ → ℕ) → IsInOrder bytes at
    → ((m : ℕ) → m + 1 < slot_count bytes → row_end bytes (at m) ≤ slot_at bytes (at (m + 1))) → OrderPasses bytes
no_overlap_in_order bytes at ordered all i j next =
    let places = stand_next bytes at ordered i j next in
    subst (λ (s : ℕ). row_end bytes i ≤ slot_at bytes s) places.second
    (subst (λ (s : ℕ). row_end bytes s ≤ slot_at bytes (at (places.place + 1))) places.first (all places.place places.within))
