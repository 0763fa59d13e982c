-- Offsets that never fall from a slot to the next.
use Rattle.std.proofs.Common.{◌≡◌, refl, ℕ, zero, suc, ◌+◌, ◌<◌, ◌≤◌, List, arith, ap, inl, inr}
use Rattle.std.proofs.lemmas.Bool.{cases_order}
use Rattle.spec_rows.specs.Slots.{slot_limit, slot_count, slot_at}
use Rattle.spec_rows.specs.Order.{IsInOrder}

climbs : (bytes : List ℕ) (n : ℕ) → ((i : ℕ) → i + 1 < n → slot_at bytes i ≤ slot_at bytes (i + 1))
    → (i j : ℕ) → i ≤ j → j < n → slot_at bytes i ≤ slot_at bytes j
climbs bytes n rise i zero below within =
    let none : i ≡ 0 = omega arith in
    omega (arith, ap (slot_at bytes) none)
climbs bytes n rise i (suc j) below within = elim (cases_order i (suc j)) [
  | inl same ↦ omega (arith, ap (slot_at bytes) same)
  | inr (inl less) ↦
      let before = climbs bytes n rise i j (omega (arith, less)) (omega arith) in
      let next : j + 1 ≡ suc j = omega arith in
      let step = rise j (omega arith) in
      omega (arith, before, step, ap (slot_at bytes) next)
  | inr (inr more) ↦ absurd (omega (arith, more))
]

pub rising_in_order : (bytes : List ℕ) → slot_count bytes ≤ slot_limit
    → ((i : ℕ) → i + 1 < slot_count bytes → slot_at bytes i ≤ slot_at bytes (i + 1)) → IsInOrder bytes (λ k. k)
rising_in_order bytes few rise = record {
  few = few;
  within = λ k small. small;
  rising = λ k l less within.
      let climb = climbs bytes (slot_count bytes) rise k l (omega arith) within in
      omega arith;
  whole = λ i small. (i, small, refl);
}
