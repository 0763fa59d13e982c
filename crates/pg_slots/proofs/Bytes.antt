-- Parts of a page that stay where others are put.
use Rattle.std.proofs.Common.{◌≡◌, ℕ, ◌+◌, ◌-◌, ◌*◌, ◌<◌, ◌≤◌, List, take, drop, ap, sym, ◌∙◌, arith, inl, inr}
use Rattle.std.proofs.lemmas.List.{drop-take}
use Rattle.std.proofs.lemmas.Bool.{cases_order}
use Rattle.spec_rows.specs.Slots.{slot_at}
use Rattle.spec_rows.specs.Changes.{Stays}
use Rattle.pg_base.specs.Numbers.{PutsNumber}
use Rattle.pg_base.proofs.NumberLaws.{same_number_behind, same_front, same_back, number_stays}
use Rattle.pg_slots.specs.Puts.{PutsSlot}

-- a part before a place is told by the bytes before it
pub stays_front : (a b n : ℕ) (before now : List ℕ) → take n now ≡ take n before → a ≤ b → b ≤ n → Stays a b before now
stays_front a b n before now same order within =
    let there : a + (b - a) ≡ b = omega arith in
    let front = same_front b n now before same within in
    sym (drop-take a (b - a) now) ∙ ap (λ (i : ℕ). drop a (take i now)) there ∙ ap (drop a) front
    ∙ ap (λ (i : ℕ). drop a (take i before)) (sym there) ∙ drop-take a (b - a) before

-- a part behind a place by the bytes behind it
pub stays_back : (a b n : ℕ) (before now : List ℕ) → drop n now ≡ drop n before → n ≤ a → Stays a b before now
stays_back a b n before now same within = ap (take (b - a)) (same_back a n now before same within)

pub slot_stays_back : (j n : ℕ) (before now : List ℕ) → drop n now ≡ drop n before → n ≤ 8190 - 2 * j → slot_at now j ≡ slot_at before j
slot_stays_back j n before now same within = same_number_behind 2 (8190 - 2 * j) n now before same within

pub puts_slot : (slot at : ℕ) (before now : List ℕ) → slot < 4048 → PutsNumber 2 (8190 - 2 * slot) at before now → PutsSlot slot at before now
puts_slot slot at before now small puts = record {
  here = puts.number;
  others = λ j near other. elim (cases_order j slot) [
    | inl same ↦ absurd (other same)
    | inr (inl below) ↦ same_number_behind 2 (8190 - 2 * j) (8190 - 2 * slot + 2) now before puts.back (omega (arith, below))
    | inr (inr above) ↦ number_stays 2 (8190 - 2 * j) 2 (8190 - 2 * slot) at before now puts (omega (arith, above))
  ];
  front = puts.front;
}
