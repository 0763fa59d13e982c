-- The rows of a page in the order of offset, then slot.
use Rattle.std.specs.Prelude.{◌≡◌, ℕ, ◌+◌, ◌*◌, ◌<◌, ◌≤◌, List}
use Rattle.spec_rows.specs.Slots.{slot_limit, slot_count, slot_at}

-- a number that rises in that order
abbrev pub order_key : List ℕ → ℕ → ℕ
order_key bytes i = slot_at bytes i * 4096 + i

-- the slots as they stand in that order: `at k` is the one with k slots before it
pub record IsInOrder (bytes : List ℕ) (at : ℕ → ℕ) : Type 0 where
  pub few : slot_count bytes ≤ slot_limit
  pub within : (k : ℕ) → k < slot_count bytes → at k < slot_count bytes
  pub rising : (k l : ℕ) → k < l → l < slot_count bytes → order_key bytes (at k) < order_key bytes (at l)
  pub whole : (i : ℕ) → i < slot_count bytes → (k : ℕ) × (k < slot_count bytes) × (at k ≡ i)
