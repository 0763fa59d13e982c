-- The bytes that are put on a PFS page are those of a new file.
use Rattle.std.proofs.Common.{◌≡◌, ℕ, min, List, ◌+◌, ◌-◌, ◌<◌, ◌≤◌, length, set, sym, ap, ◌∙◌, arith, inl, inr, get_or-set_same, get_or-set_other}
use Rattle.std.specs.Prelude.{slice_index}
use Rattle.std.proofs.lemmas.Bool.{cases_lt}
use Rattle.spec_file.specs.declared.geometry.Geometry.{Geometry}
use Rattle.spec_file.specs.Places.{pfs_span}
use Rattle.spec_make.specs.NewMaps.{pfs_byte_at, new_pfs_byte}
use Rattle.spec_make.proofs.MapLaws.{pfs_inside, pfs_past_span, pfs_past_file}

-- bytes up to place i are those of a rule, and one more is put
pub bytes_more : (rule : ℕ → ℕ) (xs : List ℕ) (i v : ℕ) → 96 + i < length xs → v ≡ rule i → ((k : ℕ) → k < i → slice_index xs (96 + k) ≡ rule k)
    → (k : ℕ) → k < i + 1 → slice_index (set xs (96 + i) v) (96 + k) ≡ rule k
bytes_more rule xs i v within is before k below = elim (cases_lt k i) [
  | inl less ↦ get_or-set_other xs (96 + i) (96 + k) v 0 (λ same. absurd (omega (arith, same, less))) ∙ before k less
  | inr not_less ↦
      let same : k ≡ i = omega (arith, below, not_less) in
      ap (λ (j : ℕ). slice_index (set xs (96 + i) v) (96 + j)) same ∙ get_or-set_same xs (96 + i) v 0 within ∙ is ∙ ap rule (sym same)
]

-- and those behind stay
pub behind_more : (xs ys : List ℕ) (i v : ℕ) → ((k : ℕ) → i ≤ k → slice_index xs (96 + k) ≡ slice_index ys (96 + k))
    → (k : ℕ) → i + 1 ≤ k → slice_index (set xs (96 + i) v) (96 + k) ≡ slice_index ys (96 + k)
behind_more xs ys i v stay k past =
    get_or-set_other xs (96 + i) (96 + k) v 0 (λ same. absurd (omega (arith, same, past))) ∙ stay k (omega (arith, past))

-- past those pages the byte is 0
past_both : (g : Geometry) (pages first count i : ℕ) → count ≡ min (pfs_span g) (pages - first) → first < pages → count ≤ i → pfs_byte_at g pages first i ≡ 0
past_both g pages first count i is within past = elim (cases_lt i (pfs_span g)) [
  | inl inside ↦ pfs_past_file g pages first i (omega (arith, is, within, past, inside))
  | inr outside ↦ pfs_past_span g pages first i outside
]

-- so many pages from `first` on are in the span and in the file, and the bytes of these are put over zeros
pub record PutsBytes (g : Geometry) (pages first count : ℕ) (before now : List ℕ) : Type 0 where
  pub few : count ≡ min (pfs_span g) (pages - first)
  pub within : first < pages
  pub bytes : (i : ℕ) → i < count → slice_index now (96 + i) ≡ new_pfs_byte g (first + i)
  pub behind : (i : ℕ) → count ≤ i → slice_index now (96 + i) ≡ slice_index before (96 + i)
  pub zeros : (i : ℕ) → slice_index before (96 + i) ≡ 0

pub pfs_bytes : (g : Geometry) (pages first count : ℕ) (before now : List ℕ) → PutsBytes g pages first count before now → (i : ℕ) → slice_index now (96 + i) ≡ pfs_byte_at g pages first i
pfs_bytes g pages first count before now puts i = elim (cases_lt i count) [
  | inl inside ↦ puts.bytes i inside ∙ sym (pfs_inside g pages first i (omega (arith, puts.few, inside)) (omega (arith, puts.few, puts.within, inside)))
  | inr past ↦ puts.behind i past ∙ puts.zeros i ∙ sym (past_both g pages first count i puts.few puts.within past)
]
