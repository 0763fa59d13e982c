-- A page whose parts are those of another page with a row put behind its last.
use Rattle.std.proofs.Common.{◌≡◌, ℕ, ◌+◌, ◌-◌, ◌*◌, ◌≤◌, List, ◌++◌, length, take, drop, refl, ap, sym, ◌∙◌, arith}
use Rattle.std.specs.Prelude.{slice_range}
use Rattle.std.proofs.lemmas.List.{take-append-drop, append_assoc}
use Rattle.byteorder.specs.Endian.{little_bytes}
use Rattle.spec_file.specs.Image.{number_at, AreBytes}
use Rattle.spec_rows.specs.Changes.{Stays}
use Rattle.spec_plan.specs.Rows.{with_row_at}
use Rattle.law_rows.proofs.Parts.{part_then, number_then}

-- what stands where on the page `new`, which is the page `base` with one row more
pub record HasParts (base new : List ℕ) (slots free end : ℕ) (row : List ℕ) : Type 0 where
  pub front : take 20 new ≡ take 20 base
  pub count : number_at 2 20 new ≡ slots + 1
  pub free_count : number_at 2 22 new ≡ free - (length row + 2)
  pub rows_end : number_at 2 24 new ≡ end + length row
  pub unused : Stays 26 96 base new
  pub rows : Stays 96 end base new
  pub placed : slice_range new end (end + length row) ≡ row
  pub behind : Stays (end + length row) (8190 - 2 * slots) base new
  pub here : number_at 2 (8190 - 2 * slots) new ≡ end
  pub others : drop (8192 - 2 * slots) new ≡ drop (8192 - 2 * slots) base

counted_parts : (front a b c unused rest : List ℕ) → (front ++ (a ++ (b ++ (c ++ unused)))) ++ rest ≡ front ++ (a ++ (b ++ (c ++ (unused ++ rest))))
counted_parts front a b c unused rest =
    append_assoc front (a ++ (b ++ (c ++ unused))) rest
    ∙ ap (λ (l : List ℕ). front ++ l) (append_assoc a (b ++ (c ++ unused)) rest
    ∙ ap (λ (l : List ℕ). a ++ l) (append_assoc b (c ++ unused) rest
    ∙ ap (λ (l : List ℕ). b ++ l) (append_assoc c unused rest)))

pub placed_by_parts : (base new : List ℕ) (slots free end : ℕ) (row : List ℕ) → AreBytes new → length new ≡ 8192 → 96 ≤ end → end + length row + 2 * (slots + 1) ≤ 8192 →
    HasParts base new slots free end row → new ≡ with_row_at base slots free end row
unfolding with_row_at
placed_by_parts base new slots free end row small long low fits parts =
    let slot = number_then (8190 - 2 * slots) (8192 - 2 * slots) end new _ small (omega (arith, fits)) (omega (arith, long)) parts.here parts.others in
    let between = part_then (end + length row) (8190 - 2 * slots) new _ _ (omega (arith, fits)) parts.behind slot in
    let placed = part_then end (end + length row) new _ _ (omega arith) parts.placed between in
    let rows = part_then 96 end new _ _ low parts.rows placed in
    let unused = part_then 26 96 new _ _ (omega arith) parts.unused rows in
    let ends = number_then 24 26 (end + length row) new _ small refl (omega (arith, long)) parts.rows_end unused in
    let free_count = number_then 22 24 (free - (length row + 2)) new _ small refl (omega (arith, long)) parts.free_count ends in
    let count = number_then 20 22 (slots + 1) new _ small refl (omega (arith, long)) parts.count free_count in
    sym (take-append-drop 20 new) ∙ ap (λ (l : List ℕ). l ++ drop 20 new) parts.front ∙ ap (λ (l : List ℕ). take 20 base ++ l) count
    ∙ sym (counted_parts (take 20 base) (little_bytes 2 (slots + 1)) (little_bytes 2 (free - (length row + 2))) (little_bytes 2 (end + length row)) (slice_range base 26 96) _)
