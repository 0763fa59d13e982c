-- The parts of a compacted page.
use Rattle.std.proofs.Common.{◌≡◌, ℕ, zero, suc, ◌+◌, ◌-◌, ◌*◌, ◌≤◌, List, [], ◌∷◌, ◌++◌, length, take, drop, replicate, length-append, refl, ap, sym, ◌∙◌, arith}
use Rattle.std.specs.Prelude.{slice_range, flat_map}
use Rattle.std.specs.List.{range_with_len}
use Rattle.std.proofs.lemmas.List.{append_assoc, append-nil, take_at, drop_at, drop-drop, take-append-le, length-take-le, length-replicate}
use Rattle.std.proofs.lemmas.List.Concat.{flat_map-append}
use Rattle.byteorder.specs.Endian.{little_bytes}
use Rattle.spec_rows.specs.Slots.{slot_count, rows_size, page_row}
use Rattle.spec_rows.proofs.SlotLaws.{rows_size_more}
use Rattle.spec_rows.specs.Changes.{Stays, IsCompacted}
use Rattle.spec_plan.specs.Rows.{free_count, counted_header, rows_bytes, slots_bytes, compacted}
use Rattle.law_rows.proofs.Parts.{parts_join, part_length, range_more}

two_bytes : (v : ℕ) → length (little_bytes 2 v) ≡ 2
two_bytes v = refl

-- the rows of a compacted page stand one after another
pub rows_spelled : (before now : List ℕ) (n : ℕ) → IsCompacted before now → n ≤ slot_count before →
    slice_range now 96 (96 + rows_size before n) ≡ flat_map (page_row before) (range_with_len 0 n)
rows_spelled before now zero packed few = refl
rows_spelled before now (suc n) packed few =
    let more : suc n ≡ n + 1 = omega arith in
    let size = rows_size_more before n in
    let rows = flat_map (page_row before) (range_with_len 0 n) in
    ap (λ (k : ℕ). slice_range now 96 (96 + rows_size before k)) more
    ∙ parts_join 96 (96 + rows_size before n) (96 + rows_size before (n + 1)) now (omega arith) (omega (arith, size))
    ∙ ap (λ (l : List ℕ). l ++ slice_range now (96 + rows_size before n) (96 + rows_size before (n + 1))) (rows_spelled before now n packed (omega (arith, few)))
    ∙ ap (λ (l : List ℕ). rows ++ l) (packed.rows n (omega (arith, few)) ∙ sym (append-nil (page_row before n)))
    ∙ sym (flat_map-append (page_row before) (range_with_len 0 n) (n ∷ []))
    ∙ ap (flat_map (page_row before)) (sym (range_more n)) ∙ ap (λ (k : ℕ). flat_map (page_row before) (range_with_len 0 k)) (sym more)

-- a compacted page by the bytes of its parts
pub record PackedParts (bytes : List ℕ) (rows_length : ℕ) : Type 0 where
  pub front : take 20 (compacted bytes) ≡ take 20 bytes
  pub unused : Stays 26 96 bytes (compacted bytes)
  pub rows : slice_range (compacted bytes) 96 (96 + rows_length) ≡ rows_bytes bytes
  pub zeros : slice_range (compacted bytes) (96 + rows_length) (8192 - 2 * slot_count bytes) ≡ replicate (8192 - 2 * slot_count bytes - (96 + rows_length)) 0
  pub slots : drop (8192 - 2 * slot_count bytes) (compacted bytes) ≡ slots_bytes bytes

-- bytes 26 on of a header that is put together
behind_counts : (front a b c unused rest : List ℕ) → length front ≡ 20 → length a ≡ 2 → length b ≡ 2 → length c ≡ 2 →
    drop 26 ((front ++ (a ++ (b ++ (c ++ unused)))) ++ rest) ≡ unused ++ rest
behind_counts front a b c unused rest size one two three =
    let counts = front ++ (a ++ (b ++ c)) in
    let long : length counts ≡ 26 =
    length-append front (a ++ (b ++ c)) ∙ omega (arith, size, length-append a (b ++ c), length-append b c, one, two, three) in
    let same : (front ++ (a ++ (b ++ (c ++ unused)))) ++ rest ≡ counts ++ (unused ++ rest) =
    ap (λ (l : List ℕ). l ++ rest)
    (ap (λ (l : List ℕ). front ++ l) (ap (λ (l : List ℕ). a ++ l) (sym (append_assoc b c unused)) ∙ sym (append_assoc a (b ++ c) unused)) ∙ sym (append_assoc front (a ++ (b ++ c)) unused))
    ∙ append_assoc counts unused rest in
    ap (drop 26) same ∙ drop_at counts (unused ++ rest) 26 long

pub packed_parts : (bytes : List ℕ) (n : ℕ) → length bytes ≡ 8192 → length (rows_bytes bytes) ≡ n → 96 + n + 2 * slot_count bytes ≤ 8192 → PackedParts bytes n
unfolding compacted
packed_parts bytes n long size room =
    let count = slot_count bytes in
    let front = take 20 bytes in
    let unused = slice_range bytes 26 96 in
    let end = 96 + rows_size bytes count in
    let header = counted_header bytes count (free_count bytes) end in
    let rows = rows_bytes bytes in
    let zeros : List ℕ = replicate (8192 - 2 * count - (96 + length rows)) 0 in
    let slots = slots_bytes bytes in
    let rest = rows ++ (zeros ++ slots) in
    let front_long : length front ≡ 20 = length-take-le 20 bytes (omega (arith, long)) in
    let unused_long : length unused ≡ 70 = part_length 26 96 bytes (omega arith) (omega (arith, long)) in
    let two = λ (v : ℕ). two_bytes v in
    let header_long : length header ≡ 96 =
    length-append front _ ∙ omega (
      arith,
      front_long,
      length-append (little_bytes 2 count) (little_bytes 2 (free_count bytes) ++ (little_bytes 2 end ++ unused)),
      length-append (little_bytes 2 (free_count bytes)) (little_bytes 2 end ++ unused),
      length-append (little_bytes 2 end) unused,
      two count,
      two (free_count bytes),
      two end,
      unused_long,
    ) in
    let zeros_long : length zeros ≡ 8192 - 2 * count - (96 + length rows) = length-replicate {A = ℕ} (8192 - 2 * count - (96 + length rows)) 0 in
    let behind_header : drop 96 (header ++ rest) ≡ rest = drop_at header rest 96 header_long in
    let behind_rows : drop (96 + n) (header ++ rest) ≡ zeros ++ slots =
    sym (drop-drop n 96 (header ++ rest)) ∙ ap (drop n) behind_header ∙ drop_at rows (zeros ++ slots) n size in
    let zeros_end : (96 + n) + (8192 - 2 * count - (96 + n)) ≡ 8192 - 2 * count = omega (arith, room) in
    record {
      front = take-append-le 20 header rest (omega (arith, header_long)) ∙ take_at front _ 20 front_long;
      unused = ap (take 70) (behind_counts front (little_bytes 2 count) (little_bytes 2 (free_count bytes)) (little_bytes 2 end) unused rest front_long (two count) (two (free_count bytes)) (two end))
          ∙ take_at unused rest 70 unused_long;
      rows = ap (take (96 + n - 96)) behind_header ∙ take_at rows (zeros ++ slots) (96 + n - 96) (omega (arith, size));
      zeros = ap (take (8192 - 2 * count - (96 + n))) behind_rows ∙ take_at zeros slots (8192 - 2 * count - (96 + n)) (omega (arith, zeros_long, size))
          ∙ ap (λ (k : ℕ). replicate (8192 - 2 * count - (96 + k)) 0) size;
      slots = ap (λ (k : ℕ). drop k (header ++ rest)) (sym zeros_end) ∙ sym (drop-drop (8192 - 2 * count - (96 + n)) (96 + n) (header ++ rest))
          ∙ ap (drop (8192 - 2 * count - (96 + n))) behind_rows ∙ drop_at zeros slots (8192 - 2 * count - (96 + n)) (omega (arith, zeros_long, size));
    }
