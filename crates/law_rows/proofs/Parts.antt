-- Bytes as their parts, one behind another, and the bytes that numbers spell.
use Rattle.std.proofs.Common.{◌≡◌, ℕ, zero, suc, ◌+◌, ◌-◌, ◌*◌, ◌<◌, ◌≤◌, List, [], ◌∷◌, ◌++◌, length, take, drop, reverse, ap, sym, ◌∙◌, length-drop, arith}
use Rattle.std.specs.Prelude.{slice_range, flat_map}
use Rattle.std.specs.List.{range_with_len}
use Rattle.std.proofs.lemmas.List.{reverse-append, drop-drop, drop_all, length-take-le, map-id}
use Rattle.std.proofs.lemmas.List.FromFn.{map-range_with_len_more}
use Rattle.std.proofs.Math.Seq.{take-add}
use Rattle.byteorder.specs.Endian.{little_bytes}
use Rattle.spec_file.specs.Image.{number_at, AreBytes}
use Rattle.spec_rows.specs.Slots.{slot_at}
use Rattle.spec_rows.proofs.RowLaws.{spelled_at, join}

pub part_then : (i j : ℕ) (xs part rest : List ℕ) → i ≤ j → slice_range xs i j ≡ part → drop j xs ≡ rest → drop i xs ≡ part ++ rest
part_then i j xs part rest order here behind =
    sym (join (j - i) i j xs (omega (arith, order))) ∙ ap (λ (l : List ℕ). l ++ drop j xs) here ∙ ap (λ (l : List ℕ). part ++ l) behind

pub number_then : (i j v : ℕ) (xs rest : List ℕ) → AreBytes xs → i + 2 ≡ j → j ≤ length xs → number_at 2 i xs ≡ v → drop j xs ≡ rest → drop i xs ≡ little_bytes 2 v ++ rest
number_then i j v xs rest small next within here behind =
    sym (join 2 i j xs next) ∙ ap (λ (l : List ℕ). l ++ drop j xs) (sym (spelled_at 2 i xs small (omega (arith, next, within))))
    ∙ ap (λ (n : ℕ). little_bytes 2 n ++ drop j xs) here ∙ ap (λ (l : List ℕ). little_bytes 2 v ++ l) behind

-- two parts, one right behind the other
pub parts_join : (i j k : ℕ) (xs : List ℕ) → i ≤ j → j ≤ k → slice_range xs i k ≡ slice_range xs i j ++ slice_range xs j k
parts_join i j k xs first second =
    let sum : k - i ≡ (j - i) + (k - j) = omega (arith, first, second) in
    let there : i + (j - i) ≡ j = omega (arith, first) in
    ap (λ (n : ℕ). take n (drop i xs)) sum ∙ take-add (j - i) (k - j) (drop i xs)
    ∙ ap (λ (l : List ℕ). slice_range xs i j ++ take (k - j) l) (drop-drop (j - i) i xs ∙ ap (λ (n : ℕ). drop n xs) there)

pub part_length : (i j : ℕ) (xs : List ℕ) → i ≤ j → j ≤ length xs → length (slice_range xs i j) ≡ j - i
part_length i j xs order within = length-take-le (j - i) (drop i xs) (omega (arith, length-drop i xs, order, within))

pub range_more : (n : ℕ) → range_with_len 0 (n + 1) ≡ range_with_len 0 n ++ n ∷ []
range_more n =
    sym (map-id (range_with_len 0 (n + 1))) ∙ map-range_with_len_more (λ (i : ℕ). i) 0 n n (omega arith) ∙ ap (λ (l : List ℕ). l ++ n ∷ []) (map-id (range_with_len 0 n))

range_back : (n : ℕ) → reverse (range_with_len 0 (n + 1)) ≡ n ∷ reverse (range_with_len 0 n)
range_back n = ap reverse (range_more n) ∙ reverse-append (range_with_len 0 n) (n ∷ [])

-- the last bytes of a page spell its first n slots
pub slots_spelled : (xs : List ℕ) (f : ℕ → ℕ) (n : ℕ) → AreBytes xs → length xs ≡ 8192 → 2 * n ≤ 8192 → ((j : ℕ) → j < n → slot_at xs j ≡ f j) →
    drop (8192 - 2 * n) xs ≡ flat_map (λ i. little_bytes 2 (f i)) (reverse (range_with_len 0 n))
slots_spelled xs f zero small long few each = drop_all 8192 xs (omega (arith, long))
slots_spelled xs f (suc n) small long few each =
    let here : 8192 - 2 * suc n ≡ 8190 - 2 * n = omega (arith, few) in
    let next : (8190 - 2 * n) + 2 ≡ 8192 - 2 * n = omega (arith, few) in
    let earlier = slots_spelled xs f n small long (omega (arith, few)) (λ j below. each j (omega (arith, below))) in
    let more : n + 1 ≡ suc n = omega arith in
    ap (λ (k : ℕ). drop k xs) here
    ∙ number_then (8190 - 2 * n) (8192 - 2 * n) (f n) xs _ small next (omega (arith, long)) (each n (omega arith)) earlier
    ∙ ap (flat_map (λ i. little_bytes 2 (f i))) (sym (range_back n)) ∙ ap (λ (k : ℕ). flat_map (λ i. little_bytes 2 (f i)) (reverse (range_with_len 0 k))) more
