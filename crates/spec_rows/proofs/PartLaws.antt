-- What is told by a part of bytes that stays.
use Rattle.std.specs.Prelude.{◌≡◌, ℕ, ◌+◌, ◌-◌, ◌<◌, ◌≤◌, List, take, drop, slice_index}
use Rattle.std.proofs.Common.{arith, ap, sym, ◌∙◌}
use Rattle.std.proofs.lemmas.List.{drop-take, drop-drop, take-take, get_or-take, get_or-drop}
use Rattle.byteorder.specs.Endian.{little_number}
use Rattle.byteorder.specs.Numbers.{little_from-take}
use Rattle.spec_file.specs.Image.{number_at}
use Rattle.spec_rows.specs.Changes.{Stays}

-- a number of a part of bytes is one of the bytes
pub number_in_part : (n k m at : ℕ) (bytes : List ℕ) → k + n ≤ m → number_at n k (take m (drop at bytes)) ≡ number_at n (at + k) bytes
unfolding number_at
number_in_part n k m at bytes within =
    let there : k + (m - k) ≡ m = omega arith in
    ap (λ (i : ℕ). little_number n (drop k (take i (drop at bytes)))) (sym there)
    ∙ ap (little_number n) (drop-take k (m - k) (drop at bytes))
    ∙ little_from-take 0 n (m - k) (drop k (drop at bytes)) (omega arith)
    ∙ ap (little_number n) (drop-drop k at bytes)

-- so is a byte of it
pub byte_in_part : (k m at : ℕ) (bytes : List ℕ) → k < m → slice_index (take m (drop at bytes)) k ≡ slice_index bytes (at + k)
byte_in_part k m at bytes within = get_or-take m (drop at bytes) k 0 within ∙ get_or-drop at bytes k 0

-- and a part of it
part_in_part : (k n m at : ℕ) (bytes : List ℕ) → k + n ≤ m → take n (drop k (take m (drop at bytes))) ≡ take n (drop (at + k) bytes)
part_in_part k n m at bytes within =
    let there : k + (m - k) ≡ m = omega arith in
    ap (λ (i : ℕ). take n (drop k (take i (drop at bytes)))) (sym there)
    ∙ ap (take n) (drop-take k (m - k) (drop at bytes))
    ∙ take-take n (m - k) (drop k (drop at bytes)) (omega arith)
    ∙ ap (take n) (drop-drop k at bytes)

pub byte_stays_in : (a b at : ℕ) (before now : List ℕ) → Stays a b before now → a ≤ at → at < b → slice_index now at ≡ slice_index before at
byte_stays_in a b at before now stays above below =
    let there : a + (at - a) ≡ at = omega arith in
    let of = λ (bytes : List ℕ). byte_in_part (at - a) (b - a) a bytes (omega arith) in
    ap (slice_index now) (sym there) ∙ sym (of now) ∙ ap (λ (l : List ℕ). slice_index l (at - a)) stays ∙ of before
    ∙ ap (slice_index before) there

pub part_stays_in : (a b c d : ℕ) (before now : List ℕ) → Stays a b before now → a ≤ c → c ≤ d → d ≤ b → Stays c d before now
part_stays_in a b c d before now stays above order below =
    let there : a + (c - a) ≡ c = omega arith in
    let of = λ (bytes : List ℕ). part_in_part (c - a) (d - c) (b - a) a bytes (omega arith) in
    ap (λ (i : ℕ). take (d - c) (drop i now)) (sym there) ∙ sym (of now) ∙ ap (λ (l : List ℕ). take (d - c) (drop (c - a) l)) stays ∙ of before
    ∙ ap (λ (i : ℕ). take (d - c) (drop i before)) there
