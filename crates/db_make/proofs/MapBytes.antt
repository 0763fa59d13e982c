-- The bytes of a map page from its bits, and those of a PFS page.
use Rattle.std.proofs.Common.{◌≡◌, ◌≢◌, ℕ, ◌+◌, ◌-◌, ◌*◌, ◌/◌, ◌%◌, ◌<◌, ◌≤◌, ◌==◌, Bool, false, List, ◌++◌, length, take, drop, sym, ap, ◌∙◌, arith, length-drop, inl, inr, min}
use Rattle.std.specs.Prelude.{slice_index, replicate}
use Rattle.std.specs.Int.{bit_at}
use Rattle.std.proofs.lemmas.Bool.{cases_lt, cases_eq}
use Rattle.std.proofs.lemmas.List.{take-append-drop, take_at, get_or-drop, get_or-take, get_or-replicate, get_or-append_right, get_or_past, length-take, length-append, length-replicate, ext_get_or}
use Rattle.std.proofs.lemmas.Nat.Bits.{bit_at-zero}
use Rattle.spec_file.specs.Image.{AreBytes, bit, maps_start}
use Rattle.spec_file.specs.declared.geometry.Geometry.{Geometry}
use Rattle.spec_file.specs.Places.{interval_size}
use Rattle.spec_make.specs.Rules.{bytes_by, byte_where}
use Rattle.spec_make.specs.NewMaps.{content_size, tells_of, is_new_mixed}
use Rattle.spec_make.proofs.RuleLaws.{bytes_by_all, byte_by_bits}
use Rattle.spec_make.proofs.MapLaws.{tells_inside, tells_past, mixed_first, mixed_other}

-- a page is its header, and behind it the bytes of a rule
pub ruled : (xs head : List ℕ) (rule : ℕ → ℕ) → length xs ≡ 8192 → take maps_start xs ≡ head
    → ((i : ℕ) → i < content_size → slice_index xs (maps_start + i) ≡ rule i) → xs ≡ head ++ bytes_by rule content_size
ruled xs head rule long front each =
    sym (take-append-drop maps_start xs) ∙ ap (λ (l : List ℕ). l ++ drop maps_start xs) front
    ∙ ap (λ (l : List ℕ). head ++ l)
    (bytes_by_all rule (drop maps_start xs) content_size (length-drop maps_start xs ∙ omega (arith, long))
    (λ i within. get_or-drop maps_start xs i 0 ∙ each i within))

-- bit k of byte i is bit 8 * i + k of the page
bit_of_byte : (xs : List ℕ) (i k : ℕ) → k < 8 → (bit_at (slice_index xs (maps_start + i)) k == 1) ≡ bit xs (8 * i + k)
bit_of_byte xs i k within =
    let byte : i ≡ (8 * i + k) / 8 = omega (arith, within) in
    let place : k ≡ (8 * i + k) % 8 = omega (arith, within) in
    ap (λ (j : ℕ). bit_at (slice_index xs (maps_start + j)) k == 1) byte
    ∙ ap (λ (j : ℕ). bit_at (slice_index xs (maps_start + (8 * i + k) / 8)) j == 1) place

-- a page is its header, and behind it the bytes whose bits a test gives
pub mapped : (xs head : List ℕ) (test : ℕ → Bool) → AreBytes xs → length xs ≡ 8192 → take maps_start xs ≡ head
    → ((n : ℕ) → bit xs n ≡ test n) → xs ≡ head ++ bytes_by (λ i. byte_where (λ k. test (8 * i + k))) content_size
mapped xs head test small long front each =
    ruled xs head (λ i. byte_where (λ k. test (8 * i + k))) long front
    (λ i within. byte_by_bits (λ k. test (8 * i + k)) (slice_index xs (maps_start + i)) (small (maps_start + i))
    (λ k low. bit_of_byte xs i k low ∙ each (8 * i + k)))

-- a list of zeros reads 0 everywhere
zero_at : (n i : ℕ) → slice_index (replicate n 0) i ≡ 0
zero_at n i = elim (cases_lt i n) [
  | inl inside ↦ get_or-replicate n i 0 0 inside
  | inr past ↦ get_or_past (replicate n 0) i 0 (omega (arith, length-replicate {A = ℕ} n 0, past))
]

-- bytes that are the same before a place are the same there as a list
pub same_front : (k : ℕ) (xs ys : List ℕ) → length xs ≡ length ys → ((i : ℕ) → i < k → slice_index xs i ≡ slice_index ys i) → take k xs ≡ take k ys
same_front k xs ys long each =
    ext_get_or 0 (take k xs) (take k ys) (length-take k xs ∙ ap (min k) long ∙ sym (length-take k ys))
    (λ i within. let low : i < k = omega (arith, length-take k xs, within) in get_or-take k xs i 0 low ∙ each i low ∙ sym (get_or-take k ys i 0 low))

-- behind the header of a page that was only started, each byte is 0
pub started_byte : (xs head : List ℕ) (i : ℕ) → xs ≡ head ++ replicate content_size 0 → length head ≡ 96 → slice_index xs (maps_start + i) ≡ 0
started_byte xs head i is long =
    let there : maps_start + i - 96 ≡ i = omega arith in
    ap (λ (l : List ℕ). slice_index l (maps_start + i)) is
    ∙ get_or-append_right head (replicate content_size 0) 96 (maps_start + i) 0 long (omega arith)
    ∙ ap (λ (j : ℕ). slice_index (replicate content_size 0) j) there ∙ zero_at content_size i

-- and each bit
pub started_bit : (xs head : List ℕ) (n : ℕ) → xs ≡ head ++ replicate content_size 0 → length head ≡ 96 → bit xs n ≡ false
started_bit xs head n is long =
    ap (λ (b : ℕ). bit_at b (n % 8) == 1) (started_byte xs head (n / 8) is long) ∙ ap (λ (v : ℕ). v == 1) (bit_at-zero (n % 8))

-- it is whole
pub started_long : (xs head : List ℕ) → xs ≡ head ++ replicate content_size 0 → length head ≡ 96 → length xs ≡ 8192
started_long xs head is long =
    ap length is ∙ length-append head (replicate content_size 0) ∙ omega (arith, long, length-replicate {A = ℕ} content_size 0)

-- its front is the header
pub started_front : (xs head : List ℕ) → xs ≡ head ++ replicate content_size 0 → length head ≡ 96 → take maps_start xs ≡ head
started_front xs head is long = ap (take maps_start) is ∙ take_at head (replicate content_size 0) 96 long

-- bits up to bit n tell of extents, and bit n is put
pub bits_more : (g : Geometry) (test : ℕ → Bool) (m n : ℕ) (v : Bool) (xs ys : List ℕ) → n < interval_size g → v ≡ test (interval_size g * m + n) → bit ys n ≡ v
    → ((k : ℕ) → k ≢ n → bit ys k ≡ bit xs k) → ((k : ℕ) → k < n → bit xs k ≡ tells_of g test m k) → (k : ℕ) → k < n + 1 → bit ys k ≡ tells_of g test m k
bits_more g test m n v xs ys within is put others before k below = elim (cases_lt k n) [
  | inl less ↦ others k (λ same. omega (arith, same, less)) ∙ before k less
  | inr not_less ↦
      let same : k ≡ n = omega (arith, below, not_less) in
      ap (bit ys) same ∙ put ∙ is ∙ sym (tells_inside g test m n within) ∙ ap (tells_of g test m) (sym same)
]

-- and in the end all of them do
pub bits_all : (g : Geometry) (test : ℕ → Bool) (m n : ℕ) (xs : List ℕ) → interval_size g ≤ n → n ≤ interval_size g → ((k : ℕ) → k < n → bit xs k ≡ tells_of g test m k)
    → ((k : ℕ) → n ≤ k → bit xs k ≡ false) → (k : ℕ) → bit xs k ≡ tells_of g test m k
bits_all g test m n xs low high before behind k = elim (cases_lt k n) [
  | inl less ↦ before k less
  | inr past ↦ behind k past ∙ sym (tells_past g test m k (omega (arith, low, high, past)))
]

-- of an SGAM page bit 1 alone may be 1
pub mixed_bits : (g : Geometry) (m : ℕ) (xs ys : List ℕ) → ((k : ℕ) → bit xs k ≡ false) → bit ys 1 ≡ (m == 0) → ((k : ℕ) → k ≢ 1 → bit ys k ≡ bit xs k)
    → (k : ℕ) → bit ys k ≡ tells_of g is_new_mixed m k
mixed_bits g m xs ys zeros first others k = elim (cases_eq k 1) [
  | inl same ↦ ap (bit ys) same ∙ first ∙ sym (mixed_first g m) ∙ ap (tells_of g is_new_mixed m) (sym same)
  | inr other ↦ others k other ∙ zeros k ∙ sym (mixed_other g m k other)
]
