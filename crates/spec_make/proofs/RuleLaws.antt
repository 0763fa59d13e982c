-- Bytes that a rule gives, and a byte whose bits a test gives: how they are read, and what they are told by.
use Rattle.std.proofs.Common.{◌≡◌, refl, ℕ, zero, suc, ◌+◌, ◌-◌, ◌*◌, ◌/◌, ◌%◌, ◌<◌, Bool, true, false, ◌==◌, cond, List, ◌++◌, length, ap, sym, ◌∙◌, arith}
use Rattle.std.specs.Prelude.{slice_index}
use Rattle.std.specs.Int.{bit_at}
use Rattle.std.proofs.lemmas.List.{get_or-append_right}
use Rattle.std.proofs.lemmas.List.FromFn.{length-map-range_with_len, get_or-map-range_with_len, fill_by_all}
use Rattle.std.proofs.lemmas.Nat.Bits.{same_from_bits_below, bit_at-lt}
use Rattle.spec_file.specs.Image.{bit, maps_start}
use Rattle.spec_make.specs.Rules.{bytes_by, byte_where}

-- there are n bytes
pub length-bytes_by : (rule : ℕ → ℕ) (n : ℕ) → length (bytes_by rule n) ≡ n
unfolding bytes_by
length-bytes_by rule n = length-map-range_with_len rule 0 n

-- byte i is what the rule gives
pub at-bytes_by : (rule : ℕ → ℕ) (n i : ℕ) → i < n → slice_index (bytes_by rule n) i ≡ rule i
unfolding bytes_by
at-bytes_by rule n i within = get_or-map-range_with_len rule 0 n i i 0 within (omega arith)

-- n bytes that are each what the rule gives are these
pub bytes_by_all : (rule : ℕ → ℕ) (xs : List ℕ) (n : ℕ) → length xs ≡ n → ((i : ℕ) → i < n → slice_index xs i ≡ rule i) → xs ≡ bytes_by rule n
unfolding bytes_by
bytes_by_all rule xs n long each = fill_by_all rule xs n 0 long each

-- the number of a bit
abbrev pub bit_value : Bool → ℕ
bit_value b = cond b 1 0

bit_value_lt : (b : Bool) → bit_value b < 2
bit_value_lt true = omega arith
bit_value_lt false = omega arith

weighed : (b : Bool) (n : ℕ) → cond b n 0 ≡ n * bit_value b
weighed true n = omega arith
weighed false n = omega arith

-- the eight bits of a number that is their sum
record HasBits (n a b c d e f g h : ℕ) : Type 0 where
  zeroth : n % 2 ≡ a
  first : n / 2 % 2 ≡ b
  second : n / 4 % 2 ≡ c
  third : n / 8 % 2 ≡ d
  fourth : n / 16 % 2 ≡ e
  fifth : n / 32 % 2 ≡ f
  sixth : n / 64 % 2 ≡ g
  seventh : n / 128 % 2 ≡ h
  small : n < 256

bits_of_sum : (n a b c d e f g h : ℕ) → n ≡ a + 2 * b + 4 * c + 8 * d + 16 * e + 32 * f + 64 * g + 128 * h
    → a < 2 → b < 2 → c < 2 → d < 2 → e < 2 → f < 2 → g < 2 → h < 2 → HasBits n a b c d e f g h
bits_of_sum n a b c d e f g h sum la lb lc ld le lf lg lh = record {
  zeroth = omega arith;
  first = omega arith;
  second = omega arith;
  third = omega arith;
  fourth = omega arith;
  fifth = omega arith;
  sixth = omega arith;
  seventh = omega arith;
  small = omega arith;
}

byte_is_sum : (t : ℕ → Bool) → byte_where t ≡ bit_value (t 0) + 2 * bit_value (t 1) + 4 * bit_value (t 2) + 8 * bit_value (t 3)
    + 16 * bit_value (t 4) + 32 * bit_value (t 5) + 64 * bit_value (t 6) + 128 * bit_value (t 7)
unfolding byte_where
byte_is_sum t =
    omega (arith, weighed (t 0) 1, weighed (t 1) 2, weighed (t 2) 4, weighed (t 3) 8, weighed (t 4) 16, weighed (t 5) 32, weighed (t 6) 64, weighed (t 7) 128)

byte_bits : (t : ℕ → Bool) → HasBits (byte_where t) (bit_value (t 0)) (bit_value (t 1)) (bit_value (t 2)) (bit_value (t 3)) (bit_value (t 4)) (bit_value (t 5)) (bit_value (t 6)) (bit_value (t 7))
byte_bits t =
    bits_of_sum (byte_where t) _ _ _ _ _ _ _ _ (byte_is_sum t) (bit_value_lt (t 0)) (bit_value_lt (t 1)) (bit_value_lt (t 2)) (bit_value_lt (t 3))
    (bit_value_lt (t 4)) (bit_value_lt (t 5)) (bit_value_lt (t 6)) (bit_value_lt (t 7))

-- a byte is below 256
pub byte_where-lt : (t : ℕ → Bool) → byte_where t < 256
byte_where-lt t = (byte_bits t).small

-- bit k is 1 exactly where the test holds of k
pub bit-byte_where : (t : ℕ → Bool) (k : ℕ) → k < 8 → bit_at (byte_where t) k ≡ bit_value (t k)
bit-byte_where t zero within = let b = byte_bits t in omega (arith, b.zeroth)
bit-byte_where t (suc zero) within = (byte_bits t).first
bit-byte_where t (suc (suc zero)) within = (byte_bits t).second
bit-byte_where t (suc (suc (suc zero))) within = (byte_bits t).third
bit-byte_where t (suc (suc (suc (suc zero)))) within = (byte_bits t).fourth
bit-byte_where t (suc (suc (suc (suc (suc zero))))) within = (byte_bits t).fifth
bit-byte_where t (suc (suc (suc (suc (suc (suc zero)))))) within = (byte_bits t).sixth
bit-byte_where t (suc (suc (suc (suc (suc (suc (suc zero))))))) within = (byte_bits t).seventh
bit-byte_where t (suc (suc (suc (suc (suc (suc (suc (suc k)))))))) within = absurd (omega (arith, within))

-- a bit is told by whether it is 1
bit_told : (n : ℕ) (b : Bool) → n < 2 → (n == 1) ≡ b → n ≡ bit_value b
bit_told zero b low said = sym (ap bit_value (sym said))
bit_told (suc zero) b low said = sym (ap bit_value (sym said))
bit_told (suc (suc n)) b low said = absurd (omega (arith, low))

-- a byte whose bits are those of the test is this
pub byte_by_bits : (t : ℕ → Bool) (byte : ℕ) → byte < 256 → ((k : ℕ) → k < 8 → (bit_at byte k == 1) ≡ t k) → byte ≡ byte_where t
byte_by_bits t byte small each =
    same_from_bits_below 8 byte (byte_where t) small (byte_where-lt t)
    (λ k within. bit_told (bit_at byte k) (t k) (bit_at-lt byte k) (each k within) ∙ sym (bit-byte_where t k within))

value_is_one : (b : Bool) → (bit_value b == 1) ≡ b
value_is_one true = refl
value_is_one false = refl

-- byte i behind a front of n bytes
pub behind-bytes_by : (front : List ℕ) (rule : ℕ → ℕ) (m n i : ℕ) → length front ≡ m → i < n → slice_index (front ++ bytes_by rule n) (m + i) ≡ rule i
behind-bytes_by front rule m n i long within =
    let there : m + i - m ≡ i = omega arith in
    get_or-append_right front (bytes_by rule n) m (m + i) 0 long (omega arith)
    ∙ ap (λ (j : ℕ). slice_index (bytes_by rule n) j) there ∙ at-bytes_by rule n i within

-- bit n behind a header, of bytes whose bits a test gives
pub bit-behind : (front : List ℕ) (t : ℕ → Bool) (n size : ℕ) → length front ≡ maps_start → n / 8 < size
    → bit (front ++ bytes_by (λ i. byte_where (λ k. t (8 * i + k))) size) n ≡ t n
bit-behind front t n size long within =
    let low : n % 8 < 8 = omega arith in
    let there : 8 * (n / 8) + n % 8 ≡ n = omega arith in
    ap (λ (b : ℕ). bit_at b (n % 8) == 1) (behind-bytes_by front (λ i. byte_where (λ k. t (8 * i + k))) maps_start size (n / 8) long within)
    ∙ ap (λ (v : ℕ). v == 1) (bit-byte_where (λ k. t (8 * (n / 8) + k)) (n % 8) low) ∙ value_is_one (t (8 * (n / 8) + n % 8)) ∙ ap t there
