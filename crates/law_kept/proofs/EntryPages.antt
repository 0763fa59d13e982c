-- Page 9 with the bytes of an entry put there.
use Rattle.std.proofs.Common.{◌≡◌, ◌≢◌, ℕ, ◌+◌, ◌-◌, ◌*◌, ◌<◌, ◌≤◌, min, ◌==◌, ◌&&◌, leb, ltb, List, length, drop, ext_get_or, refl, sym, ap, subst, ◌∙◌, inl, inr, arith, length-drop, length-take}
use Rattle.std.specs.Prelude.{slice_index, slice_range}
use Rattle.std.proofs.lemmas.Bool.{cases_lt, cond_both}
use Rattle.std.proofs.lemmas.Bool.Decides.{nat_tests}
use Rattle.std.proofs.lemmas.List.{get_or_past, get_or-take, get_or-drop, length-take-le}
use Rattle.std.proofs.lemmas.List.FromFn.{length-map-range_with_len, get_or-map-range_with_len}
use Rattle.spec_file.specs.Catalog.{entry_count, entry_at}
use Rattle.spec_file.specs.Header.{page_type, page_id}
use Rattle.spec_file.specs.Image.{number_at}
use Rattle.spec_log.specs.Cells.{with_bytes, byte_with}
use Rattle.spec_steps.specs.Entries.{IsEntrySet}
use Rattle.spec_steps.specs.Writes.{SaysSame}

module _ (old : List ℕ) (off : ℕ) (bytes : List ℕ) where
  pub put_long : length (with_bytes old off bytes) ≡ length old
  put_long = length-map-range_with_len (byte_with old off bytes) 0 (length old)

  byte_at : (k : ℕ) → k < length old → slice_index (with_bytes old off bytes) k ≡ byte_with old off bytes k
  byte_at k low = get_or-map-range_with_len (byte_with old off bytes) 0 (length old) k k 0 low (omega arith)

  pub byte_here : (k : ℕ) → k < length old → off ≤ k → k < off + length bytes → slice_index (with_bytes old off bytes) k ≡ slice_index bytes (k - off)
  byte_here k low from to =
      byte_at k low ∙ cond_both (leb off k && ltb k (off + length bytes)) (slice_index bytes (k - off)) (slice_index old k) (λ b. b ≡ slice_index bytes (k - off))
      (λ e. refl) (λ e. absurd (grind (arith, nat_tests, e, from, to)))

  pub byte_else : (k : ℕ) → (off ≤ k → k < off + length bytes → ⊥) → slice_index (with_bytes old off bytes) k ≡ slice_index old k
  byte_else k other = elim (cases_lt k (length old)) [
    | inl low ↦ byte_at k low ∙ cond_both (leb off k && ltb k (off + length bytes)) (slice_index bytes (k - off)) (slice_index old k) (λ b. b ≡ slice_index old k)
        (λ e. absurd (other (grind (arith, nat_tests, e)) (grind (arith, nat_tests, e)))) (λ e. refl)
    | inr high ↦ get_or_past (with_bytes old off bytes) k 0 (subst (λ n. n ≤ k) (sym put_long) high) ∙ sym (get_or_past old k 0 high)
  ]

-- a part of as many bytes of two lists that are as long
part_byte : (xs : List ℕ) (a b k : ℕ) → k < b - a → slice_index (slice_range xs a b) k ≡ slice_index xs (a + k)
part_byte xs a b k low = get_or-take (b - a) (drop a xs) k 0 low ∙ get_or-drop a xs k 0

part_same : (xs ys : List ℕ) (a b : ℕ) → length xs ≡ length ys → ((k : ℕ) → a ≤ k → k < b → slice_index xs k ≡ slice_index ys k) → slice_range xs a b ≡ slice_range ys a b
part_same xs ys a b long same =
    ext_get_or 0 (slice_range xs a b) (slice_range ys a b)
    (length-take (b - a) (drop a xs) ∙ ap (λ n. min (b - a) n) (length-drop a xs ∙ ap (λ n. n - a) long ∙ sym (length-drop a ys)) ∙ sym (length-take (b - a) (drop a ys)))
    (λ k lt.
    let low : k < b - a = omega (arith, lt, length-take (b - a) (drop a xs)) in
    part_byte xs a b k low ∙ same (a + k) (omega arith) (omega (arith, low)) ∙ sym (part_byte ys a b k low))

-- a number of four bytes is the same where they are
pub number_same : (at there : ℕ) (xs ys : List ℕ) → ((k : ℕ) → k < 4 → slice_index xs (at + k) ≡ slice_index ys (there + k)) → number_at 4 at xs ≡ number_at 4 there ys
unfolding number_at
number_same at there xs ys same = rw (byte 0 (omega arith), byte 1 (omega arith), byte 2 (omega arith), byte 3 (omega arith)) refl
  where
    byte : (k : ℕ) → k < 4 → slice_index (drop at xs) k ≡ slice_index (drop there ys) k
    byte k low = get_or-drop at xs k 0 ∙ same k low ∙ sym (get_or-drop there ys k 0)

-- bytes behind the header leave what it says
header_same : (old : List ℕ) (off : ℕ) (bytes : List ℕ) → 96 ≤ off → SaysSame old (with_bytes old off bytes)
header_same old off bytes behind type p =
    let kind : page_type (with_bytes old off bytes) ≡ page_type old = byte_else old off bytes 1 (λ from to. omega (arith, behind, from)) in
    let number : page_id (with_bytes old off bytes) ≡ page_id old =
    number_same 4 4 (with_bytes old off bytes) old (λ k low. byte_else old off bytes (4 + k) (λ from to. omega (arith, behind, from, low))) in
    ap (λ t. (t == type) && (page_id (with_bytes old off bytes) == p)) kind ∙ ap (λ n. (page_type old == type) && (n == p)) number

entry_here : (i : ℕ) (entry old : List ℕ) → 136 + 40 * i ≤ length old → length entry ≡ 40 → entry_at (with_bytes old (96 + 40 * i) entry) i ≡ entry
unfolding entry_at
entry_here i entry old within size =
    let new = with_bytes old (96 + 40 * i) entry in
    let count : length (slice_range new (96 + 40 * i) (136 + 40 * i)) ≡ 40 =
    length-take-le (136 + 40 * i - (96 + 40 * i)) (drop (96 + 40 * i) new) (omega (arith, length-drop (96 + 40 * i) new, put_long old (96 + 40 * i) entry, within)) ∙ omega arith in
    ext_get_or 0 (slice_range new (96 + 40 * i) (136 + 40 * i)) entry (count ∙ sym size) (λ k lt.
    let low : k < 40 = subst (λ n. k < n) count lt in
    let place : 96 + 40 * i + k - (96 + 40 * i) ≡ k = omega arith in
    part_byte new (96 + 40 * i) (136 + 40 * i) k (omega (arith, low))
    ∙ byte_here old (96 + 40 * i) entry (96 + 40 * i + k) (omega (arith, low, within)) (omega arith) (omega (arith, low, size)) ∙ ap (slice_index entry) place)

entry_else : (i j : ℕ) (entry old : List ℕ) → length entry ≡ 40 → j ≢ i → entry_at (with_bytes old (96 + 40 * i) entry) j ≡ entry_at old j
unfolding entry_at
entry_else i j entry old size other =
    part_same (with_bytes old (96 + 40 * i) entry) old (96 + 40 * j) (136 + 40 * j) (put_long old (96 + 40 * i) entry) (λ k low high.
    byte_else old (96 + 40 * i) entry k (λ from to. other (omega (arith, low, high, from, to, size))))

pub entry_set : (i : ℕ) (entry old : List ℕ) → i < entry_count → length entry ≡ 40 → length old ≡ 8192 → IsEntrySet i entry old (with_bytes old (96 + 40 * i) entry)
entry_set i entry old within size long = record {
  within = within;
  here = entry_here i entry old (omega (arith, within, long)) size;
  others = λ j other. entry_else i j entry old size other;
  header = header_same old (96 + 40 * i) entry (omega arith);
}
