-- What a new IAM page says, and a page that is put as a whole.
use Rattle.std.proofs.Common.{◌≡◌, ℕ, ◌+◌, ◌-◌, ◌*◌, ◌/◌, ◌%◌, ◌^◌, ◌<◌, ◌≤◌, ◌==◌, ◌&&◌, leb, ltb, false, true, List, length, replicate, drop, ext_get_or, refl, sym, ap, subst, ◌∙◌, inl, inr, arith, length-drop}
use Rattle.std.specs.Prelude.{slice_index}
use Rattle.std.specs.Int.{bit_at}
use Rattle.std.proofs.lemmas.Bool.{cases_lt, cond_both, eq-eqb}
use Rattle.std.proofs.lemmas.Bool.Decides.{nat_tests}
use Rattle.std.proofs.lemmas.List.{get_or-replicate, get_or_past, get_or-drop, length-replicate}
use Rattle.std.proofs.lemmas.List.FromFn.{length-map-range_with_len, get_or-map-range_with_len}
use Rattle.std.proofs.lemmas.Nat.Bits.{bit_at-zero}
use Rattle.byteorder.specs.Numbers.{little_number-reads_back}
use Rattle.spec_file.specs.declared.geometry.Geometry.{Geometry}
use Rattle.spec_file.specs.declared.page_type.TheConstants.{IAM_TYPE}
use Rattle.spec_file.specs.Header.{says, page_id}
use Rattle.spec_file.specs.Iam.{iam_interval, iam_slot, iam_mark, has_interval}
use Rattle.spec_file.specs.Image.{number_at, page_size}
use Rattle.spec_log.specs.Cells.{with_bytes, byte_with}
use Rattle.spec_alloc.specs.Chains.{new_iam_page}
use Rattle.spec_steps.specs.IamPages.{IsOnlyIam, IsLastIam}

-- zeros, behind their end too
zeros_at : (n i : ℕ) → slice_index (replicate n 0) i ≡ 0
zeros_at n i = elim (cases_lt i n) [
  | inl low ↦ get_or-replicate n i 0 0 low
  | inr high ↦ get_or_past (replicate n 0) i 0 (subst (λ m. m ≤ i) (sym (length-replicate n 0)) high)
]

-- a number of four zeros
number_zero : (at : ℕ) (bytes : List ℕ) → ((k : ℕ) → slice_index bytes (at + k) ≡ 0) → number_at 4 at bytes ≡ 0
unfolding number_at
number_zero at bytes none = rw (byte 0, byte 1, byte 2, byte 3) refl
  where
    byte : (k : ℕ) → slice_index (drop at bytes) k ≡ 0
    byte k = get_or-drop at bytes k 0 ∙ none k

module _ (id q prev interval sequence : ℕ) where
  abbrev bytes : List ℕ
  bytes = new_iam_page id q prev interval sequence

  behind : drop 104 (new_iam_page id q prev interval sequence) ≡ replicate (page_size - 104) 0
  behind = refl

  tail : (i : ℕ) → 104 ≤ i → slice_index (new_iam_page id q prev interval sequence) i ≡ 0
  tail i high =
      let place : 104 + (i - 104) ≡ i = omega (arith, high) in
      ap (slice_index (new_iam_page id q prev interval sequence)) (sym place) ∙ sym (get_or-drop 104 (new_iam_page id q prev interval sequence) (i - 104) 0)
      ∙ ap (λ l. slice_index l (i - 104)) behind ∙ zeros_at (page_size - 104) (i - 104)

  pub page_long : length (new_iam_page id q prev interval sequence) ≡ 8192
  page_long =
      let rest : length (drop 104 (new_iam_page id q prev interval sequence)) ≡ 8088 = ap length behind ∙ length-replicate {A = ℕ} (page_size - 104) 0 in
      omega (arith, rest, length-drop 104 (new_iam_page id q prev interval sequence))

  number_is : q < 256 ^ 4 → page_id (new_iam_page id q prev interval sequence) ≡ q
  unfolding number_at
  number_is low = little_number-reads_back 4 q (drop 8 (new_iam_page id q prev interval sequence)) low

  object_is : id < 256 ^ 4 → number_at 4 8 (new_iam_page id q prev interval sequence) ≡ id
  unfolding number_at
  object_is low = little_number-reads_back 4 id (drop 12 (new_iam_page id q prev interval sequence)) low

  prev_is : prev < 256 ^ 4 → number_at 4 12 (new_iam_page id q prev interval sequence) ≡ prev
  unfolding number_at
  prev_is low = little_number-reads_back 4 prev (drop 16 (new_iam_page id q prev interval sequence)) low

  next_is : number_at 4 16 (new_iam_page id q prev interval sequence) ≡ 0
  unfolding number_at
  next_is = refl

  interval_is : interval < 256 ^ 4 → number_at 4 96 (new_iam_page id q prev interval sequence) ≡ interval
  unfolding number_at
  interval_is low = little_number-reads_back 4 interval (drop 100 (new_iam_page id q prev interval sequence)) low

  sequence_is : sequence < 256 ^ 4 → number_at 4 100 (new_iam_page id q prev interval sequence) ≡ sequence
  unfolding number_at
  sequence_is low = little_number-reads_back 4 sequence (drop 104 (new_iam_page id q prev interval sequence)) low

  says_is : q < 256 ^ 4 → says IAM_TYPE q (new_iam_page id q prev interval sequence) ≡ true
  says_is low = eq-eqb (page_id (new_iam_page id q prev interval sequence)) q (number_is low)

  slots_are : (i : ℕ) → iam_slot (new_iam_page id q prev interval sequence) i ≡ 0
  slots_are i = number_zero (104 + 4 * i) (new_iam_page id q prev interval sequence) (λ k. tail (104 + 4 * i + k) (omega arith))

  marks_are : (n : ℕ) → iam_mark (new_iam_page id q prev interval sequence) n ≡ false
  marks_are n = ap (λ b. bit_at b (n % 8) == 1) (tail (136 + n / 8) (omega arith)) ∙ ap (λ b. b == 1) (bit_at-zero (n % 8))

-- the page of a new chain
pub only_iam : (id q : ℕ) → id < 256 ^ 4 → q < 256 ^ 4 → IsOnlyIam id q (new_iam_page id q 0 0 0)
only_iam id q low_id low = record {
  says = says_is id q 0 0 0 low;
  object = object_is id q 0 0 0 low_id;
  prev = prev_is id q 0 0 0 (omega arith);
  next = next_is id q 0 0 0;
  interval = interval_is id q 0 0 0 (omega arith);
  sequence = sequence_is id q 0 0 0 (omega arith);
  slots = λ i within. slots_are id q 0 0 0 i;
  marks = marks_are id q 0 0 0;
}

-- the last page of a chain that grows, and what it says of its interval
pub last_iam : (g : Geometry) (pages id before interval count q : ℕ) → id < 256 ^ 4 → before < 256 ^ 4 → interval < 256 ^ 4 → count < 256 ^ 4 → q < 256 ^ 4 → has_interval g pages interval ≡ true
    → IsLastIam g pages id before count q (new_iam_page id q before interval count) × (iam_interval (new_iam_page id q before interval count) ≡ interval)
last_iam g pages id before interval count q low_id low_before low_interval low_count low has =
    let is = interval_is id q before interval count low_interval in (
      record {
        says = says_is id q before interval count low;
        object = object_is id q before interval count low_id;
        prev = prev_is id q before interval count low_before;
        next = next_is id q before interval count;
        interval = ap (has_interval g pages) is ∙ has;
        sequence = sequence_is id q before interval count low_count;
        marks = marks_are id q before interval count;
      },
      is,
    )

-- a page is put as a whole
pub whole_put : (old new : List ℕ) → length new ≡ length old → with_bytes old 0 new ≡ new
whole_put old new long =
    let size = length-map-range_with_len (byte_with old 0 new) 0 (length old) in
    ext_get_or 0 (with_bytes old 0 new) new (size ∙ sym long) (λ i lt.
    let low : i < length old = subst (λ n. i < n) size lt in
    get_or-map-range_with_len (byte_with old 0 new) 0 (length old) i i 0 low (omega arith)
    ∙ cond_both (leb 0 i && ltb i (0 + length new)) (slice_index new (i - 0)) (slice_index old i) (λ b. b ≡ slice_index new i)
    (λ e. let same : i - 0 ≡ i = omega arith in ap (slice_index new) same)
    (λ e. absurd (grind (arith, nat_tests, e, low, long))))
