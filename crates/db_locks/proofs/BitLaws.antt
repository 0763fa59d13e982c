-- One bit of a page of maps: what a look tells of it, and what a put of it changes.
use Rattle.std.proofs.Common.{◌≡◌, ◌≢◌, ◌⊎◌, ℕ, ◌+◌, ◌-◌, ◌*◌, ◌/◌, ◌%◌, ◌^◌, ◌<◌, eqb, Bool, true, false, List, length, Some, get_or, get_or-set_same, get_or-set_other, length-set, inl, inr, refl, sym, ap, ◌∙◌, subst, arith}
use Rattle.std.specs.Prelude.{slice_index, slice_set, if◌then◌else◌}
use Rattle.std.specs.Int.{bit_at}
use Rattle.std.specs.Int.Bits.{bit_xor}
use Rattle.std.proofs.lemmas.Bool.{cases_eq, cond_both}
use Rattle.std.proofs.lemmas.Nat.Bits.{bit_at_xor, bit_at-pow_other, bit_at-lt}
use Rattle.std.proofs.lemmas.List.{ext_get_or}
use Rattle.std.proofs.lemmas.List.FromFn.{length-map-range_with_len, get_or-map-range_with_len}
use Rattle.spec_file.specs.declared.data.Resource.{Resource}
use Rattle.spec_file.specs.declared.sizes.TheConstants.{BIT_COUNT}
use Rattle.spec_file.specs.Image.{maps_start, page_size}
use Rattle.spec_log.specs.Cells.{with_bit, with_map_bit}
use Rattle.spec_log.specs.Cover.{bit_guard}
use Rattle.spec_words.specs.NetChanges.{FileShape}
use Rattle.spec_words.specs.Takes.{is_among}
use Rattle.law_net.specs.Files.{IsGuardedBy}
use Rattle.db_locks.specs.Guards.{AgreeUnder, DifferOnPage, carried}
use Rattle.db_locks.proofs.PageLaws.{turned, kept, turned_at, fits_some}

-- the byte of bit n
abbrev pub byte_of : ℕ → ℕ
byte_of n = maps_start + n / 8

-- the bit that differs is turned in what is seen as in what was shown
turned_bit : (seen before j v : ℕ) → bit_at before j ≡ bit_at seen j → bit_xor seen (bit_xor before (with_bit before j v)) ≡ with_bit seen j v
turned_bit seen before j v same =
    subst (λ (x : ℕ). bit_xor seen (bit_xor before (with_bit before j v)) ≡ (if eqb x v then seen else bit_xor seen (2 ^ j))) same (by_test (eqb (bit_at before j) v))
  where
    by_test : (b : Bool) → bit_xor seen (bit_xor before (if b then before else bit_xor before (2 ^ j))) ≡ (if b then seen else bit_xor seen (2 ^ j))
    by_test true = kept seen before
    by_test false = ap (λ x. bit_xor seen x) (turned before (2 ^ j))

pub carried_bit : (before seen : List ℕ) (n v : ℕ) → byte_of n < length before → bit_at (slice_index before (byte_of n)) (n % 8) ≡ bit_at (slice_index seen (byte_of n)) (n % 8)
    → carried before (with_map_bit before n v) seen ≡ with_map_bit seen n v
unfolding carried
carried_bit before seen n v lt same =
    let k = byte_of n in
    let new = with_bit (slice_index before k) (n % 8) v in
    let after = slice_set before k new in
    let put = with_bit (slice_index seen k) (n % 8) v in
    ext_get_or 0 (carried before after seen) (slice_set seen k put) (length-map-range_with_len (turned_at before after seen) 0 (length seen) ∙ sym (length-set seen k put))
    (λ i less.
    let here : i < length seen = subst (λ m. i < m) (length-map-range_with_len (turned_at before after seen) 0 (length seen)) less in
    get_or-map-range_with_len (turned_at before after seen) 0 (length seen) i i 0 here (omega arith)
    ∙ elim (cases_eq i k) [
      | inl e ↦
          ap (λ y. bit_xor (slice_index seen i) (bit_xor (slice_index before i) y)) (ap (λ m. get_or after m 0) e ∙ get_or-set_same before k new 0 lt)
          ∙ ap (λ m. bit_xor (slice_index seen m) (bit_xor (slice_index before m) new)) e
          ∙ turned_bit (slice_index seen k) (slice_index before k) (n % 8) v same
          ∙ sym (ap (λ m. get_or (slice_set seen k put) m 0) e ∙ get_or-set_same seen k put 0 (subst (λ m. m < length seen) e here))
      | inr ne ↦
          ap (λ y. bit_xor (slice_index seen i) (bit_xor (slice_index before i) y)) (get_or-set_other before k i new 0 ne)
          ∙ kept (slice_index seen i) (slice_index before i)
          ∙ sym (get_or-set_other seen k i put 0 ne)
    ])

-- the resource of the bit guards it
bit_guarded : (shape : FileShape) (q n : ℕ) (r : Resource) (Fits : Resource → Type 0) → bit_guard shape.geometry shape.pages q n ≡ Some r → Fits r → IsGuardedBy Fits shape q (byte_of n) (n % 8)
bit_guarded shape q n r Fits guard h =
    let number : 8 * (byte_of n - maps_start) + n % 8 ≡ n = omega arith in
    inr (omega arith, fits_some (bit_guard shape.geometry shape.pages q (8 * (byte_of n - maps_start) + n % 8)) r Fits (ap (λ k. bit_guard shape.geometry shape.pages q k) number ∙ guard) h)

pub bit_inside : (n : ℕ) → n < BIT_COUNT → byte_of n < page_size
bit_inside n lt = omega (arith, lt)

-- a look under it tells the bit
pub told_bit : (shape : FileShape) (q n : ℕ) (r : Resource) (shown seen : List ℕ) → n < BIT_COUNT → bit_guard shape.geometry shape.pages q n ≡ Some r → AgreeUnder r shape q shown seen
    → bit_at (slice_index shown (byte_of n)) (n % 8) ≡ bit_at (slice_index seen (byte_of n)) (n % 8)
told_bit shape q n r shown seen lt guard agree = agree (byte_of n) (n % 8) (bit_inside n lt) (omega arith) (bit_guarded shape q n r (λ s. s ≡ r) guard refl)

-- a turned bit leaves the others
other_bit : (byte i v j : ℕ) → j ≢ i → bit_at (with_bit byte i v) j ≡ bit_at byte j
other_bit byte i v j ne =
    cond_both (eqb (bit_at byte i) v) byte (bit_xor byte (2 ^ i)) (λ w. bit_at w j ≡ bit_at byte j) (λ e. refl)
    (λ e. bit_at_xor byte (2 ^ i) j ∙ ap (λ o. (bit_at byte j + o) % 2) (bit_at-pow_other i j ne) ∙ small (bit_at byte j) (bit_at-lt byte j))
  where
    small : (x : ℕ) → x < 2 → (x + 0) % 2 ≡ x
    small x h = omega arith

-- and it may be put
pub bit_differs : (shape : FileShape) (q n v : ℕ) (r : Resource) (taken : List Resource) (shown : List ℕ) → bit_guard shape.geometry shape.pages q n ≡ Some r → is_among taken r ≡ true → byte_of n < length shown
    → DifferOnPage taken shape q shown (with_map_bit shown n v)
bit_differs shape q n v r taken shown guard mine lt i j here low ne = by_case (cases_eq i (byte_of n)) (cases_eq j (n % 8))
  where
    by_case : (i ≡ byte_of n) ⊎ (i ≢ byte_of n) → (j ≡ n % 8) ⊎ (j ≢ n % 8) → IsGuardedBy (λ r. is_among taken r ≡ true) shape q i j
    by_case (inl e) (inl f) =
        subst (λ (k : ℕ). IsGuardedBy (λ r. is_among taken r ≡ true) shape q k j) (sym e)
        (subst (λ (k : ℕ). IsGuardedBy (λ r. is_among taken r ≡ true) shape q (byte_of n) k) (sym f) (bit_guarded shape q n r (λ r. is_among taken r ≡ true) guard mine))
    by_case (inl e) (inr other) = absurd (ne
        (ap (λ k. bit_at (slice_index shown k) j) e
        ∙ sym (other_bit (slice_index shown (byte_of n)) (n % 8) v j other)
        ∙ ap (λ x. bit_at x j) (sym (ap (λ k. slice_index (with_map_bit shown n v) k) e ∙ get_or-set_same shown (byte_of n) (with_bit (slice_index shown (byte_of n)) (n % 8) v) 0 lt))))
    by_case (inr other) f = absurd (ne (ap (λ x. bit_at x j) (sym (get_or-set_other shown (byte_of n) i (with_bit (slice_index shown (byte_of n)) (n % 8) v) 0 other))))
