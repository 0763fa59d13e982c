-- Single writes are puts of cells: a bit, or the one byte of a PFS byte.
use Rattle.std.proofs.Common.{◌≡◌, ℕ, ◌+◌, ◌-◌, ◌/◌, ◌%◌, ◌^◌, ◌<◌, ◌≤◌, ◌==◌, ◌&&◌, eqb, ltb, leb, if◌then◌else◌, Bool, true, false, List, [], ◌∷◌, length, take, drop, get_or, slice_index, set, bit_xor, get_or-set_same, get_or-set_other, ext_get_or, refl, sym, ap, subst, ◌∙◌, ⊎_elim, arith, eq-eqb, ne_eqb, eqb-true}
use Rattle.std.specs.Int.{bit_at}
use Rattle.std.proofs.Math.ListN.{length-set}
use Rattle.std.proofs.lemmas.Bool.{eqb-false, cases_eq, cond_both, le-leb, lt-ltb, ltb-true, leb-true, and_from, ne_eqb}
use Rattle.std.proofs.lemmas.List.{take-set-le, drop-take}
use Rattle.std.proofs.lemmas.List.FromFn.{length-map-range_with_len, get_or-map-range_with_len}
use Rattle.std.proofs.lemmas.Nat.Bits.{bit_at_xor, bit_at-pow_same, bit_at-pow_other, bit_at-lt}
use Rattle.byteorder.specs.Endian.{little_number}
use Rattle.byteorder.specs.Numbers.{little_from-take}
use Rattle.spec_file.specs.declared.geometry.Geometry.{Geometry}
use Rattle.spec_file.specs.declared.geometry.Geometry.TheVariants.{Standard, Small}
use Rattle.spec_file.specs.Header.{page_type, page_id}
use Rattle.spec_file.specs.Image.{Image, page, number_at, maps_start}
use Rattle.spec_file.specs.Places.{interval_size, gam_place, sgam_place, pfs_span, pfs_place}
use Rattle.spec_log.specs.Cells.{HasWholePages, byte_with, with_bytes, with_bit, with_map_bit}
use Rattle.spec_steps.specs.Writes.{SaysSame, IsBitSet, IsByteSet}
use Rattle.law_writes.specs.Laws.{bit_number, PutSetsFree, PutSetsMixed, PutSetsByte, PutSetsPage}
use Rattle.law_writes.proofs.WritesAtMost.{gam_inside, sgam_inside, pfs_inside}

-- the header stays where a byte behind it is set
number_front : (n at k : ℕ) (bytes : List ℕ) → at + n ≤ k → number_at n at (take k bytes) ≡ number_at n at bytes
unfolding number_at
number_front n at k bytes within =
    let there : at + (k - at) ≡ k = omega (arith, within) in
    ap (λ (i : ℕ). little_number n (drop at (take i bytes))) (sym there) ∙ ap (little_number n) (drop-take at (k - at) bytes)
    ∙ little_from-take 0 n (k - at) (drop at bytes) (omega (arith, within))

same_number : (n at k : ℕ) (xs ys : List ℕ) → take k xs ≡ take k ys → at + n ≤ k → number_at n at xs ≡ number_at n at ys
same_number n at k xs ys same within = sym (number_front n at k xs within) ∙ ap (number_at n at) same ∙ number_front n at k ys within

header_stays : (old : List ℕ) (k b : ℕ) → 96 ≤ k → SaysSame old (set old k b)
header_stays old k b behind type p =
    let front = take-set-le 96 old k b behind in
    let kind : page_type (set old k b) ≡ page_type old = get_or-set_other old k 1 b 0 (λ same. omega (arith, behind, same)) in
    let number : page_id (set old k b) ≡ page_id old = same_number 4 4 96 (set old k b) old front (omega arith) in
    ap (λ t. (t == type) && (page_id (set old k b) == p)) kind ∙ ap (λ n. (page_type old == type) && (n == p)) number

-- one bit of a byte with a bit turned
flipped : (x v : ℕ) → x < 2 → v < 2 → (x ≡ v → ⊥) → (x + 1) % 2 ≡ v
flipped x v hx hv n = omega arith

stays : (x : ℕ) → x < 2 → (x + 0) % 2 ≡ x
stays x h = omega arith

pub bit_with : (byte i v j : ℕ) → v < 2 → bit_at (with_bit byte i v) j ≡ (if eqb i j then v else bit_at byte j)
bit_with byte i v j lt =
    cond_both (eqb (bit_at byte i) v) byte (bit_xor byte (2 ^ i)) (λ w. bit_at w j ≡ (if eqb i j then v else bit_at byte j))
    (λ e. cond_both (eqb i j) v (bit_at byte j) (λ r. bit_at byte j ≡ r)
    (λ same. subst (λ m. bit_at byte m ≡ v) (eqb-true i j same) (eqb-true (bit_at byte i) v e)) (λ other. refl))
    (λ e. bit_at_xor byte (2 ^ i) j ∙ cond_both (eqb i j) v (bit_at byte j) (λ r. (bit_at byte j + bit_at (2 ^ i) j) % 2 ≡ r)
    (λ same. subst (λ m. (bit_at byte m + bit_at (2 ^ i) m) % 2 ≡ v) (eqb-true i j same)
    (ap (λ o. (bit_at byte i + o) % 2) (bit_at-pow_same i) ∙ flipped (bit_at byte i) v (bit_at-lt byte i) lt (eqb-false (bit_at byte i) v e)))
    (λ other. ap (λ o. (bit_at byte j + o) % 2) (bit_at-pow_other i j (λ s. eqb-false i j other (sym s))) ∙ stays (bit_at byte j) (bit_at-lt byte j)))

pub small : (v : Bool) → bit_number v < 2
small true = omega arith
small false = omega arith

pub is_bit : (v : Bool) → (bit_number v == 1) ≡ v
is_bit true = refl
is_bit false = refl

pub bit_set : (old : List ℕ) (n : ℕ) (v : Bool) → length old ≡ 8192 → n < 63904 → IsBitSet n v old (with_map_bit old n (bit_number v))
bit_set old n v long low =
    let k = maps_start + n / 8 in
    let b = with_bit (slice_index old k) (n % 8) (bit_number v) in
    let at : slice_index (set old k b) k ≡ b = get_or-set_same old k b 0 (omega (arith, long, low)) in record {
      here = ap (λ w. bit_at w (n % 8) == 1) at
          ∙ ap (λ w. w == 1) (bit_with (slice_index old k) (n % 8) (bit_number v) (n % 8) (small v) ∙ ap (λ c. if c then bit_number v else bit_at (slice_index old k) (n % 8))
          (eq-eqb (n % 8) (n % 8) refl))
          ∙ is_bit v;
      others = λ m other. ⊎_elim
          (λ same. ap (λ i. bit_at (slice_index (set old k b) i) (m % 8) == 1) same ∙ ap (λ w. bit_at w (m % 8) == 1) at
          ∙ ap (λ w. w == 1) (bit_with (slice_index old k) (n % 8) (bit_number v) (m % 8) (small v)
          ∙ ap (λ c. if c then bit_number v else bit_at (slice_index old k) (m % 8)) (ne_eqb (n % 8) (m % 8) (λ e. other (omega (arith, same, e)))))
          ∙ ap (λ i. bit_at (slice_index old i) (m % 8) == 1) (sym same))
          (λ differ. ap (λ w. bit_at w (m % 8) == 1) (get_or-set_other old k (maps_start + m / 8) b 0 differ))
          (cases_eq (maps_start + m / 8) k);
      header = header_stays old k b (omega arith);
    }

-- one byte put is one byte set
if_in : (c : Bool) (u v : ℕ) → c ≡ true → (if c then u else v) ≡ u
if_in true u v is = refl
if_in false u v is = absurd (cc)

if_out : (b c : Bool) (u v : ℕ) → (b ≡ true → c ≡ true → ⊥) → (if b && c then u else v) ≡ v
if_out true true u v none = absurd (none refl refl)
if_out true false u v none = refl
if_out false c u v none = refl

pub one_byte : (old : List ℕ) (i b : ℕ) → i < length old → with_bytes old i (b ∷ []) ≡ set old i b
one_byte old i b inside =
    let size = length-map-range_with_len (byte_with old i (b ∷ [])) 0 (length old) in
    ext_get_or 0 (with_bytes old i (b ∷ [])) (set old i b) (size ∙ sym (length-set old i b)) (λ k lt.
    let low : k < length old = subst (λ n. k < n) size lt in
    get_or-map-range_with_len (byte_with old i (b ∷ [])) 0 (length old) k k 0 low (omega arith) ∙ ⊎_elim
    (λ here. if_in (leb i k && ltb k (i + 1)) (slice_index (b ∷ []) (k - i)) (slice_index old k) (and_from (leb i k) (ltb k (i + 1)) (le-leb i k (omega (arith, here)))
    (lt-ltb k (i + 1) (omega (arith, here))))
    ∙ ap (λ j. slice_index (b ∷ []) j) (let z : k - i ≡ 0 = omega (arith, here) in z) ∙ sym (get_or-set_same old i b 0 inside) ∙ ap (λ j. get_or (set old i b) j 0) (sym here))
    (λ other. if_out (leb i k) (ltb k (i + 1)) (slice_index (b ∷ []) (k - i)) (slice_index old k)
    (λ a c. let x = leb-true i k a in let y = ltb-true k (i + 1) c in other (omega (arith, x, y))) ∙ sym (get_or-set_other old i k b 0 other))
    (cases_eq k i))

pub byte_is_set : (old : List ℕ) (i b : ℕ) → 96 ≤ i → i < length old → IsByteSet i b old (with_bytes old i (b ∷ []))
byte_is_set old i b behind inside = subst (IsByteSet i b old) (sym (one_byte old i b inside)) (record {
  here = get_or-set_same old i b 0 inside;
  others = λ j other. get_or-set_other old i j b 0 other;
  header = header_stays old i b behind;
})

-- so puts of cells are words
pub in_interval : (g : Geometry) (e : ℕ) → e % interval_size g < 63904
in_interval Standard e = omega arith
in_interval Small e = omega arith

in_span : (g : Geometry) (p : ℕ) → p % pfs_span g < 8088
in_span Standard p = omega arith
in_span Small p = omega arith

-- a page of the image is whole
whole_page : (image : Image) (q : ℕ) → HasWholePages image → q < length image → length (page image q) ≡ 8192
whole_page image q whole inside = whole q [] inside

pub put_sets_free : PutSetsFree
put_sets_free g image e value shape whole inside =
    let place = gam_place g e in record {
      new = with_map_bit (page image place.page) place.at (bit_number value);
      bit = bit_set (page image place.page) place.at value (whole_page image place.page whole (gam_inside g (length image) shape e inside)) (in_interval g e);
      is = refl;
    }

pub put_sets_mixed : PutSetsMixed
put_sets_mixed g image e value shape whole inside =
    let place = sgam_place g e in record {
      new = with_map_bit (page image place.page) place.at (bit_number value);
      bit = bit_set (page image place.page) place.at value (whole_page image place.page whole (sgam_inside g (length image) shape e inside)) (in_interval g e);
      is = refl;
    }

pub put_sets_byte : PutSetsByte
put_sets_byte g image p value shape whole inside =
    let place = pfs_place g p in
    let long = whole_page image place.page whole (pfs_inside g (length image) shape p inside) in
    let low = in_span g p in record {
      new = with_bytes (page image place.page) place.at (value ∷ []);
      byte = byte_is_set (page image place.page) place.at value (omega arith) (omega (arith, long, low));
      is = refl;
    }

pub put_sets_page : PutSetsPage
put_sets_page image p at bytes = record { is = refl }
