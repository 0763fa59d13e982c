-- What guards a difference fits.
use Rattle.std.proofs.Common.{◌≡◌, ℕ, zero, suc, ◌+◌, ◌-◌, ◌*◌, ◌/◌, ◌%◌, ◌<◌, ext_get_or, Bool, true, false, eqb, not, List, length, Option, Some, None, ◌⊎◌, inl, inr, refl, sym, ap, ◌∙◌, subst, arith}
use Rattle.std.specs.Prelude.{if◌then◌else◌, IsSomeAnd, bytes_eq, slice_index}
use Rattle.std.specs.Int.{bit_at}
use Rattle.std.proofs.lemmas.Bool.{cases_Bool, cases_eq, cases_lt, eqb-true, eqb-false, not-true, not-false, both_ways, le-ltb}
use Rattle.std.proofs.lemmas.Nat.Bits.{same_from_bits_below}
use Rattle.spec_file.specs.declared.data.Resource.{Resource}
use Rattle.spec_file.specs.declared.geometry.Geometry.{Geometry}
use Rattle.spec_file.specs.Image.{Image, page, maps_start}
use Rattle.spec_file.specs.Places.{Place, pfs_place, interval_size}
use Rattle.spec_file.specs.declared.geometry.Geometry.TheVariants.{Standard, Small}
use Rattle.spec_file.specs.Roles.{role_of}
use Rattle.spec_log.specs.Cells.{map_bit}
use Rattle.spec_log.specs.Cover.{byte_guard, bit_guard, bit_guard_by}
use Rattle.law_undo.proofs.Guards.{no_byte_guard}
use Rattle.spec_words.specs.NetChanges.{FileShape, is_turned}
use Rattle.law_net.proofs.Cells.{SameByte}
use Rattle.law_net.specs.Files.{IsGuardedBy, DifferOnlyAt}
use Rattle.law_net.proofs.Images.{AreImages, whole_page}
use Rattle.law_net.proofs.Zones.{bit_number}
use lib.Pointwise.{bytes_decides}

-- bounded search
pub record Found (test : ℕ → Bool) (n : ℕ) : Type 0 where
  pub at : ℕ
  pub low : at < n
  pub passes : test at ≡ true

find_below : (test : ℕ → Bool) (n : ℕ) → Found test n ⊎ ((i : ℕ) → i < n → test i ≡ false)
find_below test zero = inr (λ i lt. absurd (none i lt))
  where
    none : (i : ℕ) → i < 0 → ⊥
    none i lt = omega (arith, lt)
find_below test (suc n) = elim (find_below test n) [
  | inl f ↦ inl (record { at = f.at; low = (let a = f.low in omega (arith, a)); passes = f.passes })
  | inr none ↦ elim (cases_Bool (test n)) [
    | inl e ↦ inl (record { at = n; low = omega arith; passes = e })
    | inr e ↦ inr (λ i lt. elim (cases_eq i n) [ inl same ↦ subst (λ k. test k ≡ false) (sym same) e | inr other ↦ none i (omega (arith, lt, other)) ])
  ]
]

-- two bytes that differ differ in a bit
some_bit : (a b : ℕ) → a < 256 → b < 256 → (a ≡ b → ⊥) → (j : ℕ) × (j < 8) × (bit_at a j ≡ bit_at b j → ⊥)
some_bit a b la lb ne = elim (find_below (λ j. not (eqb (bit_at a j) (bit_at b j))) 8) [
  | inl f ↦ (f.at, f.low, eqb-false (bit_at a f.at) (bit_at b f.at) (not-true (eqb (bit_at a f.at) (bit_at b f.at)) f.passes))
  | inr none ↦ absurd (ne (same_from_bits_below 8 a b la lb (λ j lt. eqb-true (bit_at a j) (bit_at b j) (not-false (eqb (bit_at a j) (bit_at b j)) (none j lt)))))
]

-- two pages that differ differ in a byte
pub some_byte : (xs ys : List ℕ) → length xs ≡ 8192 → length ys ≡ 8192 → bytes_eq xs ys ≡ false → (i : ℕ) × (i < 8192) × (slice_index xs i ≡ slice_index ys i → ⊥)
some_byte xs ys lx ly differ = elim (find_below (λ i. not (eqb (slice_index xs i) (slice_index ys i))) 8192) [
  | inl f ↦ (f.at, f.low, eqb-false (slice_index xs f.at) (slice_index ys f.at) (not-true (eqb (slice_index xs f.at) (slice_index ys f.at)) f.passes))
  | inr none ↦ absurd (both_ways (bytes_eq xs ys) differ ((bytes_decides xs ys).1
      (ext_get_or 0 xs ys (lx ∙ sym ly) (λ i lt. eqb-true (slice_index xs i) (slice_index ys i) (not-false (eqb (slice_index xs i) (slice_index ys i)) (none i (subst (λ n. i < n) lx lt)))))))
]

-- what guards a byte that differs fits
pub guard_fits : (P : Resource → Type 0) (shape : FileShape) (start now : Image) → AreImages shape start now → DifferOnlyAt P shape start now → (p i : ℕ) (r : Resource) → p < shape.pages → i < 8192 →
    byte_guard shape.geometry shape.pages p i ≡ Some r → (SameByte start now p i → ⊥) → P r
guard_fits P shape start now images differ p i r lt small guard other =
    let b = some_bit (slice_index (page start p) i) (slice_index (page now p) i) (images.old_bytes p i) (images.new_bytes p i) other in
    let whole = whole_page shape start now images p lt in
    by_guard b.0 (differ p i b.0 lt small b.1 b.2)
  where
    by_bit : (n : ℕ) (o : Option Resource) → bit_guard shape.geometry shape.pages p n ≡ o → IsSomeAnd o P → ⊥
    by_bit n None e h = elim h [ ]
    by_bit n (Some s) e h = none_some r (sym (no_byte_guard shape.geometry shape.pages p n i s e) ∙ guard)
      where
        none_some : (r : Resource) → None ≡ Some r → ⊥
        none_some r e = cc

    by_guard : (j : ℕ) → IsGuardedBy P shape p i j → P r
    by_guard j (inl h) = subst (λ o. IsSomeAnd o P) guard h
    by_guard j (inr h) = absurd (by_bit (8 * (i - maps_start) + j) (bit_guard shape.geometry shape.pages p (8 * (i - maps_start) + j)) refl h.1)

-- what guards a bit that turns fits
pub bit_fits : (P : Resource → Type 0) (shape : FileShape) (start now : Image) → AreImages shape start now → DifferOnlyAt P shape start now → (b : Place) (r : Resource) →
    b.page < shape.pages → b.at < 63904 →
    bit_guard shape.geometry shape.pages b.page b.at ≡ Some r → is_turned start now b ≡ true → P r
bit_fits P shape start now images differ b r lt low guard turned =
    let whole = whole_page shape start now images b.page lt in
    by_guard (differ b.page (maps_start + b.at / 8) (b.at % 8) lt (inside b.at low) (small b.at)
    (eqb-false (map_bit (page start b.page) b.at) (map_bit (page now b.page) b.at) (not-true (eqb (map_bit (page start b.page) b.at) (map_bit (page now b.page) b.at)) turned)))
  where
    small : (n : ℕ) → n % 8 < 8
    small n = omega arith

    inside : (n : ℕ) → n < 63904 → maps_start + n / 8 < 8192
    inside n lt = omega (arith, lt)

    by_byte : (o : Option Resource) → byte_guard shape.geometry shape.pages b.page (maps_start + b.at / 8) ≡ o → IsSomeAnd o P → ⊥
    by_byte None e h = elim h [ ]
    by_byte (Some s) e h = none_some s (sym (no_byte_guard shape.geometry shape.pages b.page b.at (maps_start + b.at / 8) r guard) ∙ e)
      where
        none_some : (r : Resource) → None ≡ Some r → ⊥
        none_some r e = cc

    by_guard : IsGuardedBy P shape b.page (maps_start + b.at / 8) (b.at % 8) → P r
    by_guard (inl h) = absurd (by_byte (byte_guard shape.geometry shape.pages b.page (maps_start + b.at / 8)) refl h)
    by_guard (inr h) = subst (λ o. IsSomeAnd o P) (ap (bit_guard shape.geometry shape.pages b.page) (bit_number b.at) ∙ guard) h.1

-- guards are of pages of the file
pub bit_inside : (shape : FileShape) (b : Place) (r : Resource) → bit_guard shape.geometry shape.pages b.page b.at ≡ Some r → b.page < shape.pages
bit_inside shape b r guard = elim (cases_lt b.page shape.pages) [
  | inl lt ↦ lt
  | inr ge ↦ absurd (none_some r (sym (ap (λ s. if s then bit_guard_by (role_of shape.geometry b.page) shape.geometry shape.pages b.page b.at else None) (le-ltb b.page shape.pages ge)) ∙ guard))
]
  where
    none_some : (r : Resource) → None ≡ Some r → ⊥
    none_some r e = cc

pub low_bit : (g : Geometry) (e : ℕ) → e % interval_size g < 63904
low_bit Standard e = omega arith
low_bit Small e = omega arith

pub low_byte : (g : Geometry) (p : ℕ) → (pfs_place g p).at < 8192
low_byte Standard p = omega arith
low_byte Small p = omega arith
