-- Four images of a file, as seen and as shown, before and after: a bit or a byte that differs differs alike in both.
use Rattle.std.proofs.Common.{◌≡◌, ℕ, ◌+◌, ◌/◌, ◌%◌, ◌<◌, ext_get_or, Bool, true, false, eqb, not, ◌&&◌, List, Some, ◌⊎◌, inl, inr, refl, sym, ap, ◌∙◌, subst, arith}
use Rattle.std.specs.Prelude.{IsSomeAnd, slice_index}
use Rattle.std.specs.Coded.{Coded-set, coded_bool}
use Rattle.std.proofs.Math.Logic.{∥∥₁_elim}
use Rattle.std.proofs.lemmas.Bool.{cases_Bool, cases_eq, both_ways, false≢true, eq-eqb, ne_eqb, not_from_false}
use Rattle.std.proofs.lemmas.Nat.Bits.{same_from_bits_below}
use Rattle.spec_file.specs.declared.data.Resource.{Resource}
use Rattle.spec_file.specs.Image.{Image, AreBytes, page, maps_start}
use Rattle.spec_file.specs.Places.{Place}
use Rattle.spec_log.specs.Cells.{map_bit}
use Rattle.spec_log.specs.Cover.{byte_guard, bit_guard}
use Rattle.spec_words.specs.NetChanges.{FileShape}
use Rattle.spec_words.specs.Takes.{is_among}
use Rattle.law_net.specs.Files.{DifferUnder}
use Rattle.law_net.proofs.Cells.{SameByte}
use Rattle.law_net.proofs.Fits.{guard_fits, bit_fits}
use Rattle.law_net.proofs.Images.{AreImages, whole_page}
use Rattle.law_net.proofs.Zones.{bit_number}
use Rattle.db_locks.specs.Guards.{AgreeUnder}

-- seen before and after, shown before and after: each is shown as it is seen, or it stayed in both
abbrev pub Alike : {A : Type 0} → A → A → A → A → Type 0
Alike s n f w = ((s ≡ f) × (n ≡ w)) ⊎ ((s ≡ n) × (f ≡ w))

-- two pairs of images that differ only under what was taken, which is shown as it is seen
pub record AreBoth (shape : FileShape) (taken : List Resource) (start now first shown : Image) : Type 0 where
  pub seen : AreImages shape start now
  pub told : AreImages shape first shown
  pub moved : ∥ DifferUnder shape taken start now ∥₁
  pub written : ∥ DifferUnder shape taken first shown ∥₁
  pub before : (r : Resource) → is_among taken r ≡ true → (p : ℕ) → AgreeUnder r shape p (page first p) (page start p)
  pub after : (r : Resource) → is_among taken r ≡ true → (p : ℕ) → AgreeUnder r shape p (page shown p) (page now p)

agreed_byte : (shape : FileShape) (r : Resource) (p i : ℕ) (xs ys : List ℕ) → AreBytes xs → AreBytes ys → i < 8192 →
    byte_guard shape.geometry shape.pages p i ≡ Some r → AgreeUnder r shape p xs ys → slice_index ys i ≡ slice_index xs i
agreed_byte shape r p i xs ys low low' small guard agree =
    sym (same_from_bits_below 8 (slice_index xs i) (slice_index ys i) (low i) (low' i)
    (λ j lt. agree i j small lt (inl (subst (λ o. IsSomeAnd o (λ s. s ≡ r)) (sym guard) refl))))

agreed_bit : (shape : FileShape) (r : Resource) (b : Place) (xs ys : List ℕ) → b.at < 63904 → bit_guard shape.geometry shape.pages b.page b.at ≡ Some r → AgreeUnder r shape b.page xs ys →
    map_bit ys b.at ≡ map_bit xs b.at
agreed_bit shape r b xs ys low guard agree =
    sym (agree (maps_start + b.at / 8) (b.at % 8) (inside b.at low) (small b.at)
    (inr (omega arith, subst (λ o. IsSomeAnd o (λ s. s ≡ r)) (sym (ap (bit_guard shape.geometry shape.pages b.page) (bit_number b.at) ∙ guard)) refl)))
  where
    small : (n : ℕ) → n % 8 < 8
    small n = omega arith

    inside : (n : ℕ) → n < 63904 → maps_start + n / 8 < 8192
    inside n lt = omega (arith, lt)

-- what isn't taken stayed
stayed_byte : (shape : FileShape) (taken : List Resource) (a b : Image) → AreImages shape a b → ∥ DifferUnder shape taken a b ∥₁ → (p i : ℕ) (r : Resource) → p < shape.pages → i < 8192 →
    byte_guard shape.geometry shape.pages p i ≡ Some r → is_among taken r ≡ false → SameByte a b p i
stayed_byte shape taken a b images under p i r lt small guard free = elim (cases_eq (slice_index (page a p) i) (slice_index (page b p) i)) [
  | inl same ↦ same
  | inr other ↦ absurd (both_ways (is_among taken r) free
      (∥∥₁_elim under (Coded-set coded_bool _ _) (λ m. guard_fits (λ s. is_among taken s ≡ true) shape a b images m p i r lt small guard other)))
]

stayed_bit : (shape : FileShape) (taken : List Resource) (a b : Image) → AreImages shape a b → ∥ DifferUnder shape taken a b ∥₁ → (c : Place) (r : Resource) → c.page < shape.pages → c.at < 63904 →
    bit_guard shape.geometry shape.pages c.page c.at ≡ Some r → is_among taken r ≡ false → map_bit (page a c.page) c.at ≡ map_bit (page b c.page) c.at
stayed_bit shape taken a b images under c r lt low guard free = elim (cases_eq (map_bit (page a c.page) c.at) (map_bit (page b c.page) c.at)) [
  | inl same ↦ same
  | inr other ↦ absurd (both_ways (is_among taken r) free
      (∥∥₁_elim under (Coded-set coded_bool _ _)
      (λ m. bit_fits (λ s. is_among taken s ≡ true) shape a b images m c r lt low guard (not_from_false _ (ne_eqb (map_bit (page a c.page) c.at) (map_bit (page b c.page) c.at) other)))))
]

pub byte_alike : (shape : FileShape) (taken : List Resource) (start now first shown : Image) → AreBoth shape taken start now first shown → (p i : ℕ) (r : Resource) → p < shape.pages → i < 8192 →
    byte_guard shape.geometry shape.pages p i ≡ Some r → Alike (slice_index (page start p) i) (slice_index (page now p) i) (slice_index (page first p) i) (slice_index (page shown p) i)
byte_alike shape taken start now first shown both p i r lt small guard =
    let seen = both.seen in
    let told = both.told in
    elim (cases_Bool (is_among taken r)) [
      | inl mine ↦ inl (
        agreed_byte shape r p i (page first p) (page start p) (told.old_bytes p) (seen.old_bytes p) small guard (both.before r mine p),
        agreed_byte shape r p i (page shown p) (page now p) (told.new_bytes p) (seen.new_bytes p) small guard (both.after r mine p),
      )
      | inr free ↦ inr (
        stayed_byte shape taken start now seen both.moved p i r lt small guard free,
        stayed_byte shape taken first shown told both.written p i r lt small guard free,
      )
    ]

pub bit_alike : (shape : FileShape) (taken : List Resource) (start now first shown : Image) → AreBoth shape taken start now first shown → (b : Place) (r : Resource) → b.page < shape.pages → b.at < 63904 →
    bit_guard shape.geometry shape.pages b.page b.at ≡ Some r →
    Alike (map_bit (page start b.page) b.at) (map_bit (page now b.page) b.at) (map_bit (page first b.page) b.at) (map_bit (page shown b.page) b.at)
bit_alike shape taken start now first shown both b r lt low guard = elim (cases_Bool (is_among taken r)) [
  | inl mine ↦ inl (
    agreed_bit shape r b (page first b.page) (page start b.page) low guard (both.before r mine b.page),
    agreed_bit shape r b (page shown b.page) (page now b.page) low guard (both.after r mine b.page),
  )
  | inr free ↦ inr (
    stayed_bit shape taken start now both.seen both.moved b r lt low guard free,
    stayed_bit shape taken first shown both.told both.written b r lt low guard free,
  )
]

-- a page whose bytes all have one guard
pub page_alike : (shape : FileShape) (taken : List Resource) (start now first shown : Image) → AreBoth shape taken start now first shown → (p : ℕ) (r : Resource) → p < shape.pages →
    ((i : ℕ) → byte_guard shape.geometry shape.pages p i ≡ Some r) → Alike (page start p) (page now p) (page first p) (page shown p)
page_alike shape taken start now first shown both p r lt guard =
    let seen = both.seen in
    let told = both.told in
    let a = whole_page shape start now seen p lt in
    let b = whole_page shape first shown told p lt in
    elim (cases_Bool (is_among taken r)) [
      | inl mine ↦ inl (
        ext_get_or 0 (page start p) (page first p) (a.old ∙ sym b.old)
            (λ i here. agreed_byte shape r p i (page first p) (page start p) (told.old_bytes p) (seen.old_bytes p) (subst (λ n. i < n) a.old here) (guard i) (both.before r mine p)),
        ext_get_or 0 (page now p) (page shown p) (a.new ∙ sym b.new)
            (λ i here. agreed_byte shape r p i (page shown p) (page now p) (told.new_bytes p) (seen.new_bytes p) (subst (λ n. i < n) a.new here) (guard i) (both.after r mine p)),
      )
      | inr free ↦ inr (
        ext_get_or 0 (page start p) (page now p) (a.old ∙ sym a.new)
            (λ i here. stayed_byte shape taken start now seen both.moved p i r lt (subst (λ n. i < n) a.old here) (guard i) free),
        ext_get_or 0 (page first p) (page shown p) (b.old ∙ sym b.new)
            (λ i here. stayed_byte shape taken first shown told both.written p i r lt (subst (λ n. i < n) b.old here) (guard i) free),
      )
    ]

-- what is alike differs alike
pub record DifferAlike (s n f w : ℕ) : Type 0 where
  pub test : not (eqb s n) ≡ not (eqb f w)
  pub was : not (eqb s n) ≡ true → s ≡ f
  pub is : not (eqb s n) ≡ true → n ≡ w

pub differ_alike : (s n f w : ℕ) → Alike s n f w → DifferAlike s n f w
differ_alike s n f w (inl h) = record { test = ap (λ x. not (eqb x n)) h.0 ∙ ap (λ x. not (eqb f x)) h.1; was = λ d. h.0; is = λ d. h.1 }
differ_alike s n f w (inr h) =
    let stays = ap not (eq-eqb s n h.0) in
    record {
      test = stays ∙ sym (ap not (eq-eqb f w h.1));
      was = λ d. absurd (false≢true (sym stays ∙ d));
      is = λ d. absurd (false≢true (sym stays ∙ d));
    }

never : (b : Bool) → (not b && b) ≡ false
never true = refl
never false = refl

never_more : (b : Bool) → (b && not b) ≡ false
never_more true = refl
never_more false = refl

pub rises_alike : {A : Type 0} (t : A → Bool) (s n f w : A) → Alike s n f w → (not (t s) && t n) ≡ (not (t f) && t w)
rises_alike t s n f w (inl h) = ap (λ x. not (t x) && t n) h.0 ∙ ap (λ x. not (t f) && t x) h.1
rises_alike t s n f w (inr h) = ap (λ x. not (t x) && t n) h.0 ∙ never (t n) ∙ sym (ap (λ x. not (t x) && t w) h.1 ∙ never (t w))

pub falls_alike : {A : Type 0} (t : A → Bool) (s n f w : A) → Alike s n f w → (t s && not (t n)) ≡ (t f && not (t w))
falls_alike t s n f w (inl h) = ap (λ x. t x && not (t n)) h.0 ∙ ap (λ x. t f && not (t x)) h.1
falls_alike t s n f w (inr h) = ap (λ x. t x && not (t n)) h.0 ∙ never_more (t n) ∙ sym (ap (λ x. t x && not (t w)) h.1 ∙ never_more (t w))
