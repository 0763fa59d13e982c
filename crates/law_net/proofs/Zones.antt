-- Where the net changes stand, what guards each place there, and that each guarded difference stands there.
use Rattle.std.proofs.Common.{◌≡◌, ℕ, ◌+◌, ◌-◌, ◌*◌, ◌/◌, ◌%◌, ◌<◌, ◌≤◌, Bool, true, false, eqb, ltb, leb, not, ◌&&◌, [], Option, Some, None, ◌⊎◌, inl, inr, refl, sym, ap, ◌∙◌, subst, arith}
use Rattle.std.specs.Prelude.{if◌then◌else◌, IsSomeAnd, slice_index, bytes_eq}
use Rattle.std.specs.Int.{bit_at}
use Rattle.std.proofs.lemmas.Bool.{cases_Bool, cases_eq, cases_lt, and_parts, and_from, eqb-true, eq-eqb, ne_eqb, lt-ltb, ltb-true, leb-true, not_from_false, false_from_ne_true}
use Rattle.std.proofs.lemmas.Nat.Bits.{bit_at_above}
use Rattle.spec_file.specs.declared.data.Resource.{Resource}
use Rattle.spec_file.specs.declared.data.Resource.TheVariants as resource
use Rattle.spec_file.specs.declared.geometry.Geometry.{Geometry}
use Rattle.spec_file.specs.declared.geometry.Geometry.TheVariants.{Standard, Small}
use Rattle.spec_file.specs.declared.role.Role.{Role}
use Rattle.spec_file.specs.declared.role.Role.TheVariants as role
use Rattle.spec_file.specs.Image.{Image, page, maps_start}
use Rattle.spec_file.specs.Places.{Place, HasShape, interval_size, interval_of_page, gam_page, sgam_page, gam_place, sgam_place, pfs_span, pfs_page, pfs_place}
use Rattle.spec_file.specs.Roles.{role_of, is_ordinary, is_for_objects, is_pfs_page, is_gam_page, is_sgam_page, is_system_extent}
use Rattle.spec_log.specs.Items.{grain_of, number_of}
use Rattle.spec_log.specs.Cells.{map_bit}
use Rattle.spec_log.specs.Cover.{byte_guard, byte_guard_by, bit_guard, bit_guard_by, extent_at, paged_at}
use Rattle.law_cover.proofs.Places.{extents_guard_bits, pages_guard_bytes}
use Rattle.law_cover.proofs.Pages.{pages_guard_themselves, catalog_guards_boot}
use Rattle.law_undo.proofs.Atoms.{read}
use Rattle.law_undo.proofs.Reading.{IsInside}
use Rattle.law_undo.proofs.Guards.{no_byte_guard}
use Rattle.spec_words.specs.NetChanges.{FileShape, is_turned, is_byte_changed, begins_run, is_page_changed, is_iam}
use Rattle.law_net.proofs.Cuts.{place, Zone, Or, InRange}
use Rattle.law_net.proofs.Cells.{IsBit, IsSpan, SameByte}
use Rattle.law_net.proofs.Runs.{IsRun, speaks, begun, in_run}
use Rattle.law_net.specs.Files.{DifferOnlyAt}
use Rattle.law_net.proofs.Images.{AreImages}
use lib.Pointwise.{bytes_decides}

-- the six parts
abbrev pub Bits : (ℕ → Place) → FileShape → Image → Image → Zone
Bits bit_of shape start now = InRange (λ e. is_turned start now (bit_of e)) (λ e. IsBit (bit_of e)) (shape.pages / 8) 0

abbrev pub Pfs : FileShape → Image → Image → Zone
Pfs shape start now = InRange (begins_run shape.geometry start now) (IsRun shape.geometry start now) shape.pages 0

abbrev pub Iams : FileShape → Image → Image → Zone
Iams shape start now = InRange (λ p. is_page_changed shape.geometry start now p && is_iam now p) (λ p. IsSpan p 0 8192) shape.pages 0

abbrev pub Others : FileShape → Image → Image → Zone
Others shape start now = InRange (λ p. is_page_changed shape.geometry start now p && not (is_iam now p)) (λ p. IsSpan p 0 8192) shape.pages 0

abbrev pub AnyPart : FileShape → Image → Image → Zone
AnyPart shape start now =
    Or (Bits (gam_place shape.geometry) shape start now) (Or (Bits (sgam_place shape.geometry) shape start now)
    (Or (Pfs shape start now) (Or (Iams shape start now) (Or (IsSpan 9 0 8192) (Others shape start now)))))

-- what guards a place there
pub record BitGuarded (g : Geometry) (pages p i j n : ℕ) : Type 0 where
  pub by : Resource
  pub is : bit_guard g pages p (8 * (i - maps_start) + j) ≡ Some by
  pub numbered : number_of by ≡ n

pub record ByteGuarded (g : Geometry) (pages p i k n : ℕ) : Type 0 where
  pub by : Resource
  pub is : byte_guard g pages p i ≡ Some by
  pub grained : grain_of by ≡ k
  pub numbered : number_of by ≡ n

abbrev grain_in : Option Resource → ℕ
grain_in None = 0
grain_in (Some r) = grain_of r

abbrev number_in : Option Resource → ℕ
number_in None = 0
number_in (Some r) = number_of r

pub bits_and_bytes : (g : Geometry) (pages p i j m k n : ℕ) → BitGuarded g pages p i j m → ByteGuarded g pages p i k n → ⊥
bits_and_bytes g pages p i j m k n a b = none_some b.by (sym (no_byte_guard g pages p (8 * (i - maps_start) + j) i a.by a.is) ∙ b.is)
  where
    none_some : (r : Resource) → None ≡ Some r → ⊥
    none_some r e = cc

pub same_grain : (g : Geometry) (pages p i k l m n : ℕ) → ByteGuarded g pages p i k m → ByteGuarded g pages p i l n → k ≡ l
same_grain g pages p i k l m n a b = sym a.grained ∙ ap grain_in (sym a.is ∙ b.is) ∙ b.grained

pub same_byte_number : (g : Geometry) (pages p i k l m n : ℕ) → ByteGuarded g pages p i k m → ByteGuarded g pages p i l n → m ≡ n
same_byte_number g pages p i k l m n a b = sym a.numbered ∙ ap number_in (sym a.is ∙ b.is) ∙ b.numbered

pub same_bit_number : (g : Geometry) (pages p i j m n : ℕ) → BitGuarded g pages p i j m → BitGuarded g pages p i j n → m ≡ n
same_bit_number g pages p i j m n a b = sym a.numbered ∙ ap number_in (sym a.is ∙ b.is) ∙ b.numbered

-- a bit of a map, by its byte and its bit
pub bit_number : (at : ℕ) → 8 * (maps_start + at / 8 - maps_start) + at % 8 ≡ at
bit_number at = omega arith

pub bit_place : (g : Geometry) (pages : ℕ) (b : Place) (e p i j : ℕ) → IsBit b p i j → bit_guard g pages b.page b.at ≡ Some (resource.Extent (record { 0 = e })) → BitGuarded g pages p i j e
bit_place g pages b e p i j z is = record {
  by = resource.Extent (record { 0 = e });
  is = ap (λ q. bit_guard g pages q (8 * (i - maps_start) + j)) z.page ∙ ap (λ k. bit_guard g pages b.page (8 * (k - maps_start) + j)) z.byte
      ∙ ap (λ k. bit_guard g pages b.page (8 * (maps_start + b.at / 8 - maps_start) + k)) z.bit ∙ ap (bit_guard g pages b.page) (bit_number b.at) ∙ is;
  numbered = refl;
}

pub gam_bit : (shape : FileShape) → HasShape shape.geometry shape.pages → (e p i j : ℕ) → e < shape.pages / 8 → IsBit (gam_place shape.geometry e) p i j → BitGuarded shape.geometry shape.pages p i j e
gam_bit shape file e p i j lt z =
    bit_place shape.geometry shape.pages (gam_place shape.geometry e) e p i j z (extents_guard_bits shape.geometry shape.pages e file.low file.high lt).0

pub sgam_bit : (shape : FileShape) → HasShape shape.geometry shape.pages → (e p i j : ℕ) → e < shape.pages / 8 → IsBit (sgam_place shape.geometry e) p i j →
    BitGuarded shape.geometry shape.pages p i j e
sgam_bit shape file e p i j lt z =
    bit_place shape.geometry shape.pages (sgam_place shape.geometry e) e p i j z (extents_guard_bits shape.geometry shape.pages e file.low file.high lt).1

pub run_byte : (shape : FileShape) (start now : Image) → HasShape shape.geometry shape.pages → (x p i j : ℕ) → x < shape.pages → IsRun shape.geometry start now x p i j →
    (q : ℕ) × ByteGuarded shape.geometry shape.pages p i 4 q
run_byte shape start now file x p i j lt z =
    let s = speaks shape.geometry start now x p i j z in
    let eights = file.whole in
    let extent = s.extent in (
      s.of,
      record {
        by = resource.Byte (record { 0 = s.of });
        is = ap (λ q. byte_guard shape.geometry shape.pages q i) s.page ∙ ap (byte_guard shape.geometry shape.pages (pfs_page shape.geometry s.of)) s.at
            ∙ pages_guard_bytes shape.geometry shape.pages s.of file.low (omega (arith, eights, extent, lt));
        grained = refl;
        numbered = refl;
      },
    )

pub page_byte : (shape : FileShape) → (x p i j : ℕ) → x < shape.pages → is_ordinary shape.geometry x ≡ true → IsSpan x 0 8192 p i j → ByteGuarded shape.geometry shape.pages p i 5 x
page_byte shape x p i j lt ordinary z = record {
  by = resource.Page (record { 0 = x });
  is = ap (λ q. byte_guard shape.geometry shape.pages q i) z.page ∙ pages_guard_themselves shape.geometry shape.pages x i lt ordinary;
  grained = refl;
  numbered = refl;
}

pub boot_byte : (shape : FileShape) → HasShape shape.geometry shape.pages → (p i j : ℕ) → IsSpan 9 0 8192 p i j → ByteGuarded shape.geometry shape.pages p i 1 0
boot_byte shape file p i j z =
    let low = file.low in
    record {
      by = resource.Catalog;
      is = ap (λ q. byte_guard shape.geometry shape.pages q i) z.page ∙ catalog_guards_boot shape.geometry shape.pages i (omega (arith, low));
      grained = refl;
      numbered = refl;
    }

-- GAM and SGAM pages are others
pub no_both_maps : (g : Geometry) (m n : ℕ) → gam_page g m ≡ sgam_page g n → ⊥
no_both_maps Standard m n e = apart_standard (eqb m 0) (eqb n 0) m n e
  where
    apart_standard : (a b : Bool) (m n : ℕ) → (if a then 2 else 8 * 63904 * m) ≡ (if b then 2 else 8 * 63904 * n) + 1 → ⊥
    apart_standard true true m n e = omega (arith, e)
    apart_standard true false m n e = omega (arith, e)
    apart_standard false true m n e = omega (arith, e)
    apart_standard false false m n e = omega (arith, e)
no_both_maps Small m n e = apart_small (eqb m 0) (eqb n 0) m n e
  where
    apart_small : (a b : Bool) (m n : ℕ) → (if a then 2 else 8 * 64 * m) ≡ (if b then 2 else 8 * 64 * n) + 1 → ⊥
    apart_small true true m n e = omega (arith, e)
    apart_small true false m n e = omega (arith, e)
    apart_small false true m n e = omega (arith, e)
    apart_small false false m n e = omega (arith, e)

-- what a role says of its page
abbrev Says : Bool → Bool → Bool → Bool → Role → Type 0
Says pfs gam sgam boot role.Pfs = pfs ≡ true
Says pfs gam sgam boot role.Gam = gam ≡ true
Says pfs gam sgam boot role.Sgam = sgam ≡ true
Says pfs gam sgam boot role.Boot = boot ≡ true
Says pfs gam sgam boot role.FileHeader = Unit {0}
Says pfs gam sgam boot role.Reserved = Unit {0}
Says pfs gam sgam boot role.Ordinary = Unit {0}

says_it : (a b c d e f : Bool) → Says b c d e (if a then role.FileHeader else (if b then role.Pfs else (if c then role.Gam else (if d then role.Sgam else (if e then role.Boot else (if f then role.Reserved else role.Ordinary))))))
says_it true b c d e f = tt
says_it false true c d e f = refl
says_it false false true d e f = refl
says_it false false false true e f = refl
says_it false false false false true f = refl
says_it false false false false false true = tt
says_it false false false false false false = tt

role_says : (g : Geometry) (p : ℕ) (r : Role) → role_of g p ≡ r → Says (is_pfs_page g p) (is_gam_page g p) (is_sgam_page g p) (eqb p 9) r
role_says g p r e =
    subst (Says (is_pfs_page g p) (is_gam_page g p) (is_sgam_page g p) (eqb p 9)) e
    (says_it (eqb p 0) (is_pfs_page g p) (is_gam_page g p) (is_sgam_page g p) (eqb p 9) (is_system_extent g (p / 8)))

-- from a byte of a PFS page back to the page that it speaks of
pub record IsPfsOf (g : Geometry) (p i q : ℕ) : Type 0 where
  pub page : p ≡ pfs_page g q
  pub at : i ≡ (pfs_place g q).at

pfs_back : (g : Geometry) (p i : ℕ) → p ≡ pfs_page g p → maps_start ≤ i → i - maps_start < pfs_span g → IsPfsOf g p i (paged_at p i)
pfs_back Standard p i own low high = elim (cases_eq (p / 8088) 0) [
  | inl none ↦
      let one : p ≡ 1 = own ∙ ap (λ b. if b then 1 else 8088 * (p / 8088)) (eq-eqb (p / 8088) 0 none) in
      let speaks_of : paged_at p i ≡ i - 96 = ap (λ b. (if b then 0 else p) + (i - 96)) (eq-eqb p 1 one) ∙ omega arith in
      subst (IsPfsOf Standard p i) (sym speaks_of)
      (record { page = one ∙ sym (ap (λ b. if b then 1 else 8088 * ((i - 96) / 8088)) (eq-eqb ((i - 96) / 8088) 0 (omega (arith, high)))); at = omega (arith, low, high) })
  | inr some ↦
      let whole : p ≡ 8088 * (p / 8088) = own ∙ ap (λ b. if b then 1 else 8088 * (p / 8088)) (ne_eqb (p / 8088) 0 some) in
      let speaks_of : paged_at p i ≡ p + (i - 96) = ap (λ b. (if b then 0 else p) + (i - 96)) (ne_eqb p 1 (λ e. omega (arith, e, whole))) in
      let same : (p + (i - 96)) / 8088 ≡ p / 8088 = omega (arith, whole, high) in
      subst (IsPfsOf Standard p i) (sym speaks_of) (record { page = own ∙ sym (ap (λ n. if eqb n 0 then 1 else 8088 * n) same); at = omega (arith, low, high, whole) })
]
pfs_back Small p i own low high = elim (cases_eq (p / 88) 0) [
  | inl none ↦
      let one : p ≡ 1 = own ∙ ap (λ b. if b then 1 else 88 * (p / 88)) (eq-eqb (p / 88) 0 none) in
      let speaks_of : paged_at p i ≡ i - 96 = ap (λ b. (if b then 0 else p) + (i - 96)) (eq-eqb p 1 one) ∙ omega arith in
      subst (IsPfsOf Small p i) (sym speaks_of)
      (record { page = one ∙ sym (ap (λ b. if b then 1 else 88 * ((i - 96) / 88)) (eq-eqb ((i - 96) / 88) 0 (omega (arith, high)))); at = omega (arith, low, high) })
  | inr some ↦
      let whole : p ≡ 88 * (p / 88) = own ∙ ap (λ b. if b then 1 else 88 * (p / 88)) (ne_eqb (p / 88) 0 some) in
      let speaks_of : paged_at p i ≡ p + (i - 96) = ap (λ b. (if b then 0 else p) + (i - 96)) (ne_eqb p 1 (λ e. omega (arith, e, whole))) in
      let same : (p + (i - 96)) / 88 ≡ p / 88 = omega (arith, whole, high) in
      subst (IsPfsOf Small p i) (sym speaks_of) (record { page = own ∙ sym (ap (λ n. if eqb n 0 then 1 else 88 * n) same); at = omega (arith, low, high, whole) })
]

-- from a bit of a map page back to its extent
interval_back : (g : Geometry) (m n : ℕ) → n < interval_size g → ((interval_size g * m + n) / interval_size g ≡ m) × ((interval_size g * m + n) % interval_size g ≡ n)
interval_back Standard m n lt = (omega (arith, lt), omega (arith, lt))
interval_back Small m n lt = (omega (arith, lt), omega (arith, lt))

if_some : (P : Resource → Type 0) (b : Bool) (r : Resource) → IsSomeAnd (if b then Some r else None) P → (b ≡ true) × P r
if_some P true r h = (refl, h)
if_some P false r h = elim h [ ]

in_bits : (shape : FileShape) (start now : Image) (bit_of : ℕ → Place) (e p i j : ℕ) → maps_start ≤ i → j < 8 → e < shape.pages / 8 → (bit_of e).page ≡ p → (bit_of e).at ≡ 8 * (i - maps_start) + j →
    (read start (place p i j) ≡ read now (place p i j) → ⊥) → Bits bit_of shape start now p i j
in_bits shape start now bit_of e p i j low small lt page_is at_is differ = record {
  at = e;
  low = omega arith;
  high = omega (arith, lt);
  passes = not_from_false _ (ne_eqb _ _ (λ same. differ (read_is start ∙ same ∙ sym (read_is now))));
  in_zone = record { page = sym page_is; byte = byte_is; bit = bit_is };
}
  where
    byte_is : i ≡ maps_start + (bit_of e).at / 8
    byte_is = omega (arith, low, small, at_is)

    bit_is : j ≡ (bit_of e).at % 8
    bit_is = omega (arith, low, small, at_is)

    read_is : (image : Image) → read image (place p i j) ≡ map_bit (page image (bit_of e).page) (bit_of e).at
    read_is image =
        ap (λ q. bit_at (slice_index (page image q) i) j) (sym page_is) ∙ ap (λ k. bit_at (slice_index (page image (bit_of e).page) k) j) byte_is
        ∙ ap (λ k. bit_at (slice_index (page image (bit_of e).page) (maps_start + (bit_of e).at / 8)) k) bit_is

bit_zone : (P : Resource → Type 0) (shape : FileShape) (start now : Image) (p i j : ℕ) (r : Role) → role_of shape.geometry p ≡ r → maps_start ≤ i → j < 8 →
    IsSomeAnd (bit_guard_by r shape.geometry shape.pages p (8 * (i - maps_start) + j)) P → (read start (place p i j) ≡ read now (place p i j) → ⊥) → AnyPart shape start now p i j
bit_zone P shape start now p i j role.Gam e low small h differ =
    let g = shape.geometry in
    let n = 8 * (i - maps_start) + j in
    let both = (if_some P (ltb n (interval_size g) && ltb (extent_at g p n) (shape.pages / 8)) (resource.Extent (record { 0 = extent_at g p n })) h).0 in
    let parts = and_parts (ltb n (interval_size g)) (ltb (extent_at g p n) (shape.pages / 8)) both in
    let back = interval_back g (interval_of_page g p) n (ltb-true n (interval_size g) parts.0) in
    inl (in_bits shape start now (gam_place g) (extent_at g p n) p i j low small (ltb-true (extent_at g p n) (shape.pages / 8) parts.1)
    (ap (gam_page g) back.0 ∙ sym (eqb-true p (gam_page g (interval_of_page g p)) (role_says g p role.Gam e))) back.1 differ)
bit_zone P shape start now p i j role.Sgam e low small h differ =
    let g = shape.geometry in
    let n = 8 * (i - maps_start) + j in
    let both = (if_some P (ltb n (interval_size g) && ltb (extent_at g p n) (shape.pages / 8)) (resource.Extent (record { 0 = extent_at g p n })) h).0 in
    let parts = and_parts (ltb n (interval_size g)) (ltb (extent_at g p n) (shape.pages / 8)) both in
    let back = interval_back g (interval_of_page g p) n (ltb-true n (interval_size g) parts.0) in
    inr (inl (in_bits shape start now (sgam_place g) (extent_at g p n) p i j low small (ltb-true (extent_at g p n) (shape.pages / 8) parts.1)
    (ap (sgam_page g) back.0 ∙ sym (eqb-true p (sgam_page g (interval_of_page g p)) (role_says g p role.Sgam e))) back.1 differ))
bit_zone P shape start now p i j role.Pfs e low small h differ = absurd h
bit_zone P shape start now p i j role.Boot e low small h differ = absurd h
bit_zone P shape start now p i j role.Ordinary e low small h differ = absurd h
bit_zone P shape start now p i j role.FileHeader e low small h differ = absurd h
bit_zone P shape start now p i j role.Reserved e low small h differ = absurd h

in_pfs : (shape : FileShape) (start now : Image) (p i j q : ℕ) → HasShape shape.geometry shape.pages → q < shape.pages → IsPfsOf shape.geometry p i q →
    (SameByte start now p i → ⊥) → Pfs shape start now p i j
in_pfs shape start now p i j q file lt is differ =
    let g = shape.geometry in
    let changes : is_byte_changed g start now q ≡ true =
    not_from_false _ (ne_eqb _ _ (λ same. differ (byte_is start ∙ same ∙ sym (byte_is now)))) in
    let b = begun g start now q changes in
    let low = b.low in
    record {
      at = b.first;
      low = omega arith;
      high = omega (arith, low, lt);
      passes = b.begins;
      in_zone = subst (λ k. IsRun g start now b.first p k j) (sym is.at) (subst (λ k. IsRun g start now b.first k (pfs_place g q).at j) (sym is.page) (in_run g start now q j b));
    }
  where
    byte_is : (image : Image) → slice_index (page image p) i ≡ slice_index (page image (pfs_page shape.geometry q)) (pfs_place shape.geometry q).at
    byte_is image = ap (λ k. slice_index (page image k) i) is.page ∙ ap (slice_index (page image (pfs_page shape.geometry q))) is.at

in_pages : (shape : FileShape) (start now : Image) (p i j : ℕ) → p < shape.pages → i < 8192 → is_ordinary shape.geometry p ≡ true → (SameByte start now p i → ⊥) →
    (Iams shape start now p i j) ⊎ (Others shape start now p i j)
in_pages shape start now p i j lt small ordinary differ =
    let differs : is_page_changed shape.geometry start now p ≡ true =
    and_from (is_ordinary shape.geometry p) (not (bytes_eq (page start p) (page now p))) ordinary
    (not_from_false (bytes_eq (page start p) (page now p))
    (false_from_ne_true (bytes_eq (page start p) (page now p)) (λ e. differ (ap (λ bytes. slice_index bytes i) ((bytes_decides (page start p) (page now p)).0 e))))) in
    elim (cases_Bool (is_iam now p)) [
      | inl iam ↦ inl (record {
        at = p;
        low = omega arith;
        high = omega (arith, lt);
        passes = and_from (is_page_changed shape.geometry start now p)
            (is_iam now p) differs iam;
        in_zone = record { page = refl; low = omega arith; high = small };
      })
      | inr other ↦ inr (record {
        at = p;
        low = omega arith;
        high = omega (arith, lt);
        passes = and_from (is_page_changed shape.geometry start now p)
            (not (is_iam now p)) differs (not_from_false (is_iam now p) other);
        in_zone = record { page = refl; low = omega arith; high = small };
      })
    ]

byte_zone : (P : Resource → Type 0) (shape : FileShape) (start now : Image) (p i j : ℕ) (r : Role) → HasShape shape.geometry shape.pages → role_of shape.geometry p ≡ r → p < shape.pages → i < 8192 →
    IsSomeAnd (byte_guard_by r shape.geometry shape.pages p i) P → (SameByte start now p i → ⊥) → AnyPart shape start now p i j
byte_zone P shape start now p i j role.Pfs file e lt small h differ =
    let g = shape.geometry in
    let all = (if_some P (leb maps_start i && ltb (i - maps_start) (pfs_span g) && ltb (paged_at p i) shape.pages) (resource.Byte (record { 0 = paged_at p i })) h).0 in
    let a = and_parts (leb maps_start i && ltb (i - maps_start) (pfs_span g)) (ltb (paged_at p i) shape.pages) all in
    let b = and_parts (leb maps_start i) (ltb (i - maps_start) (pfs_span g)) a.0 in
    inr (inr (inl (in_pfs shape start now p i j (paged_at p i) file (ltb-true (paged_at p i) shape.pages a.1)
    (pfs_back g p i (eqb-true p (pfs_page g p) (role_says g p role.Pfs e)) (leb-true maps_start i b.0) (ltb-true (i - maps_start) (pfs_span g) b.1)) differ)))
byte_zone P shape start now p i j role.Boot file e lt small h differ =
    inr (inr (inr (inr (inl (record { page = eqb-true p 9 (role_says shape.geometry p role.Boot e); low = omega arith; high = small })))))
byte_zone P shape start now p i j role.Ordinary file e lt small h differ =
    elim (in_pages shape start now p i j lt small (ap is_for_objects e) differ) [ inl a ↦ inr (inr (inr (inl a))) | inr b ↦ inr (inr (inr (inr (inr b)))) ]
byte_zone P shape start now p i j role.Gam file e lt small h differ = absurd h
byte_zone P shape start now p i j role.Sgam file e lt small h differ = absurd h
byte_zone P shape start now p i j role.FileHeader file e lt small h differ = absurd h
byte_zone P shape start now p i j role.Reserved file e lt small h differ = absurd h

-- each difference stands in a part
pub all_in_zones : (P : Resource → Type 0) (shape : FileShape) (start now : Image) → AreImages shape start now → DifferOnlyAt P shape start now → (p i j : ℕ) → IsInside (place p i j) start →
    (read start (place p i j) ≡ read now (place p i j)) ⊎ AnyPart shape start now p i j
all_in_zones P shape start now images differ p i j inside = elim (cases_eq (read start (place p i j)) (read now (place p i j))) [
  | inl same ↦ inl same
  | inr other ↦ elim (cases_lt j 8) [
    | inr high ↦ inl (bit_at_above (slice_index (page start p) i) 8 j (images.old_bytes p i) high ∙ sym (bit_at_above (slice_index (page now p) i) 8 j (images.new_bytes p i) high))
    | inl low ↦
        let g = shape.geometry in
        let lt : p < shape.pages = subst (λ n. p < n) images.old_pages inside.page_in in
        let small : i < 8192 = subst (λ n. i < n) (images.old_whole p [] inside.page_in) inside.byte_in in
        let there = lt-ltb p shape.pages lt in
        inr (elim (differ p i j lt small low other) [
          | inl byte ↦ byte_zone P shape start now p i j (role_of g p) images.file refl lt small
              (subst (λ b. IsSomeAnd (if b then byte_guard_by (role_of g p) g shape.pages p i else None) P) there byte) (λ s. other (ap (λ v. bit_at v j) s))
          | inr bit ↦ bit_zone P shape start now p i j (role_of g p) refl bit.0 low
              (subst (λ b. IsSomeAnd (if b then bit_guard_by (role_of g p) g shape.pages p (8 * (i - maps_start) + j) else None) P) there bit.1) other
        ])
  ]
]
