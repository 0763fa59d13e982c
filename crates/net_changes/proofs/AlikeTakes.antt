-- What counts of what was taken is the same as seen and as shown.
use Rattle.std.proofs.Common.{◌≡◌, ℕ, ◌+◌, ◌-◌, ◌<◌, ◌≤◌, Bool, true, false, leb, ltb, not, ◌&&◌, List, [], length, Option, Some, None, inl, inr, refl, sym, ap, ◌∙◌, subst, arith}
use Rattle.std.specs.Prelude.{if◌then◌else◌, IsSomeAnd, slice_index, bytes_eq}
use Rattle.std.specs.Coded.{Coded-set, coded_ℕ}
use Rattle.std.specs.Int.{bit_at}
use Rattle.std.proofs.Math.Logic.{∥∥₁_elim}
use Rattle.std.proofs.lemmas.Bool.{cases_eq, cases_lt, and_right, le-ltb, eq-eqb}
use Rattle.std.proofs.lemmas.List.{get_or_past}
use Rattle.std.proofs.lemmas.List.Elements.{filter_agree}
use Rattle.std.proofs.lemmas.Nat.Bits.{same_from_bits_below}
use Rattle.spec_file.specs.declared.data.Resource.{Resource}
use Rattle.spec_file.specs.declared.data.Resource.TheVariants as resource
use Rattle.spec_file.specs.declared.geometry.Geometry.{Geometry}
use Rattle.spec_file.specs.declared.role.Role.{Role}
use Rattle.spec_file.specs.declared.role.Role.TheVariants as role
use Rattle.spec_file.specs.Image.{Image, page, maps_start}
use Rattle.spec_file.specs.Places.{pfs_page, pfs_place, pfs_span}
use Rattle.spec_file.specs.Roles.{role_of, is_ordinary}
use Rattle.spec_log.specs.Cover.{byte_guard, byte_guard_by, bit_guard, bit_guard_by, paged_at}
use Rattle.law_cover.proofs.Places.{pages_guard_bytes}
use Rattle.spec_words.specs.NetChanges.{FileShape, is_byte_changed, is_page_changed}
use Rattle.spec_words.specs.Takes.{is_among, in_order, counts, takes_of}
use Rattle.law_net.specs.Files.{DifferUnder, IsGuardedBy}
use Rattle.law_net.proofs.Cells.{SameByte}
use Rattle.law_net.proofs.Fits.{low_byte}
use Rattle.law_net.proofs.Images.{AreImages}
use Rattle.law_net.proofs.Runs.{paged_place}
use Rattle.net_changes.proofs.Alike.{AreBoth}
use Rattle.net_changes.proofs.AlikeBytes.{changed_alike}
use Rattle.net_changes.proofs.AlikePages.{changed_page}

-- ---- a byte that speaks of no page of the file has no guard

pub record IsFree (shape : FileShape) (p i : ℕ) : Type 0 where
  pub byte : byte_guard shape.geometry shape.pages p i ≡ None
  pub bits : (n : ℕ) → bit_guard shape.geometry shape.pages p n ≡ None

none_inside : (b : Bool) (o : Option Resource) → o ≡ None → (if b then o else None) ≡ None
none_inside true o e = e
none_inside false o e = refl

some_inside : (b : Bool) (o : Option Resource) (r : Resource) → (if b then o else None) ≡ Some r → o ≡ Some r
some_inside true o r e = e
some_inside false o r e = absurd (cc)

free_by : (ro : Role) (g : Geometry) (more pages q i p : ℕ) → byte_guard_by ro g more q i ≡ Some (resource.Byte (record { 0 = p })) → paged_at q i ≡ p → pages ≤ p →
    (byte_guard_by ro g pages q i ≡ None) × ((n : ℕ) → bit_guard_by ro g pages q n ≡ None)
free_by role.Pfs g more pages q i p guard speaks past = (
  ap (λ b. if b then Some (resource.Byte (record { 0 = paged_at q i })) else None)
      (and_right (leb maps_start i && ltb (i - maps_start) (pfs_span g)) (ltb (paged_at q i) pages) (le-ltb (paged_at q i) pages (omega (arith, speaks, past)))),
  λ n. refl,
)
free_by role.Boot g more pages q i p guard speaks past = absurd (cc)
free_by role.Ordinary g more pages q i p guard speaks past = absurd (cc)
free_by role.FileHeader g more pages q i p guard speaks past = absurd (cc)
free_by role.Gam g more pages q i p guard speaks past = absurd (cc)
free_by role.Sgam g more pages q i p guard speaks past = absurd (cc)
free_by role.Reserved g more pages q i p guard speaks past = absurd (cc)

past_is_free : (shape : FileShape) (p : ℕ) → shape.pages ≤ p → IsFree shape (pfs_page shape.geometry p) (pfs_place shape.geometry p).at
past_is_free shape p past =
    let g = shape.geometry in
    let q = pfs_page g p in
    let i = (pfs_place g p).at in
    let more = p + 16 in
    let by = free_by (role_of g q) g more shape.pages q i p
    (some_inside (ltb q more) (byte_guard_by (role_of g q) g more q i) (resource.Byte (record { 0 = p })) (pages_guard_bytes g more p (omega arith) (omega arith))) (paged_place g p) past in
    record { byte = none_inside (ltb q shape.pages) _ by.0; bits = λ n. none_inside (ltb q shape.pages) _ (by.1 n) }

free_stays : (shape : FileShape) (taken : List Resource) (a b : Image) → AreImages shape a b → ∥ DifferUnder shape taken a b ∥₁ → (p i : ℕ) → p < shape.pages → i < 8192 → IsFree shape p i → SameByte a b p i
free_stays shape taken a b images under p i lt small free =
    same_from_bits_below 8 (slice_index (page a p) i) (slice_index (page b p) i) (images.old_bytes p i) (images.new_bytes p i)
    (λ j low. elim (cases_eq (bit_at (slice_index (page a p) i) j) (bit_at (slice_index (page b p) i) j)) [
      | inl same ↦ same
      | inr other ↦ ∥∥₁_elim under (Coded-set coded_ℕ _ _) (λ m. absurd (unguarded j (m p i j lt small low other)))
    ])
  where
    empty : (P : Resource → Type 0) → IsSomeAnd None P → ⊥
    empty P h = elim h [ ]

    unguarded : (j : ℕ) → IsGuardedBy (λ r. is_among taken r ≡ true) shape p i j → ⊥
    unguarded j (inl h) = empty (λ r. is_among taken r ≡ true) (subst (λ o. IsSomeAnd o (λ r. is_among taken r ≡ true)) free.byte h)
    unguarded j (inr h) = empty (λ r. is_among taken r ≡ true) (subst (λ o. IsSomeAnd o (λ r. is_among taken r ≡ true)) (free.bits _) h.1)

-- ---- so it stays

past_page : (shape : FileShape) (image : Image) (p : ℕ) → length image ≡ shape.pages → shape.pages ≤ p → page image p ≡ []
past_page shape image p count past = get_or_past image p [] (subst (λ n. n ≤ p) (sym count) past)

pub past_byte : (shape : FileShape) (taken : List Resource) (a b : Image) → AreImages shape a b → ∥ DifferUnder shape taken a b ∥₁ → (p : ℕ) → shape.pages ≤ p → is_byte_changed shape.geometry a b p ≡ false
past_byte shape taken a b images under p past =
    let g = shape.geometry in
    let q = pfs_page g p in
    let i = (pfs_place g p).at in
    ap not (eq-eqb (slice_index (page a q) i) (slice_index (page b q) i) (elim (cases_lt q shape.pages) [
      | inl lt ↦ free_stays shape taken a b images under q i lt (low_byte g p) (past_is_free shape p past)
      | inr ge ↦ ap (λ xs. slice_index xs i) (past_page shape a q images.old_pages ge ∙ sym (past_page shape b q images.new_pages ge))
    ]))

-- ---- what counts

byte_counts : (shape : FileShape) (taken : List Resource) (start now first shown : Image) → AreBoth shape taken start now first shown → (p : ℕ) →
    is_byte_changed shape.geometry start now p ≡ is_byte_changed shape.geometry first shown p
byte_counts shape taken start now first shown both p = elim (cases_lt p shape.pages) [
  | inl lt ↦ (changed_alike shape taken start now first shown both p lt).test
  | inr ge ↦ past_byte shape taken start now both.seen both.moved p ge ∙ sym (past_byte shape taken first shown both.told both.written p ge)
]

page_counts : (shape : FileShape) (taken : List Resource) (start now first shown : Image) → AreBoth shape taken start now first shown → (p : ℕ) →
    is_page_changed shape.geometry start now p ≡ is_page_changed shape.geometry first shown p
page_counts shape taken start now first shown both p =
    let seen = both.seen in
    let told = both.told in
    elim (cases_lt p shape.pages) [
      | inl lt ↦ (changed_page shape taken start now first shown both p lt).test
      | inr ge ↦
          ap (λ xs. is_ordinary shape.geometry p && not (bytes_eq xs (page now p))) (past_page shape start p seen.old_pages ge ∙ sym (past_page shape first p told.old_pages ge))
          ∙ ap (λ xs. is_ordinary shape.geometry p && not (bytes_eq (page first p) xs)) (past_page shape now p seen.new_pages ge ∙ sym (past_page shape shown p told.new_pages ge))
    ]

counts_same : (shape : FileShape) (taken : List Resource) (start now first shown : Image) → AreBoth shape taken start now first shown → (r : Resource) → counts shape start now r ≡ counts shape first shown r
counts_same shape taken start now first shown both resource.Catalog = refl
counts_same shape taken start now first shown both (resource.Table o) = refl
counts_same shape taken start now first shown both (resource.Extent e) = refl
counts_same shape taken start now first shown both (resource.Byte p) = byte_counts shape taken start now first shown both p.0
counts_same shape taken start now first shown both (resource.Page p) = page_counts shape taken start now first shown both p.0

pub takes_same : (shape : FileShape) (own : Resource → Bool) (taken : List Resource) (start now first shown : Image) → AreBoth shape taken start now first shown →
    takes_of shape own taken start now ≡ takes_of shape own taken first shown
takes_same shape own taken start now first shown both =
    filter_agree (λ r. not (own r) && counts shape start now r) (λ r. not (own r) && counts shape first shown r)
    (λ r. ap (λ b. not (own r) && b) (counts_same shape taken start now first shown both r)) (in_order taken)
