-- Views that differ from where they began only where the transaction holds, or the statement took, what guards it.
use Rattle.std.proofs.Common.{◌≡◌, ℕ, ◌+◌, ◌-◌, ◌*◌, ◌/◌, ◌%◌, ◌<◌, ◌≤◌, Bool, true, false, eqb, leb, ltb, ◌||◌, ◌&&◌, List, [], ◌∷◌, length, Option, Some, None, inl, inr, refl, sym, ap, ◌∙◌, subst, arith}
use Rattle.std.specs.Prelude.{if◌then◌else◌, IsSomeAnd, slice_index}
use Rattle.std.proofs.lemmas.List.{get_or_past}
use Rattle.std.specs.List.{list_any}
use Rattle.std.proofs.lemmas.Bool.{cases_Bool, cases_eq, cond_both, and_parts, or_cases, or_left, or_right, eqb-true, leb-true, ltb-true}
use Rattle.spec_file.specs.declared.data.ObjId.{ObjId}
use Rattle.spec_file.specs.declared.data.Resource.{Resource}
use Rattle.spec_file.specs.declared.data.Resource.TheVariants as resource
use Rattle.spec_file.specs.Image.{AreBytes, maps_start}
use Rattle.spec_file.specs.Places.{HasShape, gam_place, sgam_place, pfs_place, pfs_page}
use Rattle.spec_file.specs.Roles.{is_ordinary}
use Rattle.spec_log.specs.declared.item.Cell.{Cell}
use Rattle.spec_log.specs.declared.item.Cell.TheVariants.{Bytes, Bit}
use Rattle.spec_log.specs.Items.{is_same}
use Rattle.spec_log.specs.Cells.{put}
use Rattle.spec_log.specs.Cover.{byte_guard, bit_guard}
use Rattle.law_cover.proofs.Places.{extents_guard_bits, pages_guard_bytes}
use Rattle.law_cover.proofs.Pages.{pages_guard_themselves, catalog_guards_boot}
use Rattle.law_undo.proofs.Atoms.{read, has_atom, bit_in}
use Rattle.law_undo.proofs.Reading.{IsInside, MayPut, shape_put, read_put}
use Rattle.law_undo.proofs.Shapes.{whole_shape}
use Rattle.spec_words.specs.NetChanges.{FileShape}
use Rattle.spec_words.specs.Takes.{is_among}
use Rattle.spec_words.specs.Views.{View}
use Rattle.spec_words.specs.Words.{with_taken, written}
use Rattle.law_net.proofs.Cuts.{place}
use Rattle.law_net.specs.Files.{IsGuardedBy}
use Rattle.law_net.specs.GoodViews.{MayTake, IsGoodView}
use Rattle.law_net.proofs.Images.{inside_image}
use Rattle.law_net.proofs.Zones.{bit_number}
use Rattle.law_net.proofs.Takes.{same_resource, itself}
use Rattle.law_net.proofs.Bytes.{put_bytes}

-- guards that fit also fit by what is weaker
some_weaker : (P Q : Resource → Type 0) (o : Option Resource) → ((r : Resource) → P r → Q r) → IsSomeAnd o P → IsSomeAnd o Q
some_weaker P Q None w h = elim h [ ]
some_weaker P Q (Some r) w h = w r h

pub guarded_weaker : (P Q : Resource → Type 0) (shape : FileShape) (p i j : ℕ) → ((r : Resource) → P r → Q r) → IsGuardedBy P shape p i j → IsGuardedBy Q shape p i j
guarded_weaker P Q shape p i j w (inl h) = inl (some_weaker P Q (byte_guard shape.geometry shape.pages p i) w h)
guarded_weaker P Q shape p i j w (inr h) = inr (h.0, some_weaker P Q (bit_guard shape.geometry shape.pages p (8 * (i - maps_start) + j)) w h.1)

-- a view takes a resource
pub taken_mine : (r : Resource) (v : View) → is_among (with_taken r v).taken r ≡ true
taken_mine r v = by_test (is_among v.taken r) refl
  where
    by_test : (b : Bool) → is_among v.taken r ≡ b → is_among (if b then v else record v { taken = r ∷ v.taken }).taken r ≡ true
    by_test true e = e
    by_test false e = or_left (is_same r r) (list_any (is_same r) v.taken) (itself r)

-- what may have been taken may have been taken where one more resource is, which may be
known_more : (r s : Resource) (v : View) → MayTake v r → MayTake v s → is_among v.taken s ≡ true → MayTake (record v { taken = r ∷ v.taken }) s
known_more r resource.Catalog v new old among = tt
known_more r (resource.Table o) v new old among = λ other h. elim (or_cases (is_same (resource.Table other) r) (is_among v.taken (resource.Table other)) h) [
  | inl same ↦ sym (subst (MayTake v) (sym (same_resource (resource.Table other) r same)) new o among)
  | inr there ↦ old other there
]
known_more r (resource.Extent e) v new old among = old
known_more r (resource.Byte p) v new old among = old
known_more r (resource.Page p) v new old among = old

-- and so may that resource itself
known_self : (r s : Resource) (v : View) → s ≡ r → MayTake v r → MayTake (record v { taken = r ∷ v.taken }) s
known_self r resource.Catalog v same new = tt
known_self r (resource.Table o) v same new = λ other h. elim (or_cases (is_same (resource.Table other) r) (is_among v.taken (resource.Table other)) h) [
  | inl e ↦ table_same (same_resource (resource.Table other) r e ∙ sym same)
  | inr there ↦ subst (MayTake v) (sym same) new other there
]
  where
    table_same : {a b : ObjId} → resource.Table a ≡ resource.Table b → a ≡ b
    table_same e = cc
known_self r (resource.Extent e) v same new = subst (MayTake v) (sym same) new
known_self r (resource.Byte p) v same new = subst (MayTake v) (sym same) new
known_self r (resource.Page p) v same new = subst (MayTake v) (sym same) new

pub good_taken : (r : Resource) (v : View) → v.other r ≡ None → MayTake v r → IsGoodView v → IsGoodView (with_taken r v)
good_taken r v free may good =
    cond_both (is_among v.taken r) v (record v { taken = r ∷ v.taken }) IsGoodView (λ e. good)
    (λ e. record {
      before = good.before;
      after = good.after;
      differ = λ p i j here there low other.
          guarded_weaker (λ s. is_among v.taken s ≡ true) (λ s. (is_same s r || list_any (is_same s) v.taken) ≡ true) v.shape p i j
          (λ s h. or_right (is_same s r) (list_any (is_same s) v.taken) h) (good.differ p i j here there low other);
      free = λ s h. elim (or_cases (is_same s r) (list_any (is_same s) v.taken) h) [
        | inl same ↦ ap v.other (same_resource s r same) ∙ free
        | inr among ↦ good.free s among
      ];
      known = λ s h. elim (or_cases (is_same s r) (list_any (is_same s) v.taken) h) [
        | inl same ↦ known_self r s v (same_resource s r same) may
        | inr among ↦ known_more r s v may (good.known s among) among
      ];
    })

-- a resource under which bytes are put: any but a table
abbrev pub IsPlace : FileShape → Resource → Type 0
IsPlace shape resource.Catalog = Unit {0}
IsPlace shape (resource.Table o) = ⊥
IsPlace shape (resource.Extent e) = e.0 < shape.pages / 8
IsPlace shape (resource.Byte p) = p.0 < shape.pages
IsPlace shape (resource.Page p) = p.0 < shape.pages

pub place_may : (r : Resource) (v : View) → IsPlace v.shape r → MayTake v r
place_may resource.Catalog v is = tt
place_may (resource.Table o) v is = absurd is
place_may (resource.Extent e) v is = is
place_may (resource.Byte p) v is = is
place_may (resource.Page p) v is = is

-- a cell, of these bytes, all of whose bits the resource guards
pub record IsGuardedCell (shape : FileShape) (r : Resource) (cell : Cell) (bytes : List ℕ) : Type 0 where
  pub may : MayPut cell bytes
  pub fits : IsPlace shape r
  pub are_bytes : AreBytes bytes
  pub guarded : (p i j : ℕ) → has_atom cell (length bytes) (place p i j) ≡ true → IsGuardedBy (λ s. s ≡ r) shape p i j

pub good_written : (r : Resource) (cell : Cell) (bytes : List ℕ) (v : View) → IsGuardedCell v.shape r cell bytes → is_among v.taken r ≡ true → IsGoodView v → IsGoodView (written cell bytes v)
good_written r cell bytes v fits mine good =
    let old = good.after in
    let same_form = shape_put v.now cell bytes in record {
      before = good.before;
      after = record {
        file = old.file;
        pages = same_form.pages ∙ old.pages;
        whole = whole_shape v.now (put v.now cell bytes) same_form old.whole;
        bytes = put_bytes v.now cell bytes old.bytes fits.are_bytes;
      };
      differ = λ p i j here there low other. elim (cases_Bool (has_atom cell (length bytes) (place p i j))) [
        | inl e ↦ guarded_weaker (λ s. s ≡ r) (λ s. is_among v.taken s ≡ true) v.shape p i j (λ s same. subst (λ q. is_among v.taken q ≡ true) (sym same) mine) (fits.guarded p i j e)
        | inr e ↦ good.differ p i j here there low (λ same.
            let inside : IsInside (place p i j) v.now = inside_image v.shape v.now old p i j here there in
            other (same ∙ sym (read_put v.now cell bytes (place p i j) fits.may inside ∙ ap (λ b. if b then bit_in cell bytes (place p i j) else read v.now (place p i j)) e)))
      ];
      free = good.free;
      known = λ s among. good.known s among;
    }

-- what guards the cells of the words
guard_is : (o : Option Resource) (r : Resource) → o ≡ Some r → IsSomeAnd o (λ s. s ≡ r)
guard_is o r e = subst (λ q. IsSomeAnd q (λ s. s ≡ r)) (sym e) refl

pub page_guards : (shape : FileShape) (p at : ℕ) (bytes : List ℕ) → p < shape.pages → is_ordinary shape.geometry p ≡ true → (q i j : ℕ) →
    has_atom (Bytes (record { 0 = p }) at) (length bytes) (place q i j) ≡ true →
    IsGuardedBy (λ s. s ≡ resource.Page (record { 0 = p })) shape q i j
page_guards shape p at bytes lt ordinary q i j h =
    inl (guard_is (byte_guard shape.geometry shape.pages q i) (resource.Page (record { 0 = p }))
    (ap (λ k. byte_guard shape.geometry shape.pages k i) (sym (eqb-true p q (and_parts (eqb p q) (leb at i && ltb i (at + length bytes)) h).0))
    ∙ pages_guard_themselves shape.geometry shape.pages p i lt ordinary))

pub page_cell : (shape : FileShape) (p : ℕ) (bytes : List ℕ) → p < shape.pages → is_ordinary shape.geometry p ≡ true → AreBytes bytes →
    IsGuardedCell shape (resource.Page (record { 0 = p })) (Bytes (record { 0 = p }) 0) bytes
page_cell shape p bytes lt ordinary low = record { may = tt; fits = lt; are_bytes = low; guarded = page_guards shape p 0 bytes lt ordinary }

pub catalog_cell : (shape : FileShape) (at : ℕ) (bytes : List ℕ) → 9 < shape.pages → AreBytes bytes → IsGuardedCell shape resource.Catalog (Bytes (record { 0 = 9 }) at) bytes
catalog_cell shape at bytes lt low = record {
  may = tt;
  fits = tt;
  are_bytes = low;
  guarded = λ q i j h. inl (guard_is (byte_guard shape.geometry shape.pages q i) resource.Catalog
      (ap (λ k. byte_guard shape.geometry shape.pages k i) (sym (eqb-true 9 q (and_parts (eqb 9 q) (leb at i && ltb i (at + length bytes)) h).0))
      ∙ catalog_guards_boot shape.geometry shape.pages i lt));
}

one_byte : (byte : ℕ) → byte < 256 → AreBytes (byte ∷ [])
one_byte byte lt i = elim (cases_eq i 0) [
  | inl e ↦ subst (λ k. slice_index (byte ∷ []) k < 256) (sym e) lt
  | inr ne ↦ subst (λ x. x < 256) (sym (get_or_past (byte ∷ []) i 0 (omega (arith, ne)))) (omega arith)
]

pub pfs_cell : (shape : FileShape) (p byte : ℕ) → 16 ≤ shape.pages → p < shape.pages → byte < 256 →
    IsGuardedCell shape (resource.Byte (record { 0 = p })) (Bytes (record { 0 = (pfs_place shape.geometry p).page }) (pfs_place shape.geometry p).at) (byte ∷ [])
pfs_cell shape p byte many lt low = record {
  may = tt;
  fits = lt;
  are_bytes = one_byte byte low;
  guarded = λ q i j h.
      let at = (pfs_place shape.geometry p).at in
      let a = and_parts (eqb (pfs_page shape.geometry p) q) (leb at i && ltb i (at + 1)) h in
      let b = and_parts (leb at i) (ltb i (at + 1)) a.1 in
      inl (guard_is (byte_guard shape.geometry shape.pages q i) (resource.Byte (record { 0 = p }))
      (ap (λ k. byte_guard shape.geometry shape.pages k i) (sym (eqb-true (pfs_page shape.geometry p) q a.0))
      ∙ ap (byte_guard shape.geometry shape.pages (pfs_page shape.geometry p)) (only i at (leb-true at i b.0) (ltb-true i (at + 1) b.1))
      ∙ pages_guard_bytes shape.geometry shape.pages p many lt));
}
  where
    only : (i at : ℕ) → at ≤ i → i < at + 1 → i ≡ at
    only i at a b = omega (arith, a, b)

bit_cell : (shape : FileShape) (r : Resource) (q n v : ℕ) → IsPlace shape r → v < 2 → bit_guard shape.geometry shape.pages q n ≡ Some r → IsGuardedCell shape r (Bit (record { 0 = q }) n) (v ∷ [])
bit_cell shape r q n v place low guard = record {
  may = low;
  fits = place;
  are_bytes = one_byte v (omega (arith, low));
  guarded = λ p i j h.
      let a = and_parts (eqb q p) (eqb (maps_start + n / 8) i && eqb (n % 8) j) h in
      let b = and_parts (eqb (maps_start + n / 8) i) (eqb (n % 8) j) a.1 in
      let byte = eqb-true (maps_start + n / 8) i b.0 in
      inr (
        omega (arith, byte),
        guard_is (bit_guard shape.geometry shape.pages p (8 * (i - maps_start) + j)) r
            (ap (λ k. bit_guard shape.geometry shape.pages k (8 * (i - maps_start) + j)) (sym (eqb-true q p a.0))
            ∙ ap (λ k. bit_guard shape.geometry shape.pages q (8 * (k - maps_start) + j)) (sym byte) ∙ ap
            (λ k. bit_guard shape.geometry shape.pages q (8 * (maps_start + n / 8 - maps_start) + k)) (sym (eqb-true (n % 8) j b.1))
            ∙ ap (bit_guard shape.geometry shape.pages q) (bit_number n) ∙ guard),
      );
}

pub gam_cell : (shape : FileShape) (e v : ℕ) → HasShape shape.geometry shape.pages → e < shape.pages / 8 → v < 2 →
    IsGuardedCell shape (resource.Extent (record { 0 = e })) (Bit (record { 0 = (gam_place shape.geometry e).page }) (gam_place shape.geometry e).at) (v ∷ [])
gam_cell shape e v file lt low =
    bit_cell shape (resource.Extent (record { 0 = e })) (gam_place shape.geometry e).page (gam_place shape.geometry e).at v lt low
    (extents_guard_bits shape.geometry shape.pages e file.low file.high lt).0

pub sgam_cell : (shape : FileShape) (e v : ℕ) → HasShape shape.geometry shape.pages → e < shape.pages / 8 → v < 2 →
    IsGuardedCell shape (resource.Extent (record { 0 = e })) (Bit (record { 0 = (sgam_place shape.geometry e).page }) (sgam_place shape.geometry e).at) (v ∷ [])
sgam_cell shape e v file lt low =
    bit_cell shape (resource.Extent (record { 0 = e })) (sgam_place shape.geometry e).page (sgam_place shape.geometry e).at v lt low
    (extents_guard_bits shape.geometry shape.pages e file.low file.high lt).1
