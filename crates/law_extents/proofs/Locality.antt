-- The errors of the rules of extents and pages that stand at an extent, and that none does exactly where the
-- extent is good.
use Rattle.std.proofs.Common.{◌≡◌, ◌⊎◌, ◌↔◌, ℕ, ◌+◌, ◌*◌, ◌/◌, ◌%◌, ◌<◌, ◌≤◌, ◌==◌, Bool, true, false, not, IsTrue, List, [], ◌∷◌, ◌++◌, length, map, Contains, Ordering, refl, sym, ap, subst, ◌∙◌, inl, inr, ⊎_elim, arith, rules}
use Rattle.std.specs.List.{range_with_len}
use Rattle.std.specs.Cmp.{IsTotalOrder}
use Rattle.std.specs.FinMap.{nat_cmp-IsAntisymmetric}
use Rattle.std.specs.Ordering.{nat_cmp, ordering_then}
use Rattle.std.specs.declared.cmp.Ordering.TheVariants.{Less, Equal, Greater}
use Rattle.std.proofs.lemmas.Bool.{cases_Bool, cases_eq, not_from_false}
use Rattle.std.proofs.lemmas.Cmp.{nat_cmp_total, then_total, on_total}
use Rattle.std.proofs.lemmas.List.Elements.{Contains-append_left, Contains-append_right}
use Rattle.spec_file.specs.declared.geometry.Geometry.{Geometry}
use Rattle.spec_file.specs.declared.pfs.PfsKind.{PfsKind}
use Rattle.spec_file.specs.declared.pfs.PfsKind.TheVariants as kinds
use Rattle.spec_file.specs.Image.{Image, page}
use Rattle.spec_file.specs.CatalogRows.{CatalogRow, rows_of}
use Rattle.spec_file.specs.Pfs.{expected, is_allocated_byte}
use Rattle.spec_file.specs.Places.{is_free, extent_count}
use Rattle.spec_file.specs.Roles.{is_system_extent}
use Rattle.spec_chain.specs.Marks.{IsMarker, AreMarkers, HasMarker}
use Rattle.spec_chain.specs.Uses.{Use, use_cmp, IsUse, IsUseBy, AreUses, pfs_byte, is_allocated}
use Rattle.spec_check.specs.declared.report.CheckError.{CheckError}
use Rattle.spec_check.specs.Allocation.{IsExtentError, IsUseError}
use Rattle.spec_check.specs.Maps as maps
use Rattle.spec_check.specs.declared.claims.Claims.{Claims}
use Rattle.spec_check.specs.Maps.{AreClaims, claim_count, worth, both_maps, two_markers, lost_extent, two_claims}
use Rattle.spec_check.specs.Pages.{IsTestedAs, IsKindOfUse, lost_page, two_uses, wrong_byte}
use Rattle.spec_check.proofs.Members.{map_in, range_in, cons_cases, cons_here, cons_there, nothing_there, none_there, some_there}
use Rattle.spec_extents.specs.Extents.{extent_of, Fits, IsGoodPage, IsGoodExtent}
use Rattle.law_extents.specs.Laws.{HasNoErrorAt, ExtentIsLocal}
use Rattle.law_extents.proofs.Listed.{decided, listed, TiesAreEqual, has_two, two_differ}

-- the objects of the catalog, and all places of their uses
abbrev ids_of : List CatalogRow → List ℕ
ids_of rows = map (λ row. row.id) rows

abbrev use_at : ℕ → ℕ → Use
use_at o place = record { object = o; place = place }

abbrev places_of : List CatalogRow → List Use
places_of [] = []
places_of (row ∷ rows) = map (use_at row.id) (range_with_len 0 9) ++ places_of rows

place_below : (g : Geometry) (image : Image) (p place : ℕ) (row : CatalogRow) → IsUseBy g image p row place → place < 9
place_below g image p place row (inl holds) = omega (arith, holds.0.0)
place_below g image p place row (inr chain) = omega (arith, chain.0)

in_places : (rows : List CatalogRow) (row : CatalogRow) (place : ℕ) → place < 9 → Contains rows row → Contains (places_of rows) (use_at row.id place)
in_places [] row place low there = absurd (nothing_there row there)
in_places (z ∷ rows) row place low there =
    let own = map (use_at z.id) (range_with_len 0 9) in
    ⊎_elim
    (λ here. Contains-append_left own (places_of rows) (use_at row.id place)
    (subst (λ (r : CatalogRow). Contains own (use_at r.id place)) here (map_in (use_at z.id) (range_with_len 0 9) place (range_in 9 place low))))
    (λ later. Contains-append_right own (places_of rows) (use_at row.id place) (in_places rows row place low later))
    (cons_cases z rows row there)

use_total : IsTotalOrder use_cmp
use_total = then_total (on_total (λ u. u.object) nat_cmp_total) (on_total (λ u. u.place) nat_cmp_total)

then_equal : (a b : Ordering) → ordering_then a b ≡ Equal → (a ≡ Equal) × (b ≡ Equal)
then_equal Less b h = absurd (cc)
then_equal Equal b h = (refl, h)
then_equal Greater b h = absurd (cc)

use_ties : TiesAreEqual use_cmp
use_ties u v tie =
    let parts = then_equal (nat_cmp u.object v.object) (nat_cmp u.place v.place) tie in
    ap (λ o. use_at o u.place) (nat_cmp-IsAntisymmetric u.object v.object parts.0) ∙ ap (use_at v.object) (nat_cmp-IsAntisymmetric u.place v.place parts.1)

-- the markers of an extent and the uses of a page can be listed
markers_listed : (g : Geometry) (image : Image) (e : ℕ) → (((ids : List ℕ) × AreMarkers g image e ids) → ⊥) → ⊥
markers_listed g image e h = listed nat_cmp nat_cmp_total nat_cmp-IsAntisymmetric (IsMarker g image e) (ids_of (rows_of (page image 9))) (λ found.
    h (
      found.found,
      record {
        sorted = found.sorted;
        sound = found.sound;
        complete = λ o marker. found.complete o (subst (Contains (ids_of (rows_of (page image 9)))) marker.2 (map_in (λ (row : CatalogRow). row.id) (rows_of (page image 9)) marker.0 marker.1)) marker;
      },
    ))

uses_listed : (g : Geometry) (image : Image) (p : ℕ) → (((uses : List Use) × AreUses g image p uses) → ⊥) → ⊥
uses_listed g image p h = listed use_cmp use_total use_ties (IsUse g image p) (places_of (rows_of (page image 9))) (λ found.
    h (
      found.found,
      record {
        sorted = found.sorted;
        sound = found.sound;
        complete = λ u use_. found.complete u (subst (λ o. Contains (places_of (rows_of (page image 9))) (use_at o u.place)) use_.2
            (in_places (rows_of (page image 9)) use_.0 u.place (place_below g image p u.place use_.0 use_.3) use_.1)) use_;
      },
    ))

-- from no error to what is good
at_extent : (e f : ℕ) → f ≡ 8 * e → f / 8 ≡ e
at_extent e f is = omega (arith, is)

one_marker : (g : Geometry) (image : Image) (e : ℕ) → e < extent_count image → HasNoErrorAt g image e
    → (o q : ℕ) → IsMarker g image e o → IsMarker g image e q → o ≡ q
one_marker g image e inside none o q a b = ⊎_elim (λ same. same) (λ differ. absurd (markers_listed g image e (λ ids.
    let two = has_two ids.0 o q (ids.1.complete o a) (ids.1.complete q b) differ in
    none (two_markers e two.0 two.1 (length ids.0)) (inl (inr (inl (e, inside, ids.0, ids.1, (two.0, two.1, two.2, two.3, refl))))) (at_extent e (8 * e) refl))))
    (cases_eq o q)

one_use : (g : Geometry) (image : Image) (e p : ℕ) → p < length image → p / 8 ≡ e → HasNoErrorAt g image e
    → (u v : Use) → IsUse g image p u → IsUse g image p v → (u ≡ v → ⊥) → ⊥
one_use g image e p inside at none u v a b differ = uses_listed g image p (λ uses.
    let two = has_two uses.0 u v (uses.1.complete u a) (uses.1.complete v b) differ in
    none (two_uses p two.0 two.1 (length uses.0)) (inr (inr (inl (p, inside, uses.0, uses.1, (two.0, two.1, two.2, two.3, refl))))) at)

-- at most one claims the extent
record AreOwnClaims (g : Geometry) (image : Image) (e : ℕ) (c : Claims) : Type 0 where
  system : c.system ≡ is_system_extent g e
  free : c.free ≡ is_free g image e
  mixed : maps.IsMixed g image e → IsTrue c.mixed
  marked : HasMarker g image e → IsTrue c.marked
  few : claim_count c ≤ 1

split : (n : ℕ) → (n ≤ 1) ⊎ (1 < n)
split n = search (rules, arith)

has_marker : (ids : List ℕ) (o : ℕ) → Contains ids o → not (length ids == 0) ≡ true
has_marker ids o there = elim (cases_Bool (length ids == 0)) [
  | inl empty ↦ absurd (none_there ids o empty there)
  | inr some ↦ not_from_false (length ids == 0) some
]

with_claims : (g : Geometry) (image : Image) (e : ℕ) → e < extent_count image → HasNoErrorAt g image e → (ids : List ℕ) → AreMarkers g image e ids
    → (mixed : Bool) → (IsTrue mixed ↔ maps.IsMixed g image e) → (c : Claims) × AreOwnClaims g image e c
with_claims g image e inside none ids are mixed is =
    let c : Claims = record { system = is_system_extent g e; free = is_free g image e; mixed = mixed; marked = not (length ids == 0) } in
    let claims : AreClaims g image e ids c = record { system = refl; free = refl; mixed = is; marked = refl } in (
      c,
      record {
        system = refl;
        free = refl;
        mixed = is.1;
        marked = λ m. has_marker ids m.0 (are.complete m.0 m.1);
        few = ⊎_elim (λ few. few) (λ more. absurd (none (two_claims e ids c) (inl (inr (inr (inr (e, inside, ids, are, c, claims, more, refl))))) (at_extent e (8 * e) refl))) (split (claim_count c));
      },
    )

at_most : (g : Geometry) (image : Image) (e : ℕ) → e < extent_count image → HasNoErrorAt g image e → (((c : Claims) × AreOwnClaims g image e c) → ⊥) → ⊥
at_most g image e inside none h = markers_listed g image e (λ ids. decided (maps.IsMixed g image e) (λ case_. ⊎_elim
    (λ is. h (with_claims g image e inside none ids.0 ids.1 true (λ t. is, λ m. refl)))
    (λ other. h (with_claims g image e inside none ids.0 ids.1 false (λ t. absurd (cc), λ m. absurd (other m)))) case_))

abbrev count_of : Bool → Bool → Bool → Bool → ℕ
count_of s f m o = worth 1 s + worth 1 f + worth 1 m + worth 1 o

two_true : (s f m o : Bool) → count_of s f m o ≤ 1
    → (s ≡ true → f ≡ true → ⊥) × (s ≡ true → m ≡ true → ⊥) × (s ≡ true → o ≡ true → ⊥) × (f ≡ true → m ≡ true → ⊥) × (f ≡ true → o ≡ true → ⊥) × (m ≡ true → o ≡ true → ⊥)
two_true s f m o few = (
  λ a b. omega (arith, few, ap (worth 1) a, ap (worth 1) b),
  λ a b. omega (arith, few, ap (worth 1) a, ap (worth 1) b),
  λ a b. omega (arith, few, ap (worth 1) a, ap (worth 1) b),
  λ a b. omega (arith, few, ap (worth 1) a, ap (worth 1) b),
  λ a b. omega (arith, few, ap (worth 1) a, ap (worth 1) b),
  λ a b. omega (arith, few, ap (worth 1) a, ap (worth 1) b),
)

-- the pages
tested_fits : (g : Geometry) (image : Image) (e p : ℕ) → p < length image → p / 8 ≡ e → HasNoErrorAt g image e
    → (o : ℕ) (kind : PfsKind) → IsTestedAs g image p o kind → Fits (pfs_byte g image p) kind
tested_fits g image e p inside at none o kind tested =
    let byte = pfs_byte g image p in record {
      flags = ⊎_elim (λ same. same) (λ differ. absurd (none (wrong_byte 8948 o p byte) (inr (inr (inr (inl (p, inside, o, kind, tested, differ, refl))))) at))
          (cases_eq (byte / 8) (expected kind 0 / 8));
      fullness = λ rowless. ⊎_elim (λ same. same)
          (λ differ. absurd (none (wrong_byte 8914 o p byte) (inr (inr (inr (inr (p, inside, o, kind, tested, rowless, differ, refl))))) at))
          (cases_eq (byte % 8) (expected kind 0 % 8));
    }

pub unused_zero : (byte : ℕ) → Fits byte kinds.Unused → byte ≡ 0
unused_zero byte fits =
    let low = fits.fullness (λ rows. ⊎_elim (λ e. absurd (cc)) (λ e. absurd (cc)) rows) in
    let high = fits.flags in omega (arith, low, high)

same_use : (u v : Use) → (u ≡ v) ⊎ (u ≡ v → ⊥)
same_use u v = ⊎_elim
    (λ objects. ⊎_elim (λ places. inl (ap (λ o. use_at o u.place) objects ∙ ap (use_at v.object) places))
    (λ differ. inr (λ same. differ (ap (λ (w : Use). w.place) same))) (cases_eq u.place v.place))
    (λ differ. inr (λ same. differ (ap (λ (w : Use). w.object) same))) (cases_eq u.object v.object)

kind_of_use : (place : ℕ) → place < 9 → (kind : PfsKind) × IsKindOfUse place kind
kind_of_use place low = ⊎_elim (λ chain. (kinds.Iam, inr (chain, refl))) (λ slot. (kinds.Single, inl (omega (arith, low, slot), refl))) (cases_eq place 8)

one_kind : (place : ℕ) (kind other : PfsKind) → IsKindOfUse place kind → IsKindOfUse place other → kind ≡ other
one_kind place kind other (inl (low, is)) (inl (low_, is_)) = is ∙ sym is_
one_kind place kind other (inl (low, is)) (inr (chain, is_)) = absurd (omega (arith, low, chain))
one_kind place kind other (inr (chain, is)) (inl (low, is_)) = absurd (omega (arith, low, chain))
one_kind place kind other (inr (chain, is)) (inr (chain_, is_)) = is ∙ sym is_

good_page : (g : Geometry) (image : Image) (e p : ℕ) → p < length image → p / 8 ≡ e → HasNoErrorAt g image e → IsGoodPage g (extent_of g image e) p
good_page g image e p inside at none =
    let fits = tested_fits g image e p inside at none in
    let mark = λ (o : ℕ) (m : IsMarker g image e o). subst (λ f. IsMarker g image f o) (sym at) m in record {
      role = λ kind is. fits 0 kind (inl (is, refl));
      one = λ u v a b. ⊎_elim (λ same. same) (λ differ. absurd (one_use g image e p inside at none u v a b differ)) (same_use u v);
      used = λ ordinary u is.
          let kind = kind_of_use u.place (place_below g image p u.place is.0 is.3) in
          record { kind = kind.0; is = kind.1; fits = fits u.object kind.0 (inr (inl (ordinary, u.place, is, kind.1))) };
      marked = λ ordinary m. record {
        allocated = λ allocated. fits m.0 kinds.Uniform (inr (inr (inl (ordinary, mark m.0 m.1, inl (allocated, refl)))));
        unallocated = λ unused. fits m.0 kinds.Unused (inr (inr (inl (ordinary, mark m.0 m.1, inr (unused, refl)))));
      };
      unowned = λ ordinary unused unmarked.
          let unmarked_ : HasMarker g image (p / 8) → ⊥ = subst (λ f. HasMarker g image f → ⊥) (sym at) unmarked in
          ⊎_elim
          (λ allocated. absurd (none (lost_page p (pfs_byte g image p)) (inr (inl (p, inside, ordinary, allocated, (unused, unmarked_), refl))) at))
          (λ free. unused_zero (pfs_byte g image p) (fits 0 kinds.Unused (inr (inr (inr (ordinary, free, (unused, unmarked_), refl, refl))))))
          (cases_Bool (is_allocated g image p));
    }

good_from_none : (g : Geometry) (image : Image) (e : ℕ) → e < extent_count image → HasNoErrorAt g image e → IsGoodExtent g e (extent_of g image e)
good_from_none g image e inside none =
    let two = λ (c : Claims) (own : AreOwnClaims g image e c). two_true c.system c.free c.mixed c.marked own.few in record {
      one_map = λ free mixed. none (both_maps e) (inl (inl (e, inside, free, mixed, refl))) (at_extent e (8 * e) refl);
      one_marker = one_marker g image e inside none;
      claimed = λ free mixed system uses marks. none (lost_extent e)
          (inl (inr (inr (inl (e, inside, record { free = free; mixed = mixed; system = system; uses = uses; marks = marks }, refl))))) (at_extent e (8 * e) refl);
      system_free = λ s f. at_most g image e inside none (λ c. (two c.0 c.1).0 (c.1.system ∙ s) (c.1.free ∙ f));
      system_mixed = λ s m. at_most g image e inside none (λ c. (two c.0 c.1).1 (c.1.system ∙ s) (c.1.mixed m));
      system_marked = λ s o. at_most g image e inside none (λ c. (two c.0 c.1).2 (c.1.system ∙ s) (c.1.marked o));
      free_mixed = λ f m. at_most g image e inside none (λ c. (two c.0 c.1).3 (c.1.free ∙ f) (c.1.mixed m));
      free_marked = λ f o. at_most g image e inside none (λ c. (two c.0 c.1).4 (c.1.free ∙ f) (c.1.marked o));
      mixed_marked = λ m o. at_most g image e inside none (λ c. (two c.0 c.1).5 (c.1.mixed m) (c.1.marked o));
      pages = λ p at. good_page g image e p (omega (arith, at, inside)) at none;
    }

-- from what is good to no error
good_at : (g : Geometry) (image : Image) (e f : ℕ) → f ≡ e → IsGoodExtent g e (extent_of g image e) → IsGoodExtent g f (extent_of g image f)
good_at g image e f same good = subst (λ k. IsGoodExtent g k (extent_of g image k)) (sym same) good

first_page : (e f : ℕ) (x : CheckError) → x.page ≡ 8 * f → x.page / 8 ≡ e → f ≡ e
first_page e f x is at = omega (arith, is, at)

none_two : (s f m o : Bool) → 1 < count_of s f m o → (s ≡ true → f ≡ true → ⊥) → (s ≡ true → m ≡ true → ⊥) → (s ≡ true → o ≡ true → ⊥)
    → (f ≡ true → m ≡ true → ⊥) → (f ≡ true → o ≡ true → ⊥) → (m ≡ true → o ≡ true → ⊥) → ⊥
none_two true true m o many sf sm so fm fo mo = sf refl refl
none_two true false true o many sf sm so fm fo mo = sm refl refl
none_two true false false true many sf sm so fm fo mo = so refl refl
none_two true false false false many sf sm so fm fo mo = omega (arith, many)
none_two false true true o many sf sm so fm fo mo = fm refl refl
none_two false true false true many sf sm so fm fo mo = fo refl refl
none_two false true false false many sf sm so fm fo mo = omega (arith, many)
none_two false false true true many sf sm so fm fo mo = mo refl refl
none_two false false true false many sf sm so fm fo mo = omega (arith, many)
none_two false false false true many sf sm so fm fo mo = omega (arith, many)
none_two false false false false many sf sm so fm fo mo = omega (arith, many)

marker_from : (g : Geometry) (image : Image) (e : ℕ) (ids : List ℕ) → AreMarkers g image e ids → not (length ids == 0) ≡ true → HasMarker g image e
marker_from g image e ids are some = elim (cases_Bool (length ids == 0)) [
  | inl empty ↦ absurd (let no_ : not true ≡ true = subst (λ b. not b ≡ true) empty some in cc)
  | inr there ↦ let first = some_there ids there in (first.0, are.sound first.0 first.1)
]

no_extent_error : (g : Geometry) (image : Image) (e : ℕ) → IsGoodExtent g e (extent_of g image e) → (x : CheckError) → IsExtentError g image x → x.page / 8 ≡ e → ⊥
no_extent_error g image e good x (inl (f, inside, free, mixed, is)) at =
    (good_at g image e f (first_page e f x (ap (λ (y : CheckError). y.page) is) at) good).one_map free mixed
no_extent_error g image e good x (inr (inl (f, inside, ids, are, (first, second, rest, two, is)))) at =
    let here = good_at g image e f (first_page e f x (ap (λ (y : CheckError). y.page) is) at) good in
    let members : (Contains ids first) × (Contains ids second) = rw two (cons_here first (second ∷ rest), cons_there first (second ∷ rest) second (cons_here second rest)) in
    two_differ nat_cmp nat_cmp_total ids first second rest are.sorted two (here.one_marker first second (are.sound first members.0) (are.sound second members.1))
no_extent_error g image e good x (inr (inr (inl (f, inside, lost, is)))) at =
    (good_at g image e f (first_page e f x (ap (λ (y : CheckError). y.page) is) at) good).claimed lost.free lost.mixed lost.system lost.uses lost.marks
no_extent_error g image e good x (inr (inr (inr (f, inside, ids, are, claims, of, many, is)))) at =
    let here = good_at g image e f (first_page e f x (ap (λ (y : CheckError). y.page) is) at) good in
    let system = λ (h : IsTrue claims.system). sym of.system ∙ h in
    let free = λ (h : IsTrue claims.free). sym of.free ∙ h in
    let marked = λ (h : IsTrue claims.marked). marker_from g image f ids are (sym of.marked ∙ h) in
    none_two claims.system claims.free claims.mixed claims.marked many
    (λ s f. here.system_free (system s) (free f))
    (λ s m. here.system_mixed (system s) (of.mixed.0 m))
    (λ s o. here.system_marked (system s) (marked o))
    (λ f m. here.free_mixed (free f) (of.mixed.0 m))
    (λ f o. here.free_marked (free f) (marked o))
    (λ m o. here.mixed_marked (of.mixed.0 m) (marked o))

pub zero_unused : (byte : ℕ) → byte ≡ 0 → Fits byte kinds.Unused
zero_unused byte none = record { flags = omega (arith, none); fullness = λ rowless. omega (arith, none) }

fits_from : (g : Geometry) (image : Image) (e p : ℕ) → p / 8 ≡ e → IsGoodPage g (extent_of g image e) p → (o : ℕ) (kind : PfsKind) → IsTestedAs g image p o kind → Fits (pfs_byte g image p) kind
fits_from g image e p at good o kind (inl (role, is)) = good.role kind role
fits_from g image e p at good o kind (inr (inl (ordinary, place, use_, of))) =
    let fits = good.used ordinary (use_at o place) use_ in
    subst (Fits (pfs_byte g image p)) (one_kind place fits.kind kind fits.is of) fits.fits
fits_from g image e p at good o kind (inr (inr (inl (ordinary, marker, of)))) =
    let fits = good.marked ordinary (o, subst (λ f. IsMarker g image f o) at marker) in
    ⊎_elim (λ a. subst (Fits (pfs_byte g image p)) (sym a.1) (fits.allocated a.0)) (λ a. subst (Fits (pfs_byte g image p)) (sym a.1) (fits.unallocated a.0)) of
fits_from g image e p at good o kind (inr (inr (inr (ordinary, free, unowned, none, is)))) =
    subst (Fits (pfs_byte g image p)) (sym is)
    (zero_unused (pfs_byte g image p) (good.unowned ordinary unowned.0 (subst (λ f. HasMarker g image f → ⊥) at unowned.1)))

not_allocated : (byte : ℕ) → byte ≡ 0 → is_allocated_byte byte ≡ true → ⊥
not_allocated byte none allocated = let is : is_allocated_byte 0 ≡ true = subst (λ b. is_allocated_byte b ≡ true) none allocated in cc

page_good : (g : Geometry) (image : Image) (e p : ℕ) (x : CheckError) → IsGoodExtent g e (extent_of g image e) → x.page ≡ p → x.page / 8 ≡ e → (p / 8 ≡ e) × IsGoodPage g (extent_of g image e) p
page_good g image e p x good is at = let here : p / 8 ≡ e = omega (arith, is, at) in (here, good.pages p here)

no_page_error : (g : Geometry) (image : Image) (e : ℕ) → IsGoodExtent g e (extent_of g image e) → (x : CheckError) → IsUseError g image x → x.page / 8 ≡ e → ⊥
no_page_error g image e good x (inl (p, inside, ordinary, allocated, unowned, is)) at =
    let here = page_good g image e p x good (ap (λ (y : CheckError). y.page) is) at in
    not_allocated (pfs_byte g image p) (here.1.unowned ordinary unowned.0 (subst (λ f. HasMarker g image f → ⊥) here.0 unowned.1)) allocated
no_page_error g image e good x (inr (inl (p, inside, uses, are, (first, second, rest, two, is)))) at =
    let here = page_good g image e p x good (ap (λ (y : CheckError). y.page) is) at in
    let members : (Contains uses first) × (Contains uses second) = rw two (cons_here first (second ∷ rest), cons_there first (second ∷ rest) second (cons_here second rest)) in
    two_differ use_cmp use_total uses first second rest are.sorted two (here.1.one first second (are.sound first members.0) (are.sound second members.1))
no_page_error g image e good x (inr (inr (inl (p, inside, o, kind, tested, differs, is)))) at =
    let here = page_good g image e p x good (ap (λ (y : CheckError). y.page) is) at in
    differs (fits_from g image e p here.0 here.1 o kind tested).flags
no_page_error g image e good x (inr (inr (inr (p, inside, o, kind, tested, rowless, differs, is)))) at =
    let here = page_good g image e p x good (ap (λ (y : CheckError). y.page) is) at in
    differs ((fits_from g image e p here.0 here.1 o kind tested).fullness rowless)

pub extent_is_local : ExtentIsLocal
extent_is_local g image e inside = (
  good_from_none g image e inside,
  λ good x stands at. ⊎_elim (λ h. no_extent_error g image e good x h at) (λ h. no_page_error g image e good x h at) stands,
)
