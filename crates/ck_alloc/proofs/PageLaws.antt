-- What the rules of uses and PFS bytes say of a page's state is what they say of the image.
use Rattle.std.proofs.Common.{◌≡◌, ◌≢◌, ◌⊎◌, ℕ, ◌/◌, ◌%◌, ◌<◌, ◌≤◌, ◌==◌, ◌&&◌, Bool, true, false, not, IsTrue, List, Contains, Option, Some, None, length, map, sym, subst, ap, ◌∙◌, refl, inl, inr, ⊎_elim, if◌then◌else◌, arith}
use Rattle.std.proofs.lemmas.Bool.{and_parts, and_from, not-true, not_from_false, eqb-false, ne_eqb, lt-ltb, le-ltb}
use Rattle.std.proofs.lemmas.Cmp.{nat_cmp_total, then_total, on_total}
use Rattle.spec_file.specs.declared.geometry.Geometry.{Geometry}
use Rattle.spec_file.specs.declared.role.Role.{Role}
use Rattle.spec_file.specs.declared.role.Role.TheVariants as role
use Rattle.spec_file.specs.declared.pfs.PfsKind.{PfsKind}
use Rattle.spec_file.specs.declared.pfs.PfsKind.TheVariants as kinds
use Rattle.spec_file.specs.Image.{Image}
use Rattle.spec_file.specs.Iam.{single_slot_count}
use Rattle.spec_file.specs.Pfs.{expected}
use Rattle.spec_file.specs.Roles.{role_of, is_for_objects}
use Rattle.spec_chain.specs.Marks.{AreMarkers}
use Rattle.spec_chain.specs.Uses.{Use, use_cmp, IsUse, AreUses, pfs_byte, is_allocated}
use Rattle.spec_check.specs.declared.report.CheckError.{CheckError}
use Rattle.spec_check.specs.Allocation.{IsUseError}
use Rattle.spec_check.specs.Pages.{IsUnowned, GivesTwoUses, kind_of_role, IsKindOfUse, IsTestedAs, MayHoldRows, HasWrongFlags, HasWrongFullness}
use Rattle.ck_error.specs.Gathered.{Each}
use Rattle.ck_facts.specs.declared.map.PageUse.{PageUse}
use Rattle.ck_facts.specs.Maps.{use_of}
use Rattle.ck_alloc.specs.declared.pages.PageState.{PageState}
use Rattle.ck_alloc.specs.PageRules.{has_wrong_flags, has_wrong_fullness, holds_rows, TestSays, kind_of_place, kind_of_mark, UseSays, ByteSays, PageSays}
use Rattle.spec_check.proofs.Members.{map_from, map_in, none_there, none_from, sorted_same}

-- the state of a page of an image
abbrev pub seen_page : Geometry → Image → ℕ → PageState
seen_page g image p = record { page = p; role = role_of g p; byte = pfs_byte g image p }

one_use_list : (g : Geometry) (image : Image) (p : ℕ) (uses others : List Use) → AreUses g image p uses → AreUses g image p others → others ≡ uses
one_use_list g image p uses others a b =
    sorted_same use_cmp (then_total (on_total (λ u. u.object) nat_cmp_total) (on_total (λ u. u.place) nat_cmp_total)) others uses b.sorted a.sorted
    (λ u. (λ h. a.complete u (b.sound u h), λ h. b.complete u (a.sound u h)))

-- nobody owns a page
no_uses : (uses : List PageUse) → IsTrue (length uses == 0) → (v : Use) → Contains (map use_of uses) v → ⊥
no_uses uses empty v h = none_there uses (map_from use_of uses v h).0 empty (map_from use_of uses v h).1

unowned_there : (g : Geometry) (image : Image) (p : ℕ) (uses : List PageUse) (ids : List ℕ) → AreUses g image p (map use_of uses)
    → AreMarkers g image (p / 8) ids → IsTrue ((length uses == 0) && (length ids == 0)) → IsUnowned g image p
unowned_there g image p uses ids used marked h =
    let parts = and_parts (length uses == 0) (length ids == 0) h in
    (λ u. no_uses uses parts.0 u.0 (used.complete u.0 u.1), λ m. none_there ids m.0 parts.1 (marked.complete m.0 m.1))

unowned_back : (g : Geometry) (image : Image) (p : ℕ) (uses : List PageUse) (ids : List ℕ) → AreUses g image p (map use_of uses)
    → AreMarkers g image (p / 8) ids → IsUnowned g image p → IsTrue ((length uses == 0) && (length ids == 0))
unowned_back g image p uses ids used marked h =
    and_from (length uses == 0) (length ids == 0) (none_from uses (λ u c. h.0 (use_of u, used.sound (use_of u) (map_in use_of uses u c))))
    (none_from ids (λ o c. h.1 (o, marked.sound o c)))

-- the kind that a role tells
told_none : (r : Role) → kind_of_role r ≡ None → IsTrue (is_for_objects r)
told_none role.FileHeader h = absurd (cc)
told_none role.Pfs h = absurd (cc)
told_none role.Gam h = absurd (cc)
told_none role.Sgam h = absurd (cc)
told_none role.Reserved h = absurd (cc)
told_none role.Boot h = absurd (cc)
told_none role.Ordinary h = refl

none_told : (r : Role) → IsTrue (is_for_objects r) → None ≡ kind_of_role r
none_told role.FileHeader h = absurd (cc)
none_told role.Pfs h = absurd (cc)
none_told role.Gam h = absurd (cc)
none_told role.Sgam h = absurd (cc)
none_told role.Reserved h = absurd (cc)
none_told role.Boot h = absurd (cc)
none_told role.Ordinary h = refl

-- the kind that a use tells
place_kind : (place : ℕ) → (place < single_slot_count) ⊎ (place ≡ single_slot_count) → IsKindOfUse place (kind_of_place place)
place_kind place h = ⊎_elim
    (λ slot. inl (slot, ap (λ b. if b then kinds.Single else kinds.Iam) (lt-ltb place single_slot_count slot)))
    (λ iam. inr (iam, ap (λ b. if b then kinds.Single else kinds.Iam) (le-ltb place single_slot_count (omega arith)))) h

kind_place : (place : ℕ) (kind : PfsKind) → IsKindOfUse place kind → kind ≡ kind_of_place place
kind_place place kind h = ⊎_elim
    (λ slot. slot.1 ∙ sym (ap (λ b. if b then kinds.Single else kinds.Iam) (lt-ltb place single_slot_count slot.0)))
    (λ iam. let at : single_slot_count ≤ place = omega (arith, iam.0) in iam.1 ∙ sym (ap (λ b. if b then kinds.Single else kinds.Iam) (le-ltb place single_slot_count at))) h

use_place : (g : Geometry) (image : Image) (p : ℕ) (u : Use) → IsUse g image p u → (u.place < single_slot_count) ⊎ (u.place ≡ single_slot_count)
use_place g image p u h = ⊎_elim (λ slot. inl slot.0.0) (λ iam. inr iam.0) h.3

-- the kind that a mark tells
mark_kind : (a : Bool) → (IsTrue a × ((if a then kinds.Uniform else kinds.Unused) ≡ kinds.Uniform))
    ⊎ ((a ≡ false) × ((if a then kinds.Uniform else kinds.Unused) ≡ kinds.Unused))
mark_kind true = inl (refl, refl)
mark_kind false = inr (refl, refl)

kind_mark : (a : Bool) (kind : PfsKind) → (IsTrue a × (kind ≡ kinds.Uniform)) ⊎ ((a ≡ false) × (kind ≡ kinds.Unused))
    → kind ≡ (if a then kinds.Uniform else kinds.Unused)
kind_mark a kind h = ⊎_elim (λ t. t.1 ∙ sym (ap (λ b. if b then kinds.Uniform else kinds.Unused) t.0))
    (λ f. f.1 ∙ sym (ap (λ b. if b then kinds.Uniform else kinds.Unused) f.0)) h

-- the kinds of pages that hold rows
no_rows : (kind : PfsKind) → holds_rows kind ≡ false → MayHoldRows kind → ⊥
no_rows kinds.System h r = ⊎_elim (λ e. cc) (λ e. cc) r
no_rows kinds.Reserved h r = ⊎_elim (λ e. cc) (λ e. cc) r
no_rows kinds.Boot h r = ⊎_elim (λ e. cc) (λ e. cc) r
no_rows kinds.Iam h r = ⊎_elim (λ e. cc) (λ e. cc) r
no_rows kinds.Single h r = cc
no_rows kinds.Uniform h r = cc
no_rows kinds.Unused h r = ⊎_elim (λ e. cc) (λ e. cc) r

rows_none : (kind : PfsKind) → (MayHoldRows kind → ⊥) → holds_rows kind ≡ false
rows_none kinds.System h = refl
rows_none kinds.Reserved h = refl
rows_none kinds.Boot h = refl
rows_none kinds.Iam h = refl
rows_none kinds.Single h = absurd (h (inl refl))
rows_none kinds.Uniform h = absurd (h (inr refl))
rows_none kinds.Unused h = refl

-- one test
flags_there : (byte : ℕ) (kind : PfsKind) → IsTrue (has_wrong_flags byte kind) → byte / 8 ≢ expected kind 0 / 8
flags_there byte kind h = eqb-false (byte / 8) (expected kind 0 / 8) (not-true (byte / 8 == expected kind 0 / 8) h)

flags_back : (byte : ℕ) (kind : PfsKind) → byte / 8 ≢ expected kind 0 / 8 → IsTrue (has_wrong_flags byte kind)
flags_back byte kind h = not_from_false (byte / 8 == expected kind 0 / 8) (ne_eqb (byte / 8) (expected kind 0 / 8) h)

fullness_there : (byte : ℕ) (kind : PfsKind) → IsTrue (has_wrong_fullness byte kind) → (MayHoldRows kind → ⊥) × (byte % 8 ≢ expected kind 0 % 8)
fullness_there byte kind h =
    let parts = and_parts (not (holds_rows kind)) (not (byte % 8 == expected kind 0 % 8)) h in
    (no_rows kind (not-true (holds_rows kind) parts.0), eqb-false (byte % 8) (expected kind 0 % 8) (not-true (byte % 8 == expected kind 0 % 8) parts.1))

fullness_back : (byte : ℕ) (kind : PfsKind) → (MayHoldRows kind → ⊥) → byte % 8 ≢ expected kind 0 % 8 → IsTrue (has_wrong_fullness byte kind)
fullness_back byte kind none h =
    and_from (not (holds_rows kind)) (not (byte % 8 == expected kind 0 % 8)) (not_from_false (holds_rows kind) (rows_none kind none))
    (not_from_false (byte % 8 == expected kind 0 % 8) (ne_eqb (byte % 8) (expected kind 0 % 8) h))

test_there : (g : Geometry) (image : Image) (p o : ℕ) (kind : PfsKind) (x : CheckError) → p < length image → IsTestedAs g image p o kind
    → TestSays (seen_page g image p) o kind x → HasWrongFlags g image x ⊎ HasWrongFullness g image x
test_there g image p o kind x below tested says = ⊎_elim
    (λ flags. inl (p, below, o, kind, tested, flags_there (pfs_byte g image p) kind flags.0, flags.1))
    (λ fullness. let parts = fullness_there (pfs_byte g image p) kind fullness.0 in inr (p, below, o, kind, tested, parts.0, parts.1, fullness.1)) says

-- all tests of a page
tests_there : (g : Geometry) (image : Image) (p : ℕ) (told : Option PfsKind) (uses : List PageUse) (ids : List ℕ) (x : CheckError) → p < length image
    → kind_of_role (role_of g p) ≡ told → AreUses g image p (map use_of uses) → AreMarkers g image (p / 8) ids
    → ByteSays told (seen_page g image p) uses ids x → HasWrongFlags g image x ⊎ HasWrongFullness g image x
tests_there g image p (Some kind) uses ids x below told used marked says = test_there g image p 0 kind x below (inl (told, refl)) says
tests_there g image p None uses ids x below told used marked says =
    let ordinary = told_none (role_of g p) told in
    ⊎_elim
    (λ one.
    let u = one.0 in
    let is = used.sound (use_of u) (map_in use_of uses u one.1) in
    test_there g image p u.object (kind_of_place u.place) x below
    (inr (inl (ordinary, u.place, is, place_kind u.place (use_place g image p (use_of u) is)))) one.2)
    (λ rest. ⊎_elim
    (λ mark. test_there g image p mark.0 (kind_of_mark (pfs_byte g image p)) x below
    (inr (inr (inl (ordinary, marked.sound mark.0 mark.1, mark_kind (is_allocated g image p))))) mark.2)
    (λ alone.
    let parts = and_parts (not (is_allocated g image p)) ((length uses == 0) && (length ids == 0)) alone.0 in
    test_there g image p 0 kinds.Unused x below
    (inr (inr (inr (ordinary, not-true (is_allocated g image p) parts.0, unowned_there g image p uses ids used marked parts.1, refl, refl)))) alone.1)
    rest) says

tests_back : (g : Geometry) (image : Image) (p o : ℕ) (kind : PfsKind) (uses : List PageUse) (ids : List ℕ) (x : CheckError)
    → AreUses g image p (map use_of uses) → AreMarkers g image (p / 8) ids → IsTestedAs g image p o kind → TestSays (seen_page g image p) o kind x
    → ByteSays (kind_of_role (role_of g p)) (seen_page g image p) uses ids x
tests_back g image p o kind uses ids x used marked tested says = ⊎_elim
    (λ role. subst (λ told. ByteSays told (seen_page g image p) uses ids x) (sym role.0) (subst (λ n. TestSays (seen_page g image p) n kind x) role.1 says))
    (λ rest. ⊎_elim
    (λ one. subst (λ told. ByteSays told (seen_page g image p) uses ids x) (none_told (role_of g p) one.0)
    (inl (by_use one.1 one.2 one.3)))
    (λ rest. ⊎_elim
    (λ mark. subst (λ told. ByteSays told (seen_page g image p) uses ids x) (none_told (role_of g p) mark.0)
    (inr (inl (o, marked.complete o mark.1, subst (λ k. TestSays (seen_page g image p) o k x) (kind_mark (is_allocated g image p) kind mark.2) says))))
    (λ alone. subst (λ told. ByteSays told (seen_page g image p) uses ids x) (none_told (role_of g p) alone.0)
    (inr (inr (
      and_from (not (is_allocated g image p)) ((length uses == 0) && (length ids == 0)) (not_from_false (is_allocated g image p) alone.1)
          (unowned_back g image p uses ids used marked alone.2),
      subst (λ k. TestSays (seen_page g image p) 0 k x) alone.4 (subst (λ n. TestSays (seen_page g image p) n kind x) alone.3 says),
    ))))
    rest) rest) tested where
      by_use : (place : ℕ) → IsUse g image p (record { object = o; place = place }) → IsKindOfUse place kind → Each uses (UseSays (seen_page g image p)) x
      by_use place is kind_of =
          let m = map_from use_of uses (record { object = o; place = place }) (used.complete (record { object = o; place = place }) is) in
          let at : place ≡ m.0.place = ap (λ (u : Use). u.place) (sym m.2) in
          let by : o ≡ m.0.object = ap (λ (u : Use). u.object) (sym m.2) in (
            m.0,
            m.1,
            subst (λ n. TestSays (seen_page g image p) n (kind_of_place m.0.place) x) by
                (subst (λ k. TestSays (seen_page g image p) o k x) (kind_place place kind kind_of ∙ ap kind_of_place at) says),
          )

-- from the state to the image
pub page_there : (g : Geometry) (image : Image) (p : ℕ) (uses : List PageUse) (ids : List ℕ) (x : CheckError) → p < length image
    → AreUses g image p (map use_of uses) → AreMarkers g image (p / 8) ids → PageSays (seen_page g image p) uses ids x → IsUseError g image x
page_there g image p uses ids x below used marked says = ⊎_elim
    (λ lost.
    let parts = and_parts (is_for_objects (role_of g p) && is_allocated g image p) ((length uses == 0) && (length ids == 0)) lost.0 in
    let inner = and_parts (is_for_objects (role_of g p)) (is_allocated g image p) parts.0 in
    inl (p, below, inner.0, inner.1, unowned_there g image p uses ids used marked parts.1, lost.1))
    (λ rest. ⊎_elim (λ two. inr (inl (p, below, map use_of uses, used, two)))
    (λ tests. inr (inr (tests_there g image p (kind_of_role (role_of g p)) uses ids x below refl used marked tests))) rest) says

-- an error of some page's state
abbrev pub SomePageSays : (g : Geometry) (image : Image) (uses : ℕ → List PageUse) (ids : ℕ → List ℕ) → CheckError → Type 0
SomePageSays g image uses ids x = (p : ℕ) × (p < length image) × PageSays (seen_page g image p) (uses p) (ids (p / 8)) x

pub record ShowsPages (g : Geometry) (image : Image) (uses : ℕ → List PageUse) (ids : ℕ → List ℕ) : Type 0 where
  pub used : (p : ℕ) → AreUses g image p (map use_of (uses p))
  pub markers : (p : ℕ) → p < length image → AreMarkers g image (p / 8) (ids (p / 8))

-- from the image to the state
pub page_back : (g : Geometry) (image : Image) (uses : ℕ → List PageUse) (ids : ℕ → List ℕ) (x : CheckError) → ShowsPages g image uses ids
    → IsUseError g image x → SomePageSays g image uses ids x
page_back g image uses ids x shows h = ⊎_elim
    (λ lost. let p = lost.0 in (
      p,
      lost.1,
      inl (
        and_from (is_for_objects (role_of g p) && is_allocated g image p) ((length (uses p) == 0) && (length (ids (p / 8)) == 0))
            (and_from (is_for_objects (role_of g p)) (is_allocated g image p) lost.2 lost.3)
            (unowned_back g image p (uses p) (ids (p / 8)) (shows.used p) (shows.markers p lost.1) lost.4),
        lost.5,
      ),
    ))
    (λ rest. ⊎_elim
    (λ two. let p = two.0 in (p, two.1, inr (inl (subst (λ l. GivesTwoUses p l x) (one_use_list g image p (map use_of (uses p)) two.2 (shows.used p) two.3) two.4))))
    (λ rest. ⊎_elim
    (λ flags. let p = flags.0 in (
      p,
      flags.1,
      inr (inr (tests_back g image p flags.2 flags.3 (uses p) (ids (p / 8)) x (shows.used p) (shows.markers p flags.1) flags.4
          (inl (flags_back (pfs_byte g image p) flags.3 flags.5, flags.6)))),
    ))
    (λ fullness. let p = fullness.0 in (
      p,
      fullness.1,
      inr (inr (tests_back g image p fullness.2 fullness.3 (uses p) (ids (p / 8)) x (shows.used p) (shows.markers p fullness.1) fullness.4
          (inr (fullness_back (pfs_byte g image p) fullness.3 fullness.5 fullness.6, fullness.7)))),
    ))
    rest) rest) h
