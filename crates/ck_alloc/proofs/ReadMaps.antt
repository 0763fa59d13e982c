-- What was read is the map of the image.
use Rattle.std.proofs.Common.{◌≡◌, ◌↔◌, ℕ, ◌<◌, ◌≤◌, Bool, false, IsTrue, List, [], ◌∷◌, length, map, get_or, Option, Some, None, IfSome, Contains, arith, sym, subst, ap, inr, ⊎_elim, refl, ◌∙◌}
use Rattle.std.specs.List.{range_with_len, slice_get}
use Rattle.std.specs.List.Sorted.{IsStrictlySortedBy}
use Rattle.std.specs.Ordering.{nat_cmp, on}
use Rattle.std.proofs.lemmas.List.FromFn.{get_or-map-range_with_len, length-map-range_with_len}
use Rattle.std.proofs.lemmas.Option.{get_or_from_slice_get, slice_get_read, slice_get_within, slice_get-get_or, same_Some}
use Rattle.spec_file.specs.Image.{Image}
use Rattle.spec_file.specs.Places.{is_free, is_mixed, extent_count}
use Rattle.spec_file.specs.CatalogRows.{CatalogRow, rows_of}
use Rattle.spec_chain.specs.Uses.{pfs_byte}
use Rattle.spec_check.specs.declared.report.CheckError.{CheckError}
use Rattle.spec_check.specs.Errors.{error_cmp}
use Rattle.spec_check.specs.Chains.{IsChainError}
use Rattle.ck_error.specs.Gathered.{Gathers, Adds}
use Rattle.ck_error.proofs.GatheringLaws.{gathers_first, gathers_as, lists_in_order}
use Rattle.ck_facts.specs.declared.map.AllocMap.{AllocMap}
use Rattle.ck_facts.specs.declared.map.PageUse.{PageUse}
use Rattle.ck_facts.specs.Maps.{has_mark, page_use_cmp, AreAllUses, AreObjects, AreExtents, rows_of_objects}
use Rattle.ck_facts.specs.MapOf.{IsMapOf}
use Rattle.ck_chain.specs.declared.found.Found.{Found}
use Rattle.ck_alloc.specs.declared.system_maps.SystemMaps.{SystemMaps}
use Rattle.ck_alloc.specs.SystemMaps.{AreSystemMaps}
use Rattle.ck_alloc.specs.ChainsRead.{IsFoundIn, ChainError}

-- the parts of a map, each as it was read
pub record IsMadeOf (m : AllocMap) (maps : SystemMaps) (found : Found) : Type 0 where
  pub sorted : IsStrictlySortedBy error_cmp m.system.items
  pub same : (x : CheckError) → Contains m.system.items x ↔ Contains maps.errors.items x
  pub by_id : IsStrictlySortedBy (on (λ (r : CatalogRow). r.id) nat_cmp) (rows_of_objects m.objects.items)
  pub rows : (r : CatalogRow) → Contains (rows_of_objects m.objects.items) r ↔ Contains (rows_of maps.boot.value.bytes) r
  pub few : length (rows_of_objects m.objects.items) ≤ 128
  pub chains : m.chains ≡ found.errors
  pub uses_sorted : IsStrictlySortedBy page_use_cmp m.uses.items
  pub uses_same : (u : PageUse) → Contains m.uses.items u ↔ Contains found.uses.items u
  pub extents : m.extents ≡ found.extents
  pub pfs : m.pfs ≡ maps.pfs

member : {X : Type 0} (xs : List X) (i : ℕ) (x : X) → slice_get xs i ≡ Some x → Contains xs x
member {X} xs i x at = (i, slice_get_within xs i x at, get_or_from_slice_get xs i x x at)

-- the objects of the map are those of the image
objects_are : (image : Image) (m : AllocMap) (maps : SystemMaps) (found : Found) → AreSystemMaps m.geometry maps image → IsMadeOf m maps found
    → AreObjects image (rows_of_objects m.objects.items)
objects_are image m maps found said made = record {
  sorted = made.by_id;
  same = λ r. (λ c. subst (λ b. Contains (rows_of b) r) said.boot ((made.rows r).0 c), λ o. (made.rows r).1 (subst (λ b. Contains (rows_of b) r) (sym said.boot) o));
}

-- the errors of chains
chains_are : (image : Image) (m : AllocMap) (found : Found) (free mixed : List Bool) → AreObjects image (rows_of_objects m.objects.items)
    → IsFoundIn m.geometry image (rows_of_objects m.objects.items) free mixed found → Gathers found.errors.items (IsChainError m.geometry image)
chains_are image m found free mixed objects f =
    gathers_as found.errors.items (ChainError m.geometry image (rows_of_objects m.objects.items) (length (rows_of_objects m.objects.items))) (IsChainError m.geometry image)
    (λ x (i, r, (low, at), e). (r, (objects.same r).0 (member (rows_of_objects m.objects.items) i r at), e))
    (λ x (r, is, e). let (i, low, at) = (objects.same r).1 is in
    (i, r, (low, slice_get_read (rows_of_objects m.objects.items) (length (rows_of_objects m.objects.items)) i r refl low (sym at)), e))
    (gathers_first found.errors.items _ (subst (λ l. Adds l found.errors.items (ChainError m.geometry image (rows_of_objects m.objects.items) (length (rows_of_objects m.objects.items)))) f.errors f.read.errors))

nobody : {T : Type 0} (x : T) → Contains {X = T} [] x → ⊥
nobody x h = omega (arith, h.1)

uses_are : (image : Image) (m : AllocMap) (maps : SystemMaps) (found : Found) (free mixed : List Bool) → AreObjects image (rows_of_objects m.objects.items)
    → IsFoundIn m.geometry image (rows_of_objects m.objects.items) free mixed found → IsMadeOf m maps found → AreAllUses m.geometry image m.uses.items
uses_are image m maps found free mixed objects f made = record {
  sorted = made.uses_sorted;
  sound = λ u c. ⊎_elim (λ old_. absurd (nobody u (subst (λ l. Contains l u) f.uses old_)))
      (λ (i, r, (low, at), (id, by_)). (r, (objects.same r).0 (member (rows_of_objects m.objects.items) i r at), id, by_))
      (f.read.uses.sound u ((made.uses_same u).0 c));
  complete = λ p v (r, is, id, by_). let (i, low, at) = (objects.same r).1 is in
      (made.uses_same (record { page = p; object = v.object; place = v.place })).1
      (f.read.uses.complete (record { page = p; object = v.object; place = v.place })
      (i, r, (low, slice_get_read (rows_of_objects m.objects.items) (length (rows_of_objects m.objects.items)) i r refl low (sym at)), (id, by_)));
}

-- a bit of an extent
bit_is : (f : ℕ → Bool) (n e : ℕ) (bits : List Bool) (b : Bool) → bits ≡ map f (range_with_len 0 n) → slice_get bits e ≡ Some b → b ≡ f e
bit_is f n e bits b are at =
    let inside : e < n = subst (λ k. e < k) (ap length are ∙ length-map-range_with_len f 0 n) (slice_get_within bits e b at) in
    sym (get_or_from_slice_get bits e b b at) ∙ ap (λ l. get_or l e b) are ∙ get_or-map-range_with_len f 0 n e e b inside (omega arith)

extents_are : (image : Image) (m : AllocMap) (maps : SystemMaps) (found : Found) → AreSystemMaps m.geometry maps image → IsMadeOf m maps found
    → IsFoundIn m.geometry image (rows_of_objects m.objects.items) maps.free.items maps.mixed.items found
    → AreExtents m.geometry image (rows_of_objects m.objects.items) found.extents.items
extents_are image m maps found said made f = record {
  each = λ e y now.
      let below : e < length f.start.extents.items = subst (λ k. e < k) f.read.count (slice_get_within found.extents.items e y now) in
      let x = get_or f.start.extents.items e y in
      let was = slice_get-get_or f.start.extents.items e y below in
      let bare = f.bare.each e x was in
      let became = f.read.extents e x y was now in
      record {
        free = became.free ∙ bit_is (is_free m.geometry image) (extent_count image) e maps.free.items x.free said.free bare.free_is;
        mixed = became.mixed ∙ bit_is (is_mixed m.geometry image) (extent_count image) e maps.mixed.items x.mixed said.mixed bare.mixed_is;
        marks = λ i row at.
            let low = slice_get_within (rows_of_objects m.objects.items) i row at in
            let none = bare.marks i (omega (arith, low, made.few)) in (
              λ h. ⊎_elim (λ old_. absurd (unset (has_mark x i) none old_)) (λ marked. marked) ((became.done i row (low, at)).0 h),
              λ marked. (became.done i row (low, at)).1 (inr marked),
            );
      };
} where
  unset : (b : Bool) → b ≡ false → IsTrue b → ⊥
  unset b h t = cc

pub whole_map : (image : Image) (m : AllocMap) (maps : SystemMaps) (found : Found) → length image ≡ m.pages → AreSystemMaps m.geometry maps image
    → IsMadeOf m maps found → IsFoundIn m.geometry image (rows_of_objects m.objects.items) maps.free.items maps.mixed.items found → IsMapOf image m
whole_map image m maps found pages said made f =
    let objects = objects_are image m maps found said made in record {
      pages = pages;
      system = lists_in_order maps.errors.items m.system.items _ made.sorted made.same said.errors;
      whole = λ none. record {
        objects = objects;
        chains = rw made.chains (chains_are image m found maps.free.items maps.mixed.items objects f);
        uses = uses_are image m maps found maps.free.items maps.mixed.items objects f made;
        extents = rw made.extents (extents_are image m maps found said made f);
        pfs = rw made.pfs (said.pfs ∙ ap (λ n. map (pfs_byte m.geometry image) (range_with_len 0 n)) pages);
      };
    }

-- where there are system errors they are all
pub error_map : (image : Image) (m : AllocMap) (maps : SystemMaps) → length image ≡ m.pages → AreSystemMaps m.geometry maps image
    → IsStrictlySortedBy error_cmp m.system.items → ((x : CheckError) → Contains m.system.items x ↔ Contains maps.errors.items x)
    → (m.system.items ≡ [] → ⊥) → IsMapOf image m
error_map image m maps pages said sorted same some = record {
  pages = pages;
  system = lists_in_order maps.errors.items m.system.items _ sorted same said.errors;
  whole = λ none. absurd (some none);
}

pub told_if : (o : Option Image) (P : Image → Type 0) → ((x : Image) → o ≡ Some x → P x) → IfSome o P
told_if None P h = tt
told_if (Some x) P h = h x refl

pub told_at : (o : Option Image) (x : Image) (P : Image → Type 0) → o ≡ Some x → IfSome o P → P x
told_at None x P at h = cc
told_at (Some y) x P at h = subst P (same_Some y x at) h

-- where a list is empty, so is one with the same members
pub none_before : (xs ys : List CheckError) → ((x : CheckError) → Contains ys x ↔ Contains xs x) → length ys ≡ 0 → xs ≡ []
none_before [] ys same none = refl
none_before (x ∷ xs) ys same none =
    let (i, low, at) = (same x).1 (0, omega arith, refl) in absurd (omega (arith, low, none))
