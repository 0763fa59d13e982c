-- What the rules say of the maps of an image is what they say of the image.
use Rattle.std.proofs.Common.{◌≡◌, ◌⊎◌, ℕ, ◌+◌, ◌*◌, ◌/◌, ◌%◌, ◌<◌, Bool, List, [], ◌∷◌, length, map, slice_index, sym, subst, ap, ◌∙◌, refl, inl, inr, ⊎_elim, arith}
use Rattle.std.proofs.lemmas.List.{length-map}
use Rattle.std.proofs.lemmas.List.FromFn.{get_or-map-range_with_len}
use Rattle.spec_file.specs.Image.{Image}
use Rattle.spec_file.specs.Places.{is_free, extent_count}
use Rattle.spec_file.specs.Roles.{role_of, is_system_extent}
use Rattle.spec_chain.specs.Marks.{AreMarkers}
use Rattle.spec_chain.specs.Uses.{pfs_byte}
use Rattle.spec_check.specs.declared.report.CheckError.{CheckError}
use Rattle.spec_check.specs.Allocation.{IsExtentError, IsUseError, IsAllocationError}
use Rattle.spec_check.specs.Chains.{IsChainError}
use Rattle.db_cat.specs.declared.rows.CatRow.{CatRow}
use Rattle.db_cat.specs.Rows.{row_of}
use Rattle.spec_file.specs.declared.role.Role.{Role}
use Rattle.ck_error.specs.Gathered.{Adds, Below, Gathers}
use Rattle.ck_error.proofs.GatheringLaws.{gathers_more, gathers_as}
use Rattle.ck_facts.specs.declared.map.AllocMap.{AllocMap}
use Rattle.ck_facts.specs.MapOf.{IsMapOf, extent_at, ids_of}
use Rattle.ck_facts.proofs.MapLaws.{extent_of}
use Rattle.ck_facts.specs.Maps.{rows_of_objects}
use Rattle.ck_alloc.specs.declared.extents.ExtentState.{ExtentState}
use Rattle.ck_alloc.specs.declared.pages.PageState.{PageState}
use Rattle.ck_alloc.specs.Held.{holds_use, marked_ids}
use Rattle.ck_alloc.specs.ExtentRules.{ExtentSays}
use Rattle.ck_alloc.specs.PageRules.{PageSays}
use Rattle.ck_alloc.specs.MapRules.{extent_state, markers_at, page_state, uses_at, PartOfMapSays}
use Rattle.ck_alloc.proofs.UsesOf.{uses_of_page, use_held}
use Rattle.ck_alloc.proofs.MarkersOf.{markers_of_rows}
use Rattle.ck_alloc.proofs.ExtentLaws.{seen_extent, ShowsExtents, extent_there, extent_back}
use Rattle.ck_alloc.proofs.PageLaws.{seen_page, ShowsPages, page_there, page_back}

inside : (image : Image) (m : AllocMap) (e : ℕ) → IsMapOf image m → e < extent_count image → e < m.pages / 8
inside image m e of below = omega (arith, below, of.pages)

ids_same : (objects : List CatRow) → map (λ r. r.id) (rows_of_objects objects) ≡ ids_of objects
ids_same [] = refl
ids_same (row ∷ rows) = ap (λ l. row.id.0 ∷ l) (ids_same rows)

markers_of_map : (image : Image) (m : AllocMap) → IsMapOf image m → m.system.items ≡ [] → (e : ℕ) → e < extent_count image
    → AreMarkers m.geometry image e (markers_at m e)
markers_of_map image m of sound e below =
    let rows = rows_of_objects m.objects.items in
    subst (λ n. AreMarkers m.geometry image e (marked_ids (ids_of m.objects.items) (extent_at m e) n)) (length-map m.objects.items row_of)
    (subst (λ ids. AreMarkers m.geometry image e (marked_ids ids (extent_at m e) (length rows))) (ids_same m.objects.items)
    (markers_of_rows m.geometry image rows e (extent_at m e) (of.whole sound).objects (extent_of image m of sound e (inside image m e of below))))

abbrev made : ℕ → Bool → Bool → Bool → Bool → ExtentState
made e f x s u = record { extent = e; free = f; mixed = x; system = s; used = u }

extent_same : (image : Image) (m : AllocMap) → IsMapOf image m → m.system.items ≡ [] → (e : ℕ) → e < extent_count image
    → extent_state m e ≡ seen_extent m.geometry image e (holds_use m.uses.items e)
extent_same image m of sound e below =
    let is = extent_of image m of sound e (inside image m e of below) in
    let system = is_system_extent m.geometry e in
    let used = holds_use m.uses.items e in
    ap (λ f. made e f (extent_at m e).mixed system used) is.free ∙ ap (λ x. made e (is_free m.geometry image e) x system used) is.mixed

abbrev page_made : ℕ → Role → ℕ → PageState
page_made p r b = record { page = p; role = r; byte = b }

page_same : (image : Image) (m : AllocMap) → IsMapOf image m → m.system.items ≡ [] → (p : ℕ) → p < length image
    → page_state m p ≡ seen_page m.geometry image p
page_same image m of sound p below =
    let pages : length image ≡ m.pages = of.pages in
    let inside : p < m.pages = omega (arith, below, pages) in
    ap (page_made p (role_of m.geometry p)) (ap (λ (l : List ℕ). slice_index l p) (of.whole sound).pfs
    ∙ get_or-map-range_with_len (pfs_byte m.geometry image) 0 m.pages p p 0 inside (omega arith))

page_inside : (n e k : ℕ) → e < n / 8 → k < 8 → 8 * e + k < n
page_inside n e k a b = omega arith

page_extent : (e k : ℕ) → k < 8 → e ≡ (8 * e + k) / 8
page_extent e k h = omega arith

extent_inside : (n p : ℕ) → n % 8 ≡ 0 → p < n → p / 8 < n / 8
extent_inside n p whole h = omega arith

page_again : (p : ℕ) → p ≡ 8 * (p / 8) + p % 8
page_again p = omega arith

page_rest : (p : ℕ) → p % 8 < 8
page_rest p = omega arith

-- from the map to the image
part_there : (image : Image) (m : AllocMap) → IsMapOf image m → m.system.items ≡ [] → (x : CheckError) → Below (m.pages / 8) (PartOfMapSays m) x
    → IsExtentError m.geometry image x ⊎ IsUseError m.geometry image x
part_there image m of sound x (e, lower, says) =
    let uses = (of.whole sound).uses in
    let below : e < extent_count image = subst (λ n. e < n / 8) (sym of.pages) lower in
    let markers = markers_of_map image m of sound e below in
    ⊎_elim
    (λ extent. inl (extent_there m.geometry image e (holds_use m.uses.items e) (markers_at m e) x below (use_held m.geometry image m.uses.items e uses) markers
    (subst (λ s. ExtentSays s (markers_at m e) x) (extent_same image m of sound e below) extent)))
    (λ page.
    let k = page.0 in
    let p = 8 * e + k in
    let inside : p < length image = page_inside (length image) e k below page.1 in
    inr (page_there m.geometry image p (uses_at m p) (markers_at m e) x inside (uses_of_page m.geometry image m.uses.items p uses)
    (subst (λ q. AreMarkers m.geometry image q (markers_at m e)) (page_extent e k page.1) markers)
    (subst (λ s. PageSays s (uses_at m p) (markers_at m e) x) (page_same image m of sound p inside) page.2)))
    says

-- and back
shows_extents : (image : Image) (m : AllocMap) → IsMapOf image m → m.system.items ≡ []
    → ShowsExtents m.geometry image (holds_use m.uses.items) (markers_at m)
shows_extents image m of sound = record {
  held = λ e. use_held m.geometry image m.uses.items e (of.whole sound).uses;
  markers = markers_of_map image m of sound;
}

whole_extents : (image : Image) (m : AllocMap) → IsMapOf image m → length image % 8 ≡ 0
whole_extents image m of = ap (λ n. n % 8) of.pages ∙ m.shape.whole

shows_pages : (image : Image) (m : AllocMap) → IsMapOf image m → m.system.items ≡ [] → ShowsPages m.geometry image (uses_at m) (markers_at m)
shows_pages image m of sound = record {
  used = λ p. uses_of_page m.geometry image m.uses.items p (of.whole sound).uses;
  markers = λ p below. markers_of_map image m of sound (p / 8) (extent_inside (length image) p (whole_extents image m of) below);
}

extent_part : (image : Image) (m : AllocMap) → IsMapOf image m → m.system.items ≡ [] → (x : CheckError) → IsExtentError m.geometry image x
    → Below (m.pages / 8) (PartOfMapSays m) x
extent_part image m of sound x h =
    let (e, below, says) = extent_back m.geometry image (holds_use m.uses.items) (markers_at m) x (shows_extents image m of sound) h in
    (e, subst (λ n. e < n / 8) of.pages below, inl (subst (λ s. ExtentSays s (markers_at m e) x) (sym (extent_same image m of sound e below)) says))

page_part : (image : Image) (m : AllocMap) → IsMapOf image m → m.system.items ≡ [] → (x : CheckError) → IsUseError m.geometry image x
    → Below (m.pages / 8) (PartOfMapSays m) x
page_part image m of sound x h =
    let (p, below, says) = page_back m.geometry image (uses_at m) (markers_at m) x (shows_pages image m of sound) h in (
      p / 8,
      subst (λ n. p / 8 < n / 8) of.pages (extent_inside (length image) p (whole_extents image m of) below),
      inr (
        p % 8,
        page_rest p,
        subst (λ q. PageSays (page_state m q) (uses_at m q) (markers_at m (p / 8)) x) (page_again p)
            (subst (λ s. PageSays s (uses_at m p) (markers_at m (p / 8)) x) (sym (page_same image m of sound p below)) says),
      ),
    )

pub gathers_of : (image : Image) (m : AllocMap) → IsMapOf image m → m.system.items ≡ [] → (errors : List CheckError)
    → Adds m.chains.items errors (Below (m.pages / 8) (PartOfMapSays m)) → Gathers errors (IsAllocationError m.geometry image)
gathers_of image m of sound errors adds =
    gathers_as errors (λ x. IsChainError m.geometry image x ⊎ Below (m.pages / 8) (PartOfMapSays m) x) (IsAllocationError m.geometry image)
    (λ x h. ⊎_elim (λ chain. inl chain) (λ part. inr (part_there image m of sound x part)) h)
    (λ x h. ⊎_elim (λ chain. inl chain) (λ rest. inr (⊎_elim (λ extent. extent_part image m of sound x extent) (λ page. page_part image m of sound x page) rest)) h)
    (gathers_more m.chains.items errors (IsChainError m.geometry image) (Below (m.pages / 8) (PartOfMapSays m)) (of.whole sound).chains adds)
