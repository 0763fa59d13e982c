-- The ids that the map of an extent marks are the objects that mark it.
use Rattle.std.proofs.Common.{◌≡◌, ℕ, ◌+◌, ◌<◌, IsTrue, List, Contains, Some, map, filter, length, get_or, slice_index, arith, sym, subst, ap, ◌∙◌, [], ◌∷◌, ⊎_elim}
use Rattle.std.specs.Ordering.{nat_cmp, on}
use Rattle.std.specs.List.{range_with_len}
use Rattle.std.specs.List.Sorted.{IsStrictlySortedBy}
use Rattle.std.specs.declared.cmp.Ordering.TheVariants.{Less}
use Rattle.std.proofs.lemmas.Cmp.{nat_cmp_total, on_total}
use Rattle.std.proofs.lemmas.List.{get_or-map}
use Rattle.std.proofs.lemmas.List.Kept.{IsStrictlySortedBy-filter}
use Rattle.std.proofs.lemmas.Map.Keys.{Less-from_sorted}
use Rattle.std.proofs.lemmas.Option.{slice_get-get_or, slice_get_cases}
use Rattle.spec_file.specs.declared.geometry.Geometry.{Geometry}
use Rattle.spec_file.specs.Image.{Image}
use Rattle.spec_file.specs.CatalogRows.{CatalogRow}
use Rattle.spec_chain.specs.Marks.{IsMarker, AreMarkers}
use Rattle.ck_facts.specs.declared.map.ExtentMap.{ExtentMap}
use Rattle.ck_facts.specs.Maps.{AreObjects, IsExtentOf, has_mark}
use Rattle.ck_alloc.specs.Held.{marked_ids}
use Rattle.spec_check.proofs.Members.{map_from, map_in, filter_from, filter_in, range_from, range_in, sorted_map, range_sorted}

-- ids by place
id_of_row : (rows : List CatalogRow) (i : ℕ) (d : CatalogRow) → i < length rows → slice_index (map (λ r. r.id) rows) i ≡ (get_or rows i d).id
id_of_row rows i d h = get_or-map (λ r. r.id) rows i d 0 h

marked_from : (ids : List ℕ) (x : ExtentMap) (n o : ℕ) → Contains (marked_ids ids x n) o → (i : ℕ) × (i < n) × IsTrue (has_mark x i) × (slice_index ids i ≡ o)
marked_from ids x n o h =
    let r = map_from (slice_index ids) (filter (has_mark x) (range_with_len 0 n)) o h in
    let f = filter_from (has_mark x) (range_with_len 0 n) r.0 r.1 in
    (r.0, range_from n r.0 f.0, f.1, r.2)

marked_in : (ids : List ℕ) (x : ExtentMap) (n i : ℕ) → i < n → IsTrue (has_mark x i) → Contains (marked_ids ids x n) (slice_index ids i)
marked_in ids x n i below marked =
    map_in (slice_index ids) (filter (has_mark x) (range_with_len 0 n)) i (filter_in (has_mark x) (range_with_len 0 n) i (range_in n i below) marked)

rises : (rows : List CatalogRow) (d : CatalogRow) → IsStrictlySortedBy (on (λ r. r.id) nat_cmp) rows → (k : ℕ) → k + 1 < length rows
    → on (slice_index (map (λ r. r.id) rows)) nat_cmp k (k + 1) ≡ Less
rises rows d sorted k below =
    let here = id_of_row rows k d (omega arith) in
    let next = id_of_row rows (k + 1) d below in
    rw (here, next) (Less-from_sorted (on (λ r. r.id) nat_cmp) rows k (k + 1) d sorted (omega arith) below)

some_rises : (rows : List CatalogRow) → IsStrictlySortedBy (on (λ r. r.id) nat_cmp) rows → (k : ℕ) → k + 1 < length rows
    → on (slice_index (map (λ r. r.id) rows)) nat_cmp k (k + 1) ≡ Less
some_rises [] sorted k below = absurd (omega (arith, below))
some_rises (row ∷ rows) sorted k below = rises (row ∷ rows) row sorted k below

marked_sorted : (rows : List CatalogRow) (x : ExtentMap) → IsStrictlySortedBy (on (λ r. r.id) nat_cmp) rows
    → IsStrictlySortedBy nat_cmp (marked_ids (map (λ r. r.id) rows) x (length rows))
marked_sorted rows x sorted =
    let ids = map (λ r. r.id) rows in
    sorted_map (slice_index ids) nat_cmp (filter (has_mark x) (range_with_len 0 (length rows)))
    (IsStrictlySortedBy-filter (on (slice_index ids) nat_cmp) (has_mark x) (range_with_len 0 (length rows))
    (range_sorted (on (slice_index ids) nat_cmp) (on_total (slice_index ids) nat_cmp_total) (length rows) (some_rises rows sorted)))

marker_at : (g : Geometry) (image : Image) (rows : List CatalogRow) (e : ℕ) (x : ExtentMap) (i o : ℕ) → AreObjects image rows
    → IsExtentOf g image rows e x → i < length rows → IsTrue (has_mark x i) → slice_index (map (λ r. r.id) rows) i ≡ o → IsMarker g image e o
marker_at g image rows e x i o objects is below marked named = ⊎_elim
    (λ r. (r.0, (objects.same r.0).0 (i, below, r.3), ap (λ (row : CatalogRow). row.id) (sym r.3) ∙ (sym (id_of_row rows i r.0 below) ∙ named), (is.marks i r.0 r.2).0 marked))
    (λ past. absurd (omega (arith, below, past.0))) (slice_get_cases rows i).1

pub markers_of_rows : (g : Geometry) (image : Image) (rows : List CatalogRow) (e : ℕ) (x : ExtentMap) → AreObjects image rows
    → IsExtentOf g image rows e x → AreMarkers g image e (marked_ids (map (λ r. r.id) rows) x (length rows))
markers_of_rows g image rows e x objects is = record {
  sorted = marked_sorted rows x objects.sorted;
  sound = λ o h.
      let m = marked_from (map (λ r. r.id) rows) x (length rows) o h in
      marker_at g image rows e x m.0 o objects is m.1 m.2 m.3;
  complete = λ o h.
      let member = (objects.same h.0).1 h.1 in
      let i = member.0 in
      let marked = (is.marks i h.0 (slice_get-get_or rows i h.0 member.1 ∙ ap (λ r. Some r) member.2)).1 h.3 in
      let named : slice_index (map (λ r. r.id) rows) i ≡ o = id_of_row rows i h.0 member.1 ∙ (ap (λ r. r.id) member.2 ∙ h.2) in
      subst (Contains (marked_ids (map (λ r. r.id) rows) x (length rows))) named (marked_in (map (λ r. r.id) rows) x (length rows) i member.1 marked);
}
