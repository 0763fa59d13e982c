-- What objects mark and use, and what is allocated to them, can be listed in any image.
use Rattle.std.proofs.Common.{ℕ, zero, ◌<◌, ◌/◌, ◌%◌, length, sym, subst, ap, ◌∙◌, inl, inr, ⊎_elim}
use Rattle.std.specs.Ordering.{nat_cmp, on}
use Rattle.std.proofs.lemmas.Cmp.{nat_cmp_total, then_total, on_total}
use Rattle.std.specs.Cmp.{IsTotalOrder}
use Rattle.spec_file.specs.declared.geometry.Geometry.{Geometry}
use Rattle.spec_file.specs.Image.{Image, page}
use Rattle.spec_file.specs.Places.{interval_size, is_inside}
use Rattle.spec_file.specs.CatalogRows.{CatalogRow}
use Rattle.spec_file.specs.Iam.{iam_interval, iam_mark, iam_slot, single_slot_count}
use Rattle.spec_chain.specs.Chains.{pointer}
use Rattle.spec_chain.specs.Marks.{IsMarked, IsMarker, AreMarkers, HasMarker}
use Rattle.spec_chain.proofs.Pointers.{inside_below}
use Rattle.spec_chain.specs.Uses.{IsSlot, HoldsPage, Use, use_cmp, IsUseBy, IsUse, AreUses, HasUse, is_allocated, IsAllocatedTo}
use Rattle.law_report.proofs.Decisions.{dec_like, dec_and, dec_and3, dec_or, dec_true, dec_eq, dec_lt}
use Rattle.law_report.proofs.Listings.{Listing, like, only, one, either, when, among, such, numbers, dec_some, dec_exists}
use Rattle.law_report.proofs.Sorting.{ordered, one_ordered, Apart, numbers_apart, both_ranks}
use Rattle.law_report.proofs.Chains.{objects, chain_pages, dec_chain_page, dec_in_chain}

pub dec_marked : (g : Geometry) (image : Image) (row : CatalogRow) (e : ℕ) → Dec (IsMarked g image row e)
dec_marked g image row e = dec_like (λ h. (h.0, (h.1, h.2.0, h.2.1))) (λ h. (h.0, h.1.0, (h.1.1, h.1.2)))
    (dec_exists (chain_pages g image row) (λ k is. dec_and
    (dec_eq (iam_interval (page image (pointer image row k))) (e / interval_size g))
    (dec_true (iam_mark (page image (pointer image row k)) (e % interval_size g)))))

pub markers : (g : Geometry) (image : Image) (e : ℕ) → Listing (IsMarker g image e)
markers g image e = like (among (objects image) (λ row is. when (dec_marked g image row e) (one row.id)))
    (λ o h. (h.0, h.1, sym h.2.1, h.2.0)) (λ o h. (h.0, h.1, (h.3, sym h.2)))

pub dec_has_marker : (g : Geometry) (image : Image) (e : ℕ) → Dec (HasMarker g image e)
dec_has_marker g image e = dec_some (markers g image e)

-- the list of the objects that mark an extent
pub marker_lists : (g : Geometry) (image : Image) (e : ℕ) → Listing (AreMarkers g image e)
marker_lists g image e =
    let all = ordered nat_cmp nat_cmp_total (markers g image e) (λ x y h k. numbers_apart x y) in
    only all.members (record { sorted = all.sorted; sound = all.sound; complete = all.complete })
    (λ ids are. one_ordered nat_cmp (IsMarker g image e) nat_cmp_total all ids are.sorted are.sound are.complete)

dec_slot : (g : Geometry) (image : Image) (row : CatalogRow) (i q : ℕ) → Dec (IsSlot g image row i q)
dec_slot g image row i q =
    dec_and3 (dec_lt i single_slot_count) (dec_chain_page g image row zero) (dec_eq (iam_slot (page image (pointer image row zero)) i) q)

-- what a slot holds
pub slots_hold : (g : Geometry) (image : Image) (row : CatalogRow) (i : ℕ) → Listing (IsSlot g image row i)
slots_hold g image row i = like
    (when (dec_lt i single_slot_count) (when (dec_chain_page g image row zero) (one (iam_slot (page image (pointer image row zero)) i))))
    (λ q h. (h.0, h.1.0, sym h.1.1)) (λ q h. (h.0, (h.1, sym h.2)))

dec_holds : (g : Geometry) (image : Image) (row : CatalogRow) (i p : ℕ) → Dec (HoldsPage g image row i p)
dec_holds g image row i p = dec_and (dec_slot g image row i p) (dec_true (is_inside (length image) p))

use_places : (g : Geometry) (image : Image) (p : ℕ) (row : CatalogRow) → Listing (IsUseBy g image p row)
use_places g image p row = like
    (either (such (numbers single_slot_count) (λ i low. dec_holds g image row i p)) (when (dec_in_chain g image row p) (one single_slot_count)))
    (λ place h. ⊎_elim (λ held. inl held.1) (λ chained. inr (chained.1, chained.0)) h)
    (λ place h. ⊎_elim (λ held. inl (held.0.0, held)) (λ chained. inr (chained.1, chained.0)) h)

abbrev use_from : ℕ → ℕ → Use
use_from object place = record { object = object; place = place }

pub uses : (g : Geometry) (image : Image) (p : ℕ) → Listing (IsUse g image p)
uses g image p = like
    (among (objects image) (λ row is. among (use_places g image p row) (λ place by. one (use_from row.id place))))
    (λ u h. (h.0, h.1, ap (λ (w : Use). w.object) (sym h.2.2), subst (IsUseBy g image p h.0) (ap (λ (w : Use). w.place) (sym h.2.2)) h.2.1))
    (λ u h. (h.0, h.1, (u.place, h.3, ap (λ o. use_from o u.place) (sym h.2))))

pub dec_has_use : (g : Geometry) (image : Image) (p : ℕ) → Dec (HasUse g image p)
dec_has_use g image p = dec_some (uses g image p)

use_total : IsTotalOrder use_cmp
use_total = then_total (on_total (λ u. u.object) nat_cmp_total) (on_total (λ u. u.place) nat_cmp_total)

uses_apart : Apart use_cmp
uses_apart u v h =
    let ranks = both_ranks (on (λ (w : Use). w.object) nat_cmp) (on (λ (w : Use). w.place) nat_cmp) u v h in
    ap (λ o. use_from o u.place) (numbers_apart u.object v.object ranks.0) ∙ ap (use_from v.object) (numbers_apart u.place v.place ranks.1)

-- the list of a page's uses
pub use_lists : (g : Geometry) (image : Image) (p : ℕ) → Listing (AreUses g image p)
use_lists g image p =
    let all = ordered use_cmp use_total (uses g image p) (λ u v h k. uses_apart u v) in
    only all.members (record { sorted = all.sorted; sound = all.sound; complete = all.complete })
    (λ list are. one_ordered use_cmp (IsUse g image p) use_total all list are.sorted are.sound are.complete)

dec_allocated : (g : Geometry) (image : Image) (row : CatalogRow) (p : ℕ) → Dec (IsAllocatedTo g image row p)
dec_allocated g image row p = dec_or
    (dec_like (λ h. (h.0, h.2)) (λ h. (h.0, h.1.0.0, h.1)) (dec_exists (numbers single_slot_count) (λ i low. dec_holds g image row i p)))
    (dec_and3 (dec_lt p (length image)) (dec_marked g image row (p / 8)) (dec_true (is_allocated g image p)))

allocated_inside : (g : Geometry) (image : Image) (row : CatalogRow) (p : ℕ) → IsAllocatedTo g image row p → p < length image
allocated_inside g image row p (inl held) = inside_below (length image) p held.1.1
allocated_inside g image row p (inr marked) = marked.0

-- the pages that are allocated to an object
pub allocated : (g : Geometry) (image : Image) (row : CatalogRow) → Listing (IsAllocatedTo g image row)
allocated g image row = like (such (numbers (length image)) (λ p low. dec_allocated g image row p))
    (λ p h. h.1) (λ p h. (allocated_inside g image row p h, h))
