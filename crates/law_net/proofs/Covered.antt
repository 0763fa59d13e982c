-- What is held or taken covers the net changes, and their cells have the log's form.
use Rattle.std.proofs.Common.{◌≡◌, ℕ, zero, suc, ◌+◌, ◌-◌, ◌/◌, ◌%◌, ◌<◌, ◌≤◌, Bool, true, false, eqb, not, ◌||◌, ◌&&◌, List, [], ◌∷◌, ◌++◌, length, Some, inl, inr, refl, sym, ap, ◌∙◌, subst, arith}
use Rattle.std.specs.Prelude.{if◌then◌else◌, IsSomeAnd, filter, map, flat_map, bytes_eq, slice_index}
use Rattle.std.specs.List.{range_with_len}
use Rattle.std.proofs.lemmas.Bool.{cases_Bool, cond_both, and_parts, eq-eqb, not_from_true}
use Rattle.std.proofs.lemmas.List.Concat.{flat_map_single}
use Rattle.spec_file.specs.declared.data.Resource.{Resource}
use Rattle.spec_file.specs.declared.data.Resource.TheVariants as resource
use Rattle.spec_file.specs.declared.geometry.Geometry.{Geometry}
use Rattle.spec_file.specs.declared.geometry.Geometry.TheVariants.{Standard, Small}
use Rattle.spec_file.specs.declared.role.Role.{Role}
use Rattle.spec_file.specs.declared.role.Role.TheVariants as role
use Rattle.spec_file.specs.Image.{Image, page}
use Rattle.spec_file.specs.Places.{gam_place, sgam_place, pfs_page, pfs_place}
use Rattle.spec_file.specs.Roles.{role_of, is_ordinary}
use Rattle.spec_log.specs.declared.item.Cell.{Cell}
use Rattle.spec_log.specs.declared.item.Cell.TheVariants.{Bytes, Bit}
use Rattle.spec_log.specs.Cover.{IsOfOneExtent, byte_guard, bit_guard, paged_at}
use Rattle.law_cover.proofs.Places.{extents_guard_bits, pages_guard_bytes}
use Rattle.law_cover.proofs.Pages.{ordinary_role, pages_guard_themselves, catalog_guards_boot, pfs_inside}
use Rattle.spec_plan.specs.declared.plan.Planned.{Planned}
use Rattle.spec_words.specs.NetChanges.{FileShape, is_turned, bit_change, bit_changes, begins_run, run_change, run_changes, differing, cell_over, part_changes, page_changes, slots_start, is_iam, becomes_allocated, is_page_changed, iam_changes, other_changes, changes_of}
use Rattle.law_net.specs.Files.{DifferUnder}
use Rattle.law_net.specs.NetLaw.{HasFewBytes, IsShortCell}
use Rattle.law_net.specs.Plans.{IsCoveredBy, AreCoveredBy}
use Rattle.law_net.proofs.Cuts.{Each, each_append}
use Rattle.law_net.proofs.Cells.{after_size}
use Rattle.law_net.proofs.Runs.{paged_place, beside, low_place, run_few, run_changed, run_of}
use Rattle.law_net.proofs.Images.{AreImages, whole_page}
use Rattle.law_net.proofs.Takes.{Mine, mine}
use Rattle.law_net.proofs.Under.{taken_byte, taken_page, taken_catalog, taken_gam, taken_sgam}
use lib.Pointwise.{bytes_decides}

-- each guard of the cell fits
abbrev pub IsCellCovered : (Resource → Type 0) → Geometry → ℕ → Cell → ℕ → Type 0
IsCellCovered P g pages (Bytes p off) size =
    ((i : ℕ) → i < size → IsSomeAnd (byte_guard g pages p.0 (off + i)) P) × IsOfOneExtent (role_of g p.0) p.0 off size × HasFewBytes (role_of g p.0) size
IsCellCovered P g pages (Bit p n) size = IsSomeAnd (bit_guard g pages p.0 n) P

abbrev pub IsCovered : (Resource → Type 0) → FileShape → Planned → Type 0
IsCovered P shape c = IsCellCovered P shape.geometry shape.pages c.cell (length c.after)

-- each change of a range
each_range : (Q : Planned → Type 0) (f : ℕ → List Planned) (test : ℕ → Bool) (n lo : ℕ) → ((x : ℕ) → x < lo + n → test x ≡ true → Each Q (f x)) →
    Each Q (flat_map f (filter test (range_with_len lo n)))
each_range Q f test zero lo each = tt
each_range Q f test (suc n) lo each =
    let rest = filter test (range_with_len (lo + 1) n) in
    let ih = each_range Q f test n (lo + 1) (λ x lt. each x (omega (arith, lt))) in
    cond_both (test lo) (lo ∷ rest) rest (λ xs. Each Q (flat_map f xs)) (λ e. each_append Q (f lo) (flat_map f rest) (each lo (omega arith) e) ih) (λ e. ih)

each_map : (Q : Planned → Type 0) (f : ℕ → Planned) (test : ℕ → Bool) (n : ℕ) → ((x : ℕ) → x < n → test x ≡ true → Q (f x)) → Each Q (map f (filter test (range_with_len 0 n)))
each_map Q f test n each =
    subst (Each Q) (flat_map_single f (filter test (range_with_len 0 n)))
    (each_range Q (λ x. f x ∷ []) test n 0 (λ x lt e. (each x (upper x n lt) e, tt)))
  where
    upper : (p n : ℕ) → p < 0 + n → p < n
    upper p n lt = omega (arith, lt)

of_extent : (r : Role) (p off size : ℕ) → ((i : ℕ) → i < size → paged_at p (off + i) / 8 ≡ paged_at p off / 8) → IsOfOneExtent r p off size
of_extent role.Pfs p off size all = all
of_extent role.FileHeader p off size all = tt
of_extent role.Gam p off size all = tt
of_extent role.Sgam p off size all = tt
of_extent role.Reserved p off size all = tt
of_extent role.Boot p off size all = tt
of_extent role.Ordinary p off size all = tt

is_few : (r : Role) (size : ℕ) → size ≤ 8 → HasFewBytes r size
is_few role.Pfs size le = le
is_few role.FileHeader size le = tt
is_few role.Gam size le = tt
is_few role.Sgam size le = tt
is_few role.Reserved size le = tt
is_few role.Boot size le = tt
is_few role.Ordinary size le = tt

some_of : (P : Resource → Type 0) (g : Geometry) (pages p at : ℕ) (r : Resource) → byte_guard g pages p at ≡ Some r → P r → IsSomeAnd (byte_guard g pages p at) P
some_of P g pages p at r e h = subst (λ o. IsSomeAnd o P) (sym e) h

-- a run
run_covered : (shape : FileShape) (own : Resource → Bool) (taken : List Resource) (start now : Image) → AreImages shape start now → DifferUnder shape taken start now → (p : ℕ) → p < shape.pages →
    IsCovered (Mine shape own taken start now) shape (run_change shape.geometry start now p)
run_covered shape own taken start now images under p lt =
    let g = shape.geometry in
    let file = images.file in
    let whole = whole_page shape start now images (pfs_page g p) (pfs_inside g shape.pages p file.low lt) in
    let run = run_of g start now p in
    let few = run_few g start now (8 - p % 8) p in
    let low = low_place g p in
    let size = after_size start now (pfs_page g p) (pfs_place g p).at run whole (omega (arith, few, low)) in
    subst (IsCellCovered (Mine shape own taken start now) g shape.pages (Bytes (record { 0 = pfs_page g p }) (pfs_place g p).at)) (sym size) (
      (λ i less.
          let near = beside g p i (close p i run less few) in
          let q = p + i in
          let inside : q < shape.pages = in_extent p i run shape.pages less few lt file.whole in
          subst (λ o. IsSomeAnd o (Mine shape own taken start now))
          (sym (ap (byte_guard g shape.pages (pfs_page g p)) (sym near.at) ∙ ap (λ k. byte_guard g shape.pages k (pfs_place g q).at) (sym near.page)
          ∙ pages_guard_bytes g shape.pages q file.low inside))
          (mine shape own taken start now (resource.Byte (record { 0 = q }))
          (taken_byte shape taken start now images under q inside (run_changed g start now (8 - p % 8) p i less)) (run_changed g start now (8 - p % 8) p i less))),
      of_extent (role_of g (pfs_page g p)) (pfs_page g p) (pfs_place g p).at run (λ i less.
          let near = beside g p i (close p i run less few) in
          ap (λ k. paged_at (pfs_page g p) k / 8) (sym near.at) ∙ ap (λ k. paged_at k (pfs_place g (p + i)).at / 8) (sym near.page) ∙ ap (λ k. k / 8) (paged_place g (p + i))
          ∙ same_extent p i (close p i run less few) ∙ ap (λ k. k / 8) (sym (paged_place g p))),
      is_few (role_of g (pfs_page g p)) run (omega (arith, few)),
    )
  where
    close : (p i run : ℕ) → i < run → run ≤ 8 - p % 8 → p % 8 + i < 8
    close p i run a b = omega (arith, a, b)

    in_extent : (p i run n : ℕ) → i < run → run ≤ 8 - p % 8 → p < n → n % 8 ≡ 0 → p + i < n
    in_extent p i run n a b c d = omega (arith, a, b, c, d)

    same_extent : (p i : ℕ) → p % 8 + i < 8 → (p + i) / 8 ≡ p / 8
    same_extent p i a = omega (arith, a)

-- a page all of whose bytes have one guard
over_covered : (Q : Planned → Type 0) (start now : Image) (p : ℕ) (ds : List ℕ) →
    ((d : ℕ) (rest : List ℕ) → ds ≡ d ∷ rest → (before after : List ℕ) → Q (record { cell = Bytes (record { 0 = p }) d; before = before; after = after })) → Each Q (cell_over start now p ds)
over_covered Q start now p [] all = tt
over_covered Q start now p (d ∷ rest) all = (all d rest refl _ _, tt)

page_covered : (shape : FileShape) (P : Resource → Type 0) (start now : Image) (p lo hi : ℕ) → p < shape.pages → is_ordinary shape.geometry p ≡ true → P (resource.Page (record { 0 = p })) →
    Each (IsCovered P shape) (part_changes start now p lo hi)
page_covered shape P start now p lo hi lt ordinary mine =
    let g = shape.geometry in
    over_covered (IsCovered P shape) start now p (differing start now p lo hi) (λ d rest e before after. (
      (λ i less. some_of P g shape.pages p (d + i) (resource.Page (record { 0 = p })) (pages_guard_themselves g shape.pages p (d + i) lt ordinary) mine),
      subst (λ r. IsOfOneExtent r p d (length after)) (sym (ordinary_role (role_of g p) ordinary)) tt,
      subst (λ r. HasFewBytes r (length after)) (sym (ordinary_role (role_of g p) ordinary)) tt,
    ))

pages_covered : (shape : FileShape) (P : Resource → Type 0) (start now : Image) (p : ℕ) → p < shape.pages → is_ordinary shape.geometry p ≡ true → P (resource.Page (record { 0 = p })) →
    Each (IsCovered P shape) (page_changes shape.geometry start now p)
pages_covered shape P start now p lt ordinary mine =
    let s = slots_start start now p in
    let Q = IsCovered P shape in
    cond_both (is_iam now p || becomes_allocated shape.geometry start now p) (part_changes start now p 0 8192)
    (part_changes start now p 96 s ++ (part_changes start now p s 8192 ++ part_changes start now p 0 96)) (Each Q)
    (λ e. page_covered shape P start now p 0 8192 lt ordinary mine)
    (λ e. each_append Q (part_changes start now p 96 s) (part_changes start now p s 8192 ++ part_changes start now p 0 96) (page_covered shape P start now p 96 s lt ordinary mine)
    (each_append Q (part_changes start now p s 8192) (part_changes start now p 0 96) (page_covered shape P start now p s 8192 lt ordinary mine)
    (page_covered shape P start now p 0 96 lt ordinary mine)))

boot_role : (g : Geometry) → role_of g 9 ≡ role.Boot
boot_role Standard = refl
boot_role Small = refl

filter_none : (f : ℕ → Bool) (xs : List ℕ) → ((x : ℕ) → f x ≡ false) → filter f xs ≡ []
filter_none f [] none = refl
filter_none f (x ∷ xs) none = ap (λ b. if b then x ∷ filter f xs else filter f xs) (none x) ∙ filter_none f xs none

pub differing_none : (start now : Image) (p lo hi : ℕ) → page start p ≡ page now p → differing start now p lo hi ≡ []
unfolding differing
differing_none start now p lo hi e =
    filter_none (λ i. not (eqb (slice_index (page start p) i) (slice_index (page now p) i))) (range_with_len lo (hi - lo))
    (λ i. not_from_true (eqb (slice_index (page start p) i) (slice_index (page now p) i)) (eq-eqb (slice_index (page start p) i) (slice_index (page now p) i) (ap (λ bs. slice_index bs i) e)))

pub part_none : (start now : Image) (p low high : ℕ) → page start p ≡ page now p → part_changes start now p low high ≡ []
part_none start now p low high e = ap (cell_over start now p) (differing_none start now p low high e)

boot_covered : (shape : FileShape) (own : Resource → Bool) (taken : List Resource) (start now : Image) → AreImages shape start now → DifferUnder shape taken start now →
    Each (IsCovered (Mine shape own taken start now) shape) (part_changes start now 9 0 8192)
boot_covered shape own taken start now images under =
    let file = images.file in
    let g = shape.geometry in
    let low = file.low in
    let P = Mine shape own taken start now in
    elim (cases_Bool (bytes_eq (page start 9) (page now 9))) [
      | inl same ↦ subst (λ ds. Each (IsCovered P shape) (cell_over start now 9 ds)) (sym (differing_none start now 9 0 8192 ((bytes_decides (page start 9) (page now 9)).0 same))) tt
      | inr differ ↦ over_covered (IsCovered P shape) start now 9 (differing start now 9 0 8192) (λ d rest e before after. (
        (λ i less. some_of P g shape.pages 9 (d + i) resource.Catalog (catalog_guards_boot g shape.pages (d + i) (omega (arith, low)))
            (mine shape own taken start now resource.Catalog (taken_catalog shape taken start now images under differ) refl)),
        subst (λ r. IsOfOneExtent r 9 d (length after)) (sym (boot_role g)) tt,
        subst (λ r. HasFewBytes r (length after)) (sym (boot_role g)) tt,
      ))
    ]

-- (d) all are covered
pub changes_covered : (shape : FileShape) (own : Resource → Bool) (taken : List Resource) (start now : Image) → AreImages shape start now → DifferUnder shape taken start now →
    Each (IsCovered (Mine shape own taken start now) shape) (changes_of shape start now)
changes_covered shape own taken start now images under =
    let g = shape.geometry in
    let n = shape.pages in
    let file = images.file in
    let P = Mine shape own taken start now in
    let Q = IsCovered P shape in
    let gam : Each Q (bit_changes shape (gam_place g) start now) =
    each_map Q (λ e. bit_change start now (gam_place g e)) (λ e. is_turned start now (gam_place g e)) (n / 8)
    (λ e lt turned. subst (λ o. IsSomeAnd o P) (sym (extents_guard_bits g n e file.low file.high lt).0)
    (mine shape own taken start now (resource.Extent (record { 0 = e })) (taken_gam shape taken start now images under e lt turned) refl)) in
    let sgam : Each Q (bit_changes shape (sgam_place g) start now) =
    each_map Q (λ e. bit_change start now (sgam_place g e)) (λ e. is_turned start now (sgam_place g e)) (n / 8)
    (λ e lt turned. subst (λ o. IsSomeAnd o P) (sym (extents_guard_bits g n e file.low file.high lt).1)
    (mine shape own taken start now (resource.Extent (record { 0 = e })) (taken_sgam shape taken start now images under e lt turned) refl)) in
    let runs : Each Q (run_changes shape start now) =
    each_map Q (run_change g start now) (begins_run g start now) n (λ p lt begins. run_covered shape own taken start now images under p lt) in
    let of_pages : (test : ℕ → Bool) → Each Q (flat_map (page_changes g start now) (filter (λ p. is_page_changed g start now p && test p) (range_with_len 0 n))) = λ test.
    each_range Q (page_changes g start now) (λ p. is_page_changed g start now p && test p) n 0
    (λ p lt passes.
    let differs = (and_parts (is_page_changed g start now p) (test p) passes).0 in
    pages_covered shape P start now p (upper p n lt) (and_parts (is_ordinary g p) (not (bytes_eq (page start p) (page now p))) differs).0
    (mine shape own taken start now (resource.Page (record { 0 = p })) (taken_page shape taken start now images under p (upper p n lt) differs) differs)) in
    each_append Q (bit_changes shape (gam_place g) start now) _ gam
    (each_append Q (bit_changes shape (sgam_place g) start now) _ sgam
    (each_append Q (run_changes shape start now) _ runs
    (each_append Q (iam_changes shape start now) _ (of_pages (is_iam now))
    (each_append Q (part_changes start now 9 0 8192) (other_changes shape start now) (boot_covered shape own taken start now images under) (of_pages (λ p. not (is_iam now p)))))))
  where
    upper : (p n : ℕ) → p < 0 + n → p < n
    upper p n lt = omega (arith, lt)

-- in the words of a plan's cover
pub are_covered : (P : Resource → Type 0) (shape : FileShape) (cs : List Planned) → Each (IsCovered P shape) cs → AreCoveredBy P shape.geometry shape.pages cs
are_covered P shape [] h = tt
are_covered P shape (c ∷ cs) h = (by_cell c.cell (length c.after) h.0, are_covered P shape cs h.1)
  where
    by_cell : (cell : Cell) (size : ℕ) → IsCellCovered P shape.geometry shape.pages cell size → IsCoveredBy P shape.geometry shape.pages cell size
    by_cell (Bytes p off) size h = (h.0, h.1)
    by_cell (Bit p n) size h = h

pub are_short : (P : Resource → Type 0) (shape : FileShape) (cs : List Planned) → Each (IsCovered P shape) cs → Each (λ c. IsShortCell shape.geometry c.cell (length c.after)) cs
are_short P shape [] h = tt
are_short P shape (c ∷ cs) h = (by_cell c.cell (length c.after) h.0, are_short P shape cs h.1)
  where
    by_cell : (cell : Cell) (size : ℕ) → IsCellCovered P shape.geometry shape.pages cell size → IsShortCell shape.geometry cell size
    by_cell (Bytes p off) size h = h.2
    by_cell (Bit p n) size h = tt
