-- The pages that a statement reads behind an object's chain are those allocated to the object.
use Rattle.std.specs.Prelude.{◌≡◌, ℕ, zero, suc, ◌+◌, ◌/◌, ◌%◌, ◌<◌, ◌==◌, ◌&&◌, ◌||◌, Bool, true, not, nat_lt, List, length, Contains}
use Rattle.std.specs.List.{range_with_len, list_any}
use Rattle.std.specs.Ordering.{nat_cmp}
use Rattle.std.proofs.Common.{refl, ap, ◌∙◌, sym, subst, inl, inr, arith}
use Rattle.std.proofs.lemmas.Bool.{and_parts, and_from, or_cases, or_left, or_right, eqb-true, eq-eqb, ne_eqb, lt-ltb, not_from_false}
use Rattle.std.proofs.lemmas.Cmp.{nat_cmp_total}
use Rattle.std.proofs.lemmas.List.Kept.{IsStrictlySortedBy-filter}
use Rattle.spec_file.specs.declared.geometry.Geometry.{Geometry}
use Rattle.spec_file.specs.declared.geometry.Geometry.TheVariants.{Standard, Small}
use Rattle.spec_file.specs.Image.{Image, page}
use Rattle.spec_file.specs.Places.{interval_size, interval_of_page}
use Rattle.spec_file.specs.CatalogRows.{CatalogRow}
use Rattle.spec_file.specs.Iam.{single_slot_count, iam_interval, iam_slot, iam_slots, iam_mark}
use Rattle.spec_chain.specs.Chains.{pointer}
use Rattle.spec_chain.proofs.ChainLaws.{page_below, below_page}
use Rattle.spec_chain.specs.Marks.{IsMarked}
use Rattle.spec_chain.specs.Uses.{HoldsPage, is_allocated, IsAllocatedTo}
use Rattle.spec_check.proofs.Members.{filter_from, filter_in, range_from, range_in, range_sorted}
use Rattle.spec_plan.specs.Reading.{first_page, is_single, is_marked}
use Rattle.spec_words.specs.Views.{View}
use Rattle.spec_words.specs.Tables.{object_pages}
use Rattle.law_chains.specs.Laws.{chain_pages, IsWhole, PagesAreAllocated, PagesRise}
use Rattle.spec_chain.proofs.Pointers.{whole_last, last_parts, inside_below, inside_nonzero}
use Rattle.law_chains.proofs.Ranges.{found_from, found_in}

-- a whole chain has a page
pub some_page : (g : Geometry) (image : Image) (row : CatalogRow) (n : ℕ) → IsWhole g image row n → 0 < n
some_page g image row n chain =
    let other = (last_parts n (pointer image row n) (whole_last g image row n chain.whole)).1 in omega (arith, other)

pub first_is : (image : Image) (row : CatalogRow) (n : ℕ) → 0 < n → first_page (chain_pages image row n) ≡ pointer image row zero
first_is image row zero some = absurd (omega (arith, some))
first_is image row (suc n) some = refl

-- the interval of a page is that of its extent
pub intervals : (g : Geometry) (p : ℕ) → interval_of_page g p ≡ p / 8 / interval_size g
intervals Standard p = omega arith
intervals Small p = omega arith

pub slot_from : (g : Geometry) (image : Image) (row : CatalogRow) (n p : ℕ) → IsWhole g image row n → p < length image
    → is_single image (chain_pages image row n) p ≡ true → (i : ℕ) × HoldsPage g image row i p
slot_from g image row n p chain below single =
    let some = some_page g image row n chain in
    let slots = iam_slots (page image (first_page (chain_pages image row n))) in
    let parts = and_parts (not (p == 0)) (list_any (λ q. q == p) slots) single in
    let found = found_from (λ q. q == p) (iam_slot (page image (first_page (chain_pages image row n)))) single_slot_count parts.1 in
    let is = ap (λ q. iam_slot (page image q) found.0) (sym (first_is image row n some)) ∙ eqb-true _ p found.2 in
    (found.0, ((found.1, below_page g image row n 0 chain.pages.pages some, is), and_from (not (p == 0)) (nat_lt p (length image)) parts.0 (lt-ltb p (length image) below)))

pub slot_in : (g : Geometry) (image : Image) (row : CatalogRow) (n p i : ℕ) → IsWhole g image row n → HoldsPage g image row i p
    → is_single image (chain_pages image row n) p ≡ true
slot_in g image row n p i chain holds =
    let some = some_page g image row n chain in
    let is = ap (λ q. iam_slot (page image q) i) (first_is image row n some) ∙ holds.0.2 in
    and_from (not (p == 0)) (list_any (λ q. q == p) (iam_slots (page image (first_page (chain_pages image row n)))))
    (not_from_false (p == 0) (ne_eqb p 0 (inside_nonzero (length image) p holds.1)))
    (found_in (λ q. q == p) (iam_slot (page image (first_page (chain_pages image row n)))) single_slot_count i holds.0.0 (eq-eqb _ p is))

pub mark_from : (g : Geometry) (image : Image) (row : CatalogRow) (n p : ℕ) → IsWhole g image row n
    → is_marked g image (chain_pages image row n) p ≡ true → IsMarked g image row (p / 8)
mark_from g image row n p chain marked =
    let size = interval_size g in
    let found = found_from (λ q. (iam_interval (page image q) == interval_of_page g p) && iam_mark (page image q) ((p / 8) % size)) (pointer image row) n marked in
    let q = pointer image row found.0 in
    let parts = and_parts (iam_interval (page image q) == interval_of_page g p) (iam_mark (page image q) ((p / 8) % size)) found.2 in
    (found.0, (below_page g image row n found.0 chain.pages.pages found.1, eqb-true _ _ parts.0 ∙ intervals g p, parts.1))

pub mark_in : (g : Geometry) (image : Image) (row : CatalogRow) (n p : ℕ) → IsWhole g image row n → IsMarked g image row (p / 8)
    → is_marked g image (chain_pages image row n) p ≡ true
mark_in g image row n p chain marked =
    let size = interval_size g in
    let q = pointer image row marked.0 in
    found_in (λ q. (iam_interval (page image q) == interval_of_page g p) && iam_mark (page image q) ((p / 8) % size)) (pointer image row) n marked.0
    (page_below g image row n marked.0 chain.pages marked.1.0)
    (and_from (iam_interval (page image q) == interval_of_page g p) (iam_mark (page image q) ((p / 8) % size))
    (eq-eqb _ _ (marked.1.1 ∙ sym (intervals g p))) marked.1.2)

abbrev is_read : View → List ℕ → ℕ → Bool
is_read view chain p = is_single view.now chain p || (is_marked view.shape.geometry view.now chain p && is_allocated view.shape.geometry view.now p)

allocated_from : (view : View) (row : CatalogRow) (n p : ℕ) → length view.now ≡ view.shape.pages → IsWhole view.shape.geometry view.now row n
    → Contains (object_pages view.shape (chain_pages view.now row n) view) p → IsAllocatedTo view.shape.geometry view.now row p
allocated_from view row n p long chain has =
    let g = view.shape.geometry in
    let image = view.now in
    let pages = chain_pages image row n in
    let kept = filter_from (is_read view pages) (range_with_len 0 view.shape.pages) p has in
    let below = subst (λ m. p < m) (sym long) (range_from view.shape.pages p kept.0) in
    elim (or_cases (is_single image pages p) (is_marked g image pages p && is_allocated g image p) kept.1) [
      | inl single ↦ inl (slot_from g image row n p chain below single)
      | inr both ↦ let parts = and_parts (is_marked g image pages p) (is_allocated g image p) both in
          inr (below, mark_from g image row n p chain parts.0, parts.1)
    ]

allocated_in : (view : View) (row : CatalogRow) (n p : ℕ) → length view.now ≡ view.shape.pages → IsWhole view.shape.geometry view.now row n
    → IsAllocatedTo view.shape.geometry view.now row p → Contains (object_pages view.shape (chain_pages view.now row n) view) p
allocated_in view row n p long chain allocated =
    let g = view.shape.geometry in
    let image = view.now in
    let pages = chain_pages image row n in
    elim allocated [
      | inl slot ↦ filter_in (is_read view pages) (range_with_len 0 view.shape.pages) p (range_in view.shape.pages p (subst (λ m. p < m) long (inside_below (length image) p slot.1.1)))
          (or_left (is_single image pages p) (is_marked g image pages p && is_allocated g image p) (slot_in g image row n p slot.0 chain slot.1))
      | inr marked ↦ filter_in (is_read view pages) (range_with_len 0 view.shape.pages) p (range_in view.shape.pages p (subst (λ m. p < m) long marked.0))
          (or_right (is_single image pages p) (is_marked g image pages p && is_allocated g image p)
          (and_from (is_marked g image pages p) (is_allocated g image p) (mark_in g image row n p chain marked.1) marked.2))
    ]

pub pages_are_allocated : PagesAreAllocated
pages_are_allocated view row n p long chain = (allocated_from view row n p long chain, allocated_in view row n p long chain)

pub pages_rise : PagesRise
pages_rise view chain =
    IsStrictlySortedBy-filter nat_cmp (is_read view chain) (range_with_len 0 view.shape.pages)
    (range_sorted nat_cmp nat_cmp_total view.shape.pages (λ k below. let less = lt-ltb k (k + 1) (omega arith) in rw less refl))
