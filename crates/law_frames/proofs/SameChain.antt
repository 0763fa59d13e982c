-- A chain whose pages link up as before is the same chain.
use Rattle.std.proofs.Common.{◌≡◌, ◌↔◌, ℕ, zero, suc, ◌%◌, ◌<◌, true, IsTrue, List, length, Option, Some, None, refl, sym, ap, subst, ◌∙◌, inl, inr, ⊎_elim, arith}
use Rattle.std.proofs.lemmas.Bool.{cases_eq}
use Rattle.spec_file.specs.declared.geometry.Geometry.{Geometry}
use Rattle.spec_file.specs.Image.{Image, page}
use Rattle.spec_file.specs.Places.{interval_size, is_inside}
use Rattle.spec_file.specs.CatalogRows.{CatalogRow}
use Rattle.spec_file.specs.Iam.{single_slot_count, iam_interval, iam_slot, iam_mark}
use Rattle.spec_chain.specs.declared.end.ChainEnd.{ChainEnd}
use Rattle.spec_chain.specs.Chains.{next_of, pointer, or_else, is_last, fault_of_number, fault_of_bytes, first_fault, GoesOn, IsChainPage, HasPages, HasLength, IsInChain, end_at}
use Rattle.spec_chain.proofs.Pointers.{whole_last, last_whole}
use Rattle.spec_chain.specs.Marks.{IsMarked}
use Rattle.spec_chain.specs.Uses.{IsSlot, HoldsPage, IsUseBy}
use Rattle.spec_steps.specs.IamPages.{SameLinks, SameMarks, SameSlots, OnChain}
use Rattle.spec_chain.specs.declared.end.ChainEnd.TheVariants as end

-- the chain ends after its last page
abbrev pub EndsWhole : Geometry → Image → CatalogRow → Type 0
EndsWhole g image row = (n : ℕ) → HasLength g image row n → end_at g image row n ≡ end.Whole

-- the object has the same chain
pub record SameChain (g : Geometry) (image image' : Image) (row : CatalogRow) : Type 0 where
  pub size : length image' ≡ length image
  pub pages : (k : ℕ) → IsChainPage g image' row k ↔ IsChainPage g image row k
  pub pointers : (k : ℕ) → HasPages g image row k → pointer image' row k ≡ pointer image row k
  pub links : OnChain g image image' row SameLinks
  pub whole : EndsWhole g image' row

fault_same : (g : Geometry) (pages id q : ℕ) (old new : List ℕ) → SameLinks old new → fault_of_bytes g pages id q new ≡ fault_of_bytes g pages id q old
fault_same g pages id q old new same = rw (same.type, same.number, same.object, same.interval) refl

-- a pointer at a page of the chain
pub shorter : (g : Geometry) (image : Image) (row : CatalogRow) (k : ℕ) → HasPages g image row (suc k) → HasPages g image row k
shorter g image row k pages = λ j low. pages j (omega (arith, low))

longer : (g : Geometry) (image : Image) (row : CatalogRow) (k : ℕ) → HasPages g image row k → GoesOn g image row k → HasPages g image row (suc k)
longer g image row k pages on j low = ⊎_elim (λ here. subst (GoesOn g image row) (sym here) on) (λ other. pages j (omega (arith, low, other))) (cases_eq j k)

pointer_kept : (g : Geometry) (image image' : Image) (row : CatalogRow) → OnChain g image image' row SameLinks → (k : ℕ) → HasPages g image row k → pointer image' row k ≡ pointer image row k
pointer_kept g image image' row links zero pages = refl
pointer_kept g image image' row links (suc k) pages =
    ap (λ q. next_of (page image' q)) (pointer_kept g image image' row links k (shorter g image row k pages)) ∙ (links k pages).next

-- a chain of which the first k pages are kept goes on with the next one as before
fault_kept : (g : Geometry) (image image' : Image) (row : CatalogRow) (k : ℕ) → length image' ≡ length image → OnChain g image image' row SameLinks
    → HasPages g image row (suc k) → first_fault g image' row k ≡ first_fault g image row k
fault_kept g image image' row k size links pages =
    let q = pointer image row k in
    let here = pointer_kept g image image' row links k (shorter g image row k pages) in
    ap (λ r. or_else (fault_of_number g (length image') k r) (fault_of_bytes g (length image') row.id r (page image' r))) here
    ∙ ap (λ n. or_else (fault_of_number g n k q) (fault_of_bytes g n row.id q (page image' q))) size
    ∙ ap (λ f. or_else (fault_of_number g (length image) k q) f) (fault_same g (length image) row.id q (page image q) (page image' q) (links k pages))

goes_kept : (g : Geometry) (image image' : Image) (row : CatalogRow) (k : ℕ) → length image' ≡ length image → OnChain g image image' row SameLinks
    → HasPages g image row (suc k) → GoesOn g image' row k
goes_kept g image image' row k size links pages =
    let on = pages k (omega arith) in
    let at = λ (j : ℕ) (low : j < suc k). let w : pointer image' row j ≡ pointer image row j = pointer_kept g image image' row links j (λ i less. pages i (omega (arith, less, low))) in w in (
      fault_kept g image image' row k size links pages ∙ on.0,
      λ met. on.1 (met.0, met.1, sym (at met.0 (let low = met.1 in omega (arith, low))) ∙ met.2 ∙ at k (omega arith)),
    )

pages_in : (g : Geometry) (image image' : Image) (row : CatalogRow) → length image' ≡ length image → OnChain g image image' row SameLinks
    → (k : ℕ) → HasPages g image row k → HasPages g image' row k
pages_in g image image' row size links k pages j low = goes_kept g image image' row j size links (λ i less. pages i (omega (arith, less, low)))

-- what can't but go on goes on
no_fault : (fault : Option ChainEnd) → ((fault ≡ None → ⊥) → ⊥) → fault ≡ None
no_fault None h = refl
no_fault (Some f) h = absurd (h (λ e. cc))

goes_stable : (g : Geometry) (image : Image) (row : CatalogRow) (k : ℕ) → ((GoesOn g image row k → ⊥) → ⊥) → GoesOn g image row k
goes_stable g image row k h = (no_fault (first_fault g image row k) (λ f. h (λ on. f on.0)), λ met. h (λ on. on.1 met))

pages_from : (g : Geometry) (image image' : Image) (row : CatalogRow) → OnChain g image image' row SameLinks → EndsWhole g image row
    → (k : ℕ) → HasPages g image' row k → HasPages g image row k
pages_from g image image' row links whole zero pages = λ j low. absurd (omega (arith, low))
pages_from g image image' row links whole (suc k) pages =
    let before = pages_from g image image' row links whole k (shorter g image' row k pages) in
    longer g image row k before (goes_stable g image row k (λ ends.
    let last = whole_last g image row k (whole k (record { pages = before; ends = ends })) in
    let last_ = subst (λ q. is_last k q ≡ true) (sym (pointer_kept g image image' row links k before)) last in
    (last_whole g image' row k last_).1 (pages k (omega arith))))

pub chain_kept : (g : Geometry) (image image' : Image) (row : CatalogRow) → length image' ≡ length image → EndsWhole g image row
    → OnChain g image image' row SameLinks → SameChain g image image' row
chain_kept g image image' row size whole links = record {
  size = size;
  pages = λ k. (pages_from g image image' row links whole (suc k), pages_in g image image' row size links (suc k));
  pointers = pointer_kept g image image' row links;
  links = links;
  whole = λ n long.
      let pages = pages_from g image image' row links whole n long.pages in
      let ends = λ (on : GoesOn g image row n). let w : ⊥ = long.ends (goes_kept g image image' row n size links (longer g image row n pages on)) in w in
      let last = whole_last g image row n (whole n (record { pages = pages; ends = ends })) in
      (last_whole g image' row n (subst (λ q. is_last n q ≡ true) (sym (pointer_kept g image image' row links n pages)) last)).0;
}

-- the pages of a kept chain, its marks and its slots
pub at_page : (g : Geometry) (image image' : Image) (row : CatalogRow) → SameChain g image image' row → (k : ℕ) → IsChainPage g image row k → pointer image' row k ≡ pointer image row k
at_page g image image' row kept k is = kept.pointers k (shorter g image row k is)

pub in_chain_kept : (g : Geometry) (image image' : Image) (row : CatalogRow) (p : ℕ) → SameChain g image image' row → IsInChain g image' row p ↔ IsInChain g image row p
in_chain_kept g image image' row p kept = (
  λ h. let is = (kept.pages h.0).0 h.1 in (h.0, is, sym (at_page g image image' row kept h.0 is) ∙ h.2),
  λ h. (h.0, (kept.pages h.0).1 h.1, at_page g image image' row kept h.0 h.1 ∙ h.2),
)

pub marks_kept : (g : Geometry) (image image' : Image) (row : CatalogRow) (e : ℕ) → SameChain g image image' row → OnChain g image image' row SameMarks
    → IsMarked g image' row e ↔ IsMarked g image row e
marks_kept g image image' row e kept marks = (
  λ h. let is = (kept.pages h.0).0 h.1.0 in
      let q = at_page g image image' row kept h.0 is in (
        h.0,
        (
          is,
          sym (kept.links h.0 is).interval ∙ ap (λ r. iam_interval (page image' r)) (sym q) ∙ h.1.1,
          sym (marks h.0 is (e % interval_size g)) ∙ ap (λ r. iam_mark (page image' r) (e % interval_size g)) (sym q) ∙ h.1.2,
        ),
      ),
  λ h. let q = at_page g image image' row kept h.0 h.1.0 in (
    h.0,
    (
      (kept.pages h.0).1 h.1.0,
      ap (λ r. iam_interval (page image' r)) q ∙ (kept.links h.0 h.1.0).interval ∙ h.1.1,
      ap (λ r. iam_mark (page image' r) (e % interval_size g)) q ∙ marks h.0 h.1.0 (e % interval_size g) ∙ h.1.2,
    ),
  ),
)

-- a slot after the change: of the first page of the chain as it was
pub slot_from : (g : Geometry) (image image' : Image) (row : CatalogRow) (i q : ℕ) → SameChain g image image' row → IsSlot g image' row i q
    → (i < single_slot_count) × IsChainPage g image row zero × (iam_slot (page image' (pointer image row zero)) i ≡ q)
slot_from g image image' row i q kept slot = (slot.0, (kept.pages zero).0 slot.1, slot.2)

pub slots_kept : (g : Geometry) (image image' : Image) (row : CatalogRow) (i p : ℕ) → SameChain g image image' row → OnChain g image image' row SameSlots
    → HoldsPage g image' row i p ↔ HoldsPage g image row i p
slots_kept g image image' row i p kept slots = (
  λ h. let is = (kept.pages zero).0 h.0.1 in ((h.0.0, is, sym (slots zero is i h.0.0) ∙ h.0.2), subst (λ n. IsTrue (is_inside n p)) kept.size h.1),
  λ h. ((h.0.0, (kept.pages zero).1 h.0.1, slots zero h.0.1 i h.0.0 ∙ h.0.2), subst (λ n. IsTrue (is_inside n p)) (sym kept.size) h.1),
)

pub uses_kept : (g : Geometry) (image image' : Image) (row : CatalogRow) (p place : ℕ) → SameChain g image image' row → OnChain g image image' row SameSlots
    → IsUseBy g image' p row place ↔ IsUseBy g image p row place
uses_kept g image image' row p place kept slots =
    let chain = in_chain_kept g image image' row p kept in let slot = slots_kept g image image' row place p kept slots in (
      λ h. ⊎_elim (λ s. inl (slot.0 s)) (λ c. inr (c.0, chain.0 c.1)) h,
      λ h. ⊎_elim (λ s. inl (slot.1 s)) (λ c. inr (c.0, chain.1 c.1)) h,
    )
