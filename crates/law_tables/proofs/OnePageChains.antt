-- An object with one IAM page that holds nothing: its chain has no error, and it owns that page alone.
use Rattle.std.proofs.Common.{◌≡◌, ℕ, zero, suc, ◌*◌, ◌/◌, ◌%◌, ◌<◌, true, List, length, None, refl, sym, ap, subst, ◌∙◌, inl, inr, arith}
use Rattle.std.proofs.lemmas.Bool.{both_ways, lt-ltb, eq-eqb}
use Rattle.spec_file.specs.declared.geometry.Geometry.{Geometry}
use Rattle.spec_file.specs.Image.{Image, page}
use Rattle.spec_file.specs.Places.{interval_size}
use Rattle.spec_file.specs.CatalogRows.{CatalogRow}
use Rattle.spec_file.specs.Iam.{single_slot_count, iam_interval, iam_sequence, iam_slot, iam_mark, has_interval}
use Rattle.spec_file.specs.Roles.{is_ordinary}
use Rattle.spec_chain.specs.declared.end.ChainEnd.TheVariants as end
use Rattle.spec_chain.proofs.ChainLaws.{chain_has_one_length, page_below}
use Rattle.spec_chain.specs.Chains.{pointer, next_of, prev_of, fault_of_bytes, is_last, GoesOn, end_at, holder, HasLength, IsChainPage}
use Rattle.spec_chain.proofs.Pointers.{IsGood, good_fault, inside_nonzero, last_whole}
use Rattle.spec_chain.specs.Marks.{IsMarked}
use Rattle.spec_chain.specs.Uses.{IsUseBy, IsAllocatedTo}
use Rattle.spec_check.specs.declared.report.CheckError.{CheckError}
use Rattle.spec_check.specs.Chains.{IsErrorAt}
use Rattle.spec_steps.specs.IamPages.{IsOnlyIam}
use Rattle.law_frames.proofs.ChainRules.{HasCleanChain, no_end}
use Rattle.law_steps.proofs.FilledSlots.{inside_from}

new_bytes : (g : Geometry) (pages id p : ℕ) (bytes : List ℕ) → 0 < pages → IsOnlyIam id p bytes → fault_of_bytes g pages id p bytes ≡ None
new_bytes g pages id p bytes some new =
    let own = eq-eqb _ id new.object in
    let interval : has_interval g pages (iam_interval bytes) ≡ true = lt-ltb _ pages (subst (λ m. 8 * interval_size g * m < pages) (sym new.interval) (omega (arith, some))) in
    rw (new.says, own, interval) refl

module _ (g : Geometry) (image : Image) (row : CatalogRow) (p : ℕ) (first : row.first_iam ≡ p) (inside : p < length image) (ordinary : is_ordinary g p ≡ true)
    (new : IsOnlyIam row.id p (page image p)) where
  starts : GoesOn g image row zero
  starts =
      let good : IsGood g image row p = record {
        inside = inside_from g p (length image) ordinary inside;
        ordinary = ordinary;
        bytes = new_bytes g (length image) row.id p
            (page image p) (omega (arith, inside)) new;
      } in
      (good_fault g image row zero (subst (IsGood g image row) (sym first) good), λ met. let low = met.1 in omega (arith, low))

  second : pointer image row 1 ≡ 0
  second = ap (λ q. next_of (page image q)) first ∙ new.next

  stops : (end_at g image row 1 ≡ end.Whole) × (GoesOn g image row 1 → ⊥)
  stops = last_whole g image row 1 (subst (λ q. is_last 1 q ≡ true) (sym second) refl)

  pub one_page : HasLength g image row 1
  one_page = record { pages = λ k low. subst (GoesOn g image row) (omega (arith, low)) starts; ends = stops.1 }

  only_first : (k : ℕ) → IsChainPage g image row k → k ≡ 0
  only_first k is = let low = page_below g image row 1 k one_page is in omega (arith, low)

  no_error_at : (k : ℕ) (x : CheckError) → k ≡ 0 → IsErrorAt g image row k x → ⊥
  no_error_at zero x none (inl (wrong, _)) = wrong (ap (λ q. prev_of (page image q)) first ∙ new.prev)
  no_error_at zero x none (inr (inl (wrong, _))) = wrong (ap (λ q. iam_sequence (page image q)) first ∙ new.sequence)
  no_error_at zero x none (inr (inr (inl (j, less, _, _)))) = omega (arith, less)
  no_error_at zero x none (inr (inr (inr (n, low, marked, _, _)))) = both_ways (iam_mark (page image p) n) (new.marks n) (subst (λ q. iam_mark (page image q) n ≡ true) first marked)
  no_error_at (suc k) x none error_ = omega (arith, none)

  pub new_chain : HasCleanChain g image row
  new_chain x (inl (n, long, is)) =
      let one = chain_has_one_length g image row n 1 long one_page in
      no_end row.id (pointer image row n) (holder image row n) (page image (pointer image row n)) (end_at g image row n) x (subst (λ m. end_at g image row m ≡ end.Whole) (sym one) stops.0) is
  new_chain x (inr (inl (k, is, error_))) = no_error_at k x (only_first k is) error_
  new_chain x (inr (inr (i, q, slot, outside, _))) =
      let none : q ≡ 0 = sym slot.2 ∙ ap (λ r. iam_slot (page image r) i) first ∙ new.slots i slot.0 in omega (arith, none, outside, inside)

  -- its one use is its own page, it marks nothing, and no page is allocated to it
  pub new_use : (q place : ℕ) → IsUseBy g image q row place → (q ≡ p) × (place ≡ single_slot_count)
  new_use q place (inl holds) = absurd (inside_nonzero (length image) q holds.1 (sym holds.0.2 ∙ ap (λ r. iam_slot (page image r) place) first ∙ new.slots place holds.0.0))
  new_use q place (inr chain) = (sym chain.1.2 ∙ ap (pointer image row) (only_first chain.1.0 chain.1.1) ∙ first, chain.0)

  pub new_unmarked : (e : ℕ) → IsMarked g image row e → ⊥
  new_unmarked e h =
      let at : pointer image row h.0 ≡ p = ap (pointer image row) (only_first h.0 h.1.0) ∙ first in
      both_ways _ (new.marks (e % interval_size g)) (subst (λ q. iam_mark (page image q) (e % interval_size g) ≡ true) at h.1.2)

  pub has_none : (q : ℕ) → IsAllocatedTo g image row q → ⊥
  has_none q (inl slot) = let at = new_use q slot.0 (inl slot.1) in let low = slot.1.0.0 in let place = at.1 in omega (arith, place, low)
  has_none q (inr marked) = new_unmarked (q / 8) marked.1
