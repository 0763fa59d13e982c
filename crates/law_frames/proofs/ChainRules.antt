-- A kept chain has no error where it had none, if its new marks and slots are inside the file.
use Rattle.std.proofs.Common.{◌≡◌, ◌⊎◌, ℕ, zero, suc, ◌+◌, ◌*◌, ◌/◌, ◌<◌, ◌≤◌, IsTrue, List, length, Some, None, refl, sym, ap, subst, ◌∙◌, inl, inr, ⊎_elim, arith}
use Rattle.std.proofs.lemmas.Bool.{cases_eq}
use Rattle.spec_file.specs.declared.geometry.Geometry.{Geometry}
use Rattle.spec_file.specs.Image.{Image, page}
use Rattle.spec_file.specs.Places.{interval_size, extent_count}
use Rattle.spec_file.specs.CatalogRows.{CatalogRow}
use Rattle.spec_file.specs.Iam.{single_slot_count, iam_interval, iam_sequence, iam_slot, iam_mark}
use Rattle.spec_chain.specs.declared.end.ChainEnd.{ChainEnd}
use Rattle.spec_chain.specs.declared.end.ChainEnd.TheVariants as end
use Rattle.spec_chain.specs.Chains.{prev_of, pointer, end_at, holder, IsChainPage}
use Rattle.spec_check.specs.declared.report.CheckError.{CheckError}
use Rattle.spec_check.specs.Chains.{error_of_end, before, interval_at, IsErrorAt, IsErrorOfChain}
use Rattle.law_frames.proofs.SameChain.{at_page, slot_from, shorter}
use Rattle.spec_steps.specs.IamPages.{OnChain}
use Rattle.law_frames.proofs.SameChain.{EndsWhole, SameChain}

abbrev pub HasCleanChain : Geometry → Image → CatalogRow → Type 0
HasCleanChain g image row = (x : CheckError) → IsErrorOfChain g image row x → ⊥

only_whole : (id q p : ℕ) (bytes : List ℕ) (last : ChainEnd) → ((x : CheckError) → error_of_end id q p bytes last ≡ Some x → ⊥) → last ≡ end.Whole
only_whole id q p bytes end.Whole h = refl
only_whole id q p bytes end.Outside h = absurd (h _ refl)
only_whole id q p bytes end.NotIam h = absurd (h _ refl)
only_whole id q p bytes end.OtherObject h = absurd (h _ refl)
only_whole id q p bytes end.WrongInterval h = absurd (h _ refl)
only_whole id q p bytes end.Met h = absurd (h _ refl)

pub clean_whole : (g : Geometry) (image : Image) (row : CatalogRow) → HasCleanChain g image row → EndsWhole g image row
clean_whole g image row clean n long =
    only_whole row.id (pointer image row n) (holder image row n) (page image (pointer image row n)) (end_at g image row n) (λ x is. clean x (inl (n, long, is)))

-- what may be new on a page of the chain: marks and slots inside the file
pub record HasMarksInside (g : Geometry) (pages : ℕ) (old new : List ℕ) : Type 0 where
  pub inside : (n : ℕ) → n < interval_size g → IsTrue (iam_mark new n) → IsTrue (iam_mark old n) ⊎ (interval_size g * iam_interval new + n < pages / 8)

pub record HasSlotsInside (pages : ℕ) (old new : List ℕ) : Type 0 where
  pub inside : (i : ℕ) → i < single_slot_count → (iam_slot new i ≡ iam_slot old i) ⊎ (iam_slot new i < pages)

-- of slots only those of the chain's first page count
abbrev pub FirstSlotsInside : Geometry → Image → Image → CatalogRow → Type 0
FirstSlotsInside g image image' row = IsChainPage g image row zero → HasSlotsInside (length image') (page image (pointer image row zero)) (page image' (pointer image row zero))

-- the page before the k-th
before_kept : (g : Geometry) (image image' : Image) (row : CatalogRow) (k : ℕ) → SameChain g image image' row → IsChainPage g image row k → before image' row k ≡ before image row k
before_kept g image image' row zero kept is = refl
before_kept g image image' row (suc k) kept is = at_page g image image' row kept k (shorter g image row (suc k) is)

pub no_end : (id q p : ℕ) (bytes : List ℕ) (last : ChainEnd) (x : CheckError) → last ≡ end.Whole → error_of_end id q p bytes last ≡ Some x → ⊥
no_end id q p bytes last x whole is = let none : None ≡ Some x = sym (ap (error_of_end id q p bytes) whole) ∙ is in cc

interval_kept : (g : Geometry) (image image' : Image) (row : CatalogRow) (k : ℕ) → SameChain g image image' row → IsChainPage g image row k → interval_at image' row k ≡ interval_at image row k
interval_kept g image image' row k kept is = ap (λ r. iam_interval (page image' r)) (at_page g image image' row kept k is) ∙ (kept.links k is).interval

earlier : (g : Geometry) (image : Image) (row : CatalogRow) (j k : ℕ) → j < k → IsChainPage g image row k → IsChainPage g image row j
earlier g image row j k less is i low = is i (omega (arith, less, low))

no_error_at : (g : Geometry) (image image' : Image) (row : CatalogRow) (k : ℕ) (x : CheckError) → HasCleanChain g image row → SameChain g image image' row
    → OnChain g image image' row (HasMarksInside g (length image')) → IsChainPage g image row k → IsErrorAt g image' row k x → ⊥
no_error_at g image image' row k x clean kept marks is (inl (wrong, _)) =
    let q = at_page g image image' row kept k is in
    let prev : prev_of (page image (pointer image row k)) ≡ before image row k = ⊎_elim (λ same. same)
    (λ differ. absurd (clean _ (inr (inl (k, is, inl (differ, refl)))))) (cases_eq (prev_of (page image (pointer image row k))) (before image row k)) in
    wrong (ap (λ r. prev_of (page image' r)) q ∙ (kept.links k is).prev ∙ prev ∙ sym (before_kept g image image' row k kept is))
no_error_at g image image' row k x clean kept marks is (inr (inl (wrong, _))) =
    let q = at_page g image image' row kept k is in
    let sequence : iam_sequence (page image (pointer image row k)) ≡ k = ⊎_elim (λ same. same)
    (λ differ. absurd (clean _ (inr (inl (k, is, inr (inl (differ, refl))))))) (cases_eq (iam_sequence (page image (pointer image row k))) k) in
    wrong (ap (λ r. iam_sequence (page image' r)) q ∙ (kept.links k is).sequence ∙ sequence)
no_error_at g image image' row k x clean kept marks is (inr (inr (inl (j, less, first, _)))) =
    let own = interval_kept g image image' row k kept is in
    let at = λ (i : ℕ) (low : i < k). let w : interval_at image' row i ≡ interval_at image row i = interval_kept g image image' row i kept (earlier g image row i k low is) in w in
    clean _ (inr (inl (
      k,
      is,
      inr (inr (inl (
        j,
        less,
        record {
          is = sym (at j less) ∙ first.is ∙ own;
          first = λ i low same. first.first i low (at i (omega (arith, low, less)) ∙ same ∙ sym own);
        },
        refl,
      ))),
    )))
no_error_at g image image' row k x clean kept marks is (inr (inr (inr (n, low, marked, outside, _)))) =
    let q = at_page g image image' row kept k is in
    let new : IsTrue (iam_mark (page image' (pointer image row k)) n) = ap (λ r. iam_mark (page image' r) n) (sym q) ∙ marked in
    let same : interval_at image' row k ≡ interval_at image row k = interval_kept g image image' row k kept is in
    let here : interval_at image' row k ≡ iam_interval (page image' (pointer image row k)) = ap (λ r. iam_interval (page image' r)) q in
    ⊎_elim
    (λ old. clean _ (inr (inl (
      k,
      is,
      inr (inr (inr (
        n,
        low,
        old,
        subst (λ m. extent_count image ≤ interval_size g * m + n) same
            (subst (λ l. l / 8 ≤ interval_size g * interval_at image' row k + n) kept.size outside),
        refl,
      ))),
    ))))
    (λ inside. let beyond = subst (λ m. length image' / 8 ≤ interval_size g * m + n) here outside in omega (arith, inside, beyond))
    ((marks k is).inside n low new)

pub chain_clean : (g : Geometry) (image image' : Image) (row : CatalogRow) → HasCleanChain g image row → SameChain g image image' row
    → OnChain g image image' row (HasMarksInside g (length image')) → FirstSlotsInside g image image' row → HasCleanChain g image' row
chain_clean g image image' row clean kept marks slots x (inl (n, long, is)) =
    no_end row.id (pointer image' row n) (holder image' row n) (page image' (pointer image' row n)) (end_at g image' row n) x (kept.whole n long) is
chain_clean g image image' row clean kept marks slots x (inr (inl (k, is, error_))) =
    no_error_at g image image' row k x clean kept marks ((kept.pages k).0 is) error_
chain_clean g image image' row clean kept marks slots x (inr (inr (i, q, slot, outside, _))) =
    let old = slot_from g image image' row i q kept slot in ⊎_elim
    (λ same. clean _ (inr (inr (i, q, (slot.0, old.1, sym same ∙ old.2), subst (λ n. n ≤ q) kept.size outside, refl))))
    (λ inside. let is = old.2 in omega (arith, inside, outside, is))
    ((slots old.1).inside i slot.0)
