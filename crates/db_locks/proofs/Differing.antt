-- Images that differ only under what was taken still do, once more is taken, or a page is put that differs only there.
use Rattle.std.proofs.Common.{◌≡◌, ℕ, ◌<◌, true, List, [], ◌∷◌, length, refl, sym, ap, ◌∙◌, subst, get_or-set_same, get_or-set_other, inl, inr}
use Rattle.std.specs.Prelude.{slice_set, slice_index, Result, Ok, Err, OnOk, OnErr}
use Rattle.std.specs.Int.{bit_at}
use Rattle.std.specs.List.{list_any}
use Rattle.std.proofs.lemmas.Bool.{cases_eq, or_right}
use Rattle.spec_file.specs.declared.data.Resource.{Resource}
use Rattle.spec_file.specs.Image.{Image, page}
use Rattle.spec_log.specs.Items.{is_same}
use Rattle.spec_words.specs.NetChanges.{FileShape}
use Rattle.spec_words.specs.Takes.{is_among, with_resource, in_order}
use Rattle.law_net.specs.Files.{IsGuardedBy, DifferUnder}
use Rattle.law_net.proofs.GoodViews.{guarded_weaker}
use Rattle.db_locks.specs.Guards.{DifferOnPage}

pub none_differ : (shape : FileShape) (taken : List Resource) (image : Image) → DifferUnder shape taken image image
none_differ shape taken image p i j here there low other = absurd (other refl)

pub more_taken : (shape : FileShape) (r : Resource) (taken : List Resource) (start now : Image) → DifferUnder shape taken start now → DifferUnder shape (r ∷ taken) start now
more_taken shape r taken start now differ p i j here there low other =
    guarded_weaker (λ s. is_among taken s ≡ true) (λ s. is_among (r ∷ taken) s ≡ true) shape p i j
    (λ s mine. or_right (is_same s r) (list_any (is_same s) taken) mine)
    (differ p i j here there low other)

pub page_differs : (shape : FileShape) (taken : List Resource) (start now : Image) (p : ℕ) (bytes : List ℕ) → p < length now → DifferUnder shape taken start now →
    DifferOnPage taken shape p (page now p) bytes → DifferUnder shape taken start (slice_set now p bytes)
page_differs shape taken start now p bytes inside differ here q i j lt there low other = elim (cases_eq q p) [
  | inl e ↦
      let put : page (slice_set now p bytes) q ≡ bytes = ap (λ k. page (slice_set now p bytes) k) e ∙ get_or-set_same now p bytes [] inside in
      elim (cases_eq (bit_at (slice_index (page start q) i) j) (bit_at (slice_index (page now q) i) j)) [
        | inl same ↦
            subst (λ k. Guarded k) (sym e) (here i j there low (λ again.
            other (same ∙ ap (λ k. bit_at (slice_index (page now k) i) j) e ∙ again ∙ ap (λ bs. bit_at (slice_index bs i) j) (sym put))))
        | inr differs ↦ differ q i j lt there low differs
      ]
  | inr ne ↦ differ q i j lt there low (λ same. other (same ∙ ap (λ bs. bit_at (slice_index bs i) j) (sym (get_or-set_other now p q bytes [] ne))))
]
  where
    Guarded : ℕ → Type 0
    Guarded k = IsGuardedBy (λ r. is_among taken r ≡ true) shape k i j

-- what was taken has one more, or is as before
pub taken_or_not : {T E : Type 0} (result : Result T E) (shape : FileShape) (r : Resource) (old new : List Resource) (start now : Image) → OnOk result (new ≡ r ∷ old) → OnErr result (new ≡ old) →
    DifferUnder shape old start now → DifferUnder shape new start now
taken_or_not (Ok _) shape r old new start now more same differ = subst (λ taken. DifferUnder shape taken start now) (sym more) (more_taken shape r old start now differ)
taken_or_not (Err _) shape r old new start now more same differ = subst (λ taken. DifferUnder shape taken start now) (sym same) differ

-- and so in the order of takes
pub ordered_or_not : {T E : Type 0} (result : Result T E) (r : Resource) (old new ordered after : List Resource) → OnOk result (new ≡ r ∷ old) → OnOk result (after ≡ with_resource r ordered) →
    OnErr result (new ≡ old) → OnErr result (after ≡ ordered) → ordered ≡ in_order old → after ≡ in_order new
ordered_or_not (Ok _) r old new ordered after more put same kept e = put ∙ ap (with_resource r) e ∙ sym (ap in_order more)
ordered_or_not (Err _) r old new ordered after more put same kept e = kept ∙ e ∙ sym (ap in_order same)
