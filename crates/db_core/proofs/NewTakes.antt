-- What was taken and isn't held, in the order of takes, once more is taken.
use Rattle.std.proofs.Common.{◌≡◌, Bool, true, false, not, List, [], ◌∷◌, inl, inr, refl, sym, ap, ◌∙◌, subst}
use Rattle.std.specs.Prelude.{if◌then◌else◌, filter, Result, Ok, Err, OnOk, OnErr}
use Rattle.std.proofs.lemmas.Bool.{cases_Bool, cond_both}
use Rattle.spec_file.specs.declared.data.Resource.{Resource}
use Rattle.spec_log.specs.Items.{is_same}
use Rattle.spec_words.specs.Takes.{comes_before, with_resource, in_order}
use Rattle.law_net.proofs.Takes.{AllOf, Rise, all_filter, rising_order, same_resource}
use Rattle.db_core.specs.SeenPages.{not_held}

-- one that comes before all
in_front : (r : Resource) (xs : List Resource) → AllOf (λ s. comes_before r s ≡ true) xs → with_resource r xs ≡ r ∷ xs
in_front r [] all = refl
in_front r (s ∷ rest) all = ap (λ b. if b then r ∷ (s ∷ rest) else (if is_same r s then s ∷ rest else s ∷ with_resource r rest)) all.0

-- what is kept of a list with one more, which is kept
kept_more : (keep : Resource → Bool) (r : Resource) (rs : List Resource) → Rise (with_resource r rs) → keep r ≡ true →
    filter keep (with_resource r rs) ≡ with_resource r (filter keep rs)
kept_more keep r [] rise own = ap (λ b. if b then r ∷ [] else []) own
kept_more keep r (s ∷ rest) rise own = elim (cases_Bool (comes_before r s)) [
  | inl e ↦
      let first : with_resource r (s ∷ rest) ≡ r ∷ (s ∷ rest) = ap (λ b. if b then r ∷ (s ∷ rest) else (if is_same r s then s ∷ rest else s ∷ with_resource r rest)) e in
      ap (filter keep) first ∙ ap (λ b. if b then r ∷ filter keep (s ∷ rest) else filter keep (s ∷ rest)) own
      ∙ sym (in_front r (filter keep (s ∷ rest)) (all_filter (λ t. comes_before r t ≡ true) keep (s ∷ rest) (subst Rise first rise).0))
  | inr e ↦
      let other : with_resource r (s ∷ rest) ≡ (if is_same r s then s ∷ rest else s ∷ with_resource r rest) =
      ap (λ b. if b then r ∷ (s ∷ rest) else (if is_same r s then s ∷ rest else s ∷ with_resource r rest)) e in
      elim (cases_Bool (is_same r s)) [
        | inl f ↦
            ap (filter keep) (other ∙ ap (λ b. if b then s ∷ rest else s ∷ with_resource r rest) f)
            ∙ ap (λ b. if b then s ∷ filter keep rest else filter keep rest) (subst (λ q. keep q ≡ true) (same_resource r s f) own)
            ∙ sym (ap (λ b. with_resource r (if b then s ∷ filter keep rest else filter keep rest)) (subst (λ q. keep q ≡ true) (same_resource r s f) own)
            ∙ ap (λ b. if b then r ∷ (s ∷ filter keep rest) else (if is_same r s then s ∷ filter keep rest else s ∷ with_resource r (filter keep rest))) e
            ∙ ap (λ b. if b then s ∷ filter keep rest else s ∷ with_resource r (filter keep rest)) f)
        | inr f ↦
            let behind : with_resource r (s ∷ rest) ≡ s ∷ with_resource r rest = other ∙ ap (λ b. if b then s ∷ rest else s ∷ with_resource r rest) f in
            let later = kept_more keep r rest (subst Rise behind rise).1 own in
            ap (filter keep) behind
            ∙ ap (λ l. if keep s then s ∷ l else l) later
            ∙ cond_both (keep s) (s ∷ filter keep rest) (filter keep rest) (λ l. (if keep s then s ∷ with_resource r (filter keep rest) else with_resource r (filter keep rest)) ≡ with_resource r l)
            (λ k. ap (λ b. if b then s ∷ with_resource r (filter keep rest) else with_resource r (filter keep rest)) k
            ∙ sym (ap (λ b. if b then r ∷ (s ∷ filter keep rest) else (if is_same r s then s ∷ filter keep rest else s ∷ with_resource r (filter keep rest))) e
            ∙ ap (λ b. if b then s ∷ filter keep rest else s ∷ with_resource r (filter keep rest)) f))
            (λ k. ap (λ b. if b then s ∷ with_resource r (filter keep rest) else with_resource r (filter keep rest)) k)
      ]
]

-- and one that isn't
dropped_more : (keep : Resource → Bool) (r : Resource) (rs : List Resource) → keep r ≡ false → filter keep (with_resource r rs) ≡ filter keep rs
dropped_more keep r [] own = ap (λ b. if b then r ∷ [] else []) own
dropped_more keep r (s ∷ rest) own =
    cond_both (comes_before r s) (r ∷ (s ∷ rest)) (if is_same r s then s ∷ rest else s ∷ with_resource r rest) (λ l. filter keep l ≡ filter keep (s ∷ rest))
    (λ e. ap (λ b. if b then r ∷ filter keep (s ∷ rest) else filter keep (s ∷ rest)) own)
    (λ e. cond_both (is_same r s) (s ∷ rest) (s ∷ with_resource r rest) (λ l. filter keep l ≡ filter keep (s ∷ rest)) (λ f. refl)
    (λ f. ap (λ l. if keep s then s ∷ l else l) (dropped_more keep r rest own)))

pub newly_more : (own : Resource → Bool) (r : Resource) (taken newly : List Resource) → newly ≡ not_held own taken →
    (if own r then newly else with_resource r newly) ≡ not_held own (r ∷ taken)
newly_more own r taken newly is = elim (cases_Bool (own r)) [
  | inl e ↦ ap (λ b. if b then newly else with_resource r newly) e ∙ is
      ∙ sym (dropped_more (λ s. not (own s)) r (in_order taken) (ap not e))
  | inr e ↦ ap (λ b. if b then newly else with_resource r newly) e ∙ ap (with_resource r) is
      ∙ sym (kept_more (λ s. not (own s)) r (in_order taken) (rising_order (r ∷ taken)) (ap not e))
]

pub newly_or_not : {T E : Type 0} (result : Result T E) (own : Resource → Bool) (r : Resource) (old new newly after : List Resource) → OnOk result (new ≡ r ∷ old) →
    OnOk result (after ≡ (if own r then newly else with_resource r newly)) → OnErr result (new ≡ old) → OnErr result (after ≡ newly) →
    newly ≡ not_held own old → after ≡ not_held own new
newly_or_not (Ok _) own r old new newly after more put same kept is = put ∙ newly_more own r old newly is ∙ sym (ap (not_held own) more)
newly_or_not (Err _) own r old new newly after more put same kept is = kept ∙ is ∙ sym (ap (not_held own) same)
