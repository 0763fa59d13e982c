-- An element of a list of which all are so.
use Rattle.std.proofs.Common.{◌≡◌, ℕ, zero, suc, subst, Bool, true, List, [], ◌∷◌, Some, All, sym, ap, ◌∙◌, get_or}
use Rattle.std.specs.Prelude.{slice_get, unwrap_or}
use Rattle.std.specs.List.{list_all}
use Rattle.std.proofs.lemmas.Bool.{and_parts}
use Rattle.std.proofs.lemmas.Option.{same_Some, slice_get_within, unwrap_or-slice_get}

pub at_place : {A : Type 0} (P : A → Type 0) (xs : List A) (k : ℕ) (x : A) → All P xs → slice_get xs k ≡ Some x → P x
at_place P xs k x all is =
    let same : get_or xs k x ≡ x = sym (unwrap_or-slice_get xs k x) ∙ ap (λ o. unwrap_or o x) is in
    subst P same (all k x (slice_get_within xs k x is))

pub passes_at : {A : Type 0} (p : A → Bool) (xs : List A) (k : ℕ) (x : A) → list_all p xs ≡ true → slice_get xs k ≡ Some x → p x ≡ true
passes_at p [] k x all is = cc
passes_at p (y ∷ ys) zero x all is = ap p (sym (same_Some y x is)) ∙ (and_parts (p y) (list_all p ys) all).0
passes_at p (y ∷ ys) (suc k) x all is = passes_at p ys k x (and_parts (p y) (list_all p ys) all).1 is
