-- Marks and the log that they are of.
use Rattle.std.proofs.Common.{◌≡◌, ℕ, ◌≤◌, Bool, false, List, [], ◌∷◌, length, take, reverse, refl, sym, ap, ◌∙◌}
use Rattle.std.specs.List.{list_any}
use Rattle.std.proofs.lemmas.Bool.{or_parts, or_from}
use Rattle.std.proofs.lemmas.Grind.{reverse_onto}
use Rattle.std.proofs.lemmas.List.Folds.{list_any-append}
use Rattle.std.proofs.lemmas.List.{take_all}

-- where no item passes a test, none of the list backwards does
none_backwards : {X : Type 0} (f : X → Bool) (xs : List X) → list_any f (reverse xs) ≡ false → list_any f xs ≡ false
none_backwards f [] none = refl
none_backwards f (x ∷ xs) none =
    let apart = ap (list_any f) (reverse_onto xs x []) ∙ list_any-append f (reverse xs) (x ∷ []) in
    let parts = or_parts (list_any f (reverse xs)) (list_any f (x ∷ [])) (sym apart ∙ none) in
    or_from (f x) (list_any f xs) (or_parts (f x) false parts.1).0 (none_backwards f xs parts.0)

-- an unmarked page is changed by no item
pub none_changes : {X : Type 0} (f : X → Bool) (items log : List X) (n : ℕ) (marked : Bool) → reverse log ≡ items → length items ≤ n
    → marked ≡ list_any f (take n items) → marked ≡ false → list_any f log ≡ false
none_changes f items log n marked is all mark unmarked =
    none_backwards f log (ap (list_any f) (is ∙ sym (take_all n items all)) ∙ sym mark ∙ unmarked)
