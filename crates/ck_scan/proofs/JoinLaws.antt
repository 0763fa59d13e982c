-- Findings of two kinds of pages that share none, joined.
use Rattle.std.proofs.Common.{◌≡◌, ◌⊎◌, ℕ, List, [], ◌∷◌, ◌++◌, Contains, length, sym, subst, ◌∙◌, inl, inr, ⊎_elim}
use Rattle.std.proofs.lemmas.List.Elements.{Contains-append_left, Contains-append_right, Contains-append_cases}
use Rattle.spec_file.specs.Image.{Image}
use Rattle.ck_error.specs.Gathered.{Gathers, Adds}
use Rattle.ck_facts.specs.declared.map.AllocMap.{AllocMap}
use Rattle.ck_facts.specs.Owners.{Owned}
use Rattle.ck_scan.specs.declared.findings.Findings.{Findings}
use Rattle.ck_scan.specs.Shown.{IsErrorAt, IsFactAt, Among}
use Rattle.ck_scan.specs.Found.{AreFound, AreFoundIn, AreJoined, IsOwnerAmong}
use Rattle.ck_scan.proofs.CountLaws.{counts_both}
use Rattle.ck_scan.proofs.FoundLaws.{found_as}
use Rattle.ck_scan.proofs.OnceLaws.{once_front, once_rest, once_apart, once_last}

-- pages of either kind
abbrev Either : (Owned → Type 0) → (Owned → Type 0) → Owned → Type 0
Either First Second u = First u ⊎ Second u

adds_among : {Z : Type 0} (First Second : Owned → Type 0) (Shows : Owned → Z → Type 0) (old other new : List Z)
    → Gathers old (Among First Shows) → Gathers other (Among Second Shows) → Adds old new (Contains other) → Gathers new (Among (Either First Second) Shows)
adds_among {Z} First Second Shows old other new h k a = record {
  sound = λ x c. ⊎_elim (λ was. let s = h.sound x was in (s.0, inl s.1, s.2)) (λ more. let s = k.sound x more in (s.0, inr s.1, s.2)) (a.sound x c);
  complete = λ x s. ⊎_elim (λ one. a.kept x (h.complete x (s.0, one, s.2))) (λ two. a.complete x (k.complete x (s.0, two, s.2))) s.1;
}

appended : {Z : Type 0} (old more : List Z) → Adds old (old ++ more) (Contains more)
appended {Z} old more = record {
  sound = λ x c. Contains-append_cases old more x c;
  kept = λ x c. Contains-append_left old more x c;
  complete = λ x c. Contains-append_right old more x c;
}

found_both : (image : Image) (m : AllocMap) (First Second : Owned → Type 0) (one two now : Findings) → length image ≡ m.pages
    → ((u : Owned) → First u → Second u → ⊥) → AreFound image m First one → AreFound image m Second two → AreJoined one two now
    → AreFound image m (Either First Second) now
found_both image m First Second one two now pages never h k joined = record {
  errors = adds_among First Second (IsErrorAt m.geometry image) one.errors.items two.errors.items now.errors.items h.errors k.errors joined.errors;
  facts = h.facts ++ k.facts;
  held = joined.holds h.facts k.facts h.held k.held;
  each = adds_among First Second (IsFactAt m.geometry image) h.facts k.facts (h.facts ++ k.facts) h.each k.each (appended h.facts k.facts);
  lines = counts_both image m First Second one.lines.items two.lines.items now.lines.items pages never h.lines k.lines joined.lines;
}

-- what two lists of extents show, of which none was drawn twice
pub found_in_both : (image : Image) (m : AllocMap) (xs ys : List ℕ) (one two now : Findings) → length image ≡ m.pages
    → AreFoundIn image m xs one → AreFoundIn image m ys two → AreJoined one two now → AreFoundIn image m (xs ++ ys) now
found_in_both image m xs ys one two now pages h k joined once =
    found_as image m (Either (IsOwnerAmong image m xs) (IsOwnerAmong image m ys)) (IsOwnerAmong image m (xs ++ ys)) now
    (λ u met. ⊎_elim (λ a. (a.0, Contains-append_left xs ys a.0 a.1, a.2)) (λ b. (b.0, Contains-append_right xs ys b.0 b.1, b.2)) met)
    (λ u met. ⊎_elim (λ a. inl (met.0, a, met.2)) (λ b. inr (met.0, b, met.2)) (Contains-append_cases xs ys met.0 met.1))
    (found_both image m (IsOwnerAmong image m xs) (IsOwnerAmong image m ys) one two now pages
    (λ u a b. once_apart xs ys a.0 once a.1 (subst (Contains ys) (sym b.2.extent ∙ a.2.extent) b.1))
    (h (once_front xs ys once)) (k (once_rest xs ys once)) joined)

-- one extent more
pub found_drawn : (image : Image) (m : AllocMap) (xs : List ℕ) (e : ℕ) (old new : Findings) → AreFoundIn image m xs old
    → ((Contains xs e → ⊥) → AreFound image m (IsOwnerAmong image m xs) old → AreFound image m (IsOwnerAmong image m (xs ++ e ∷ [])) new)
    → AreFoundIn image m (xs ++ e ∷ []) new
found_drawn image m xs e old new was step once = step (once_last xs e once) (was (once_front xs (e ∷ []) once))
