-- What was found, when one page more is met.
use Rattle.std.proofs.Common.{◌≡◌, ◌⊎◌, ℕ, zero, suc, ◌+◌, ◌<◌, List, [], ◌∷◌, ◌++◌, Contains, length, take, get_or, arith, sym, subst, ◌∙◌, refl, inl, inr, ⊎_elim, Ordering}
use Rattle.std.specs.Ordering.{nat_cmp, ordering_then}
use Rattle.std.specs.List.Sorted.{IsStrictlySortedBy}
use Rattle.std.specs.declared.cmp.Ordering.TheVariants.{Less, Equal, Greater}
use Rattle.std.proofs.lemmas.List.{take_more}
use Rattle.std.proofs.lemmas.List.Elements.{Contains-get_or, Contains-append_left, Contains-append_right, Contains-append_cases, Contains-push, Contains-push_cases}
use Rattle.spec_file.specs.Image.{Image}
use Rattle.spec_check.specs.declared.report.CheckError.{CheckError}
use Rattle.ck_error.specs.Gathered.{Gathers, Adds}
use Rattle.ck_error.proofs.GatheringLaws.{gathers_as, gathers_more}
use Rattle.ck_facts.specs.declared.facts.Fact.{Fact}
use Rattle.ck_facts.specs.declared.map.AllocMap.{AllocMap}
use Rattle.ck_facts.specs.Maps.{HasNoSystemErrors}
use Rattle.ck_facts.specs.MapOf.{IsMapOf}
use Rattle.ck_facts.specs.Owners.{Owned, IsOwnerIn, AreOwnersIn, owned_cmp}
use Rattle.ck_scan.specs.declared.findings.Findings.{Findings}
use Rattle.ck_scan.specs.Shown.{IsErrorAt, IsFactAt, Among, WithPage}
use Rattle.ck_scan.specs.Found.{AreFound, AddsPage, IsOwnerAmong}
use Rattle.spec_check.proofs.Members.{nothing_there, cons_cases, below, rest_sorted}
use Rattle.ck_scan.proofs.Rising.{less_from}
use Rattle.ck_scan.proofs.CountLaws.{counts_more, counts_as}

among_more : {Z : Type 0} (Met : Owned → Type 0) (u : Owned) (Shows : Owned → Z → Type 0) (x : Z)
    → Among Met Shows x ⊎ Shows u x → Among (WithPage Met u) Shows x
among_more {Z} Met u Shows x h = ⊎_elim (λ was. (was.0, inl was.1, was.2)) (λ now. (u, inr refl, now)) h

among_less : {Z : Type 0} (Met : Owned → Type 0) (u : Owned) (Shows : Owned → Z → Type 0) (x : Z)
    → Among (WithPage Met u) Shows x → Among Met Shows x ⊎ Shows u x
among_less {Z} Met u Shows x h = ⊎_elim (λ was. inl (h.0, was, h.2)) (λ e. inr (subst (λ v. Shows v x) (sym e) h.2)) h.1

among_as : {Z : Type 0} (Met Other : Owned → Type 0) (Shows : Owned → Z → Type 0) (xs : List Z) → ((v : Owned) → Met v → Other v)
    → ((v : Owned) → Other v → Met v) → Gathers xs (Among Met Shows) → Gathers xs (Among Other Shows)
among_as {Z} Met Other Shows xs there back h = gathers_as xs (Among Met Shows) (Among Other Shows)
    (λ x s. (s.0, there s.0 s.1, s.2)) (λ x s. (s.0, back s.0 s.1, s.2)) h

errors_more : (image : Image) (m : AllocMap) (Met : Owned → Type 0) (u : Owned) (old new : List CheckError)
    → Gathers old (Among Met (IsErrorAt m.geometry image)) → Adds old new (IsErrorAt m.geometry image u) → Gathers new (Among (WithPage Met u) (IsErrorAt m.geometry image))
errors_more image m Met u old new h a = gathers_as new (λ x. Among Met (IsErrorAt m.geometry image) x ⊎ IsErrorAt m.geometry image u x)
    (Among (WithPage Met u) (IsErrorAt m.geometry image)) (among_more Met u (IsErrorAt m.geometry image)) (among_less Met u (IsErrorAt m.geometry image))
    (gathers_more old new (Among Met (IsErrorAt m.geometry image)) (IsErrorAt m.geometry image u) h a)

facts_more : (image : Image) (m : AllocMap) (Met : Owned → Type 0) (u : Owned) (held more : List Fact)
    → Gathers held (Among Met (IsFactAt m.geometry image)) → Gathers more (IsFactAt m.geometry image u) → Gathers (held ++ more) (Among (WithPage Met u) (IsFactAt m.geometry image))
facts_more image m Met u held more h a = record {
  sound = λ x c. among_more Met u (IsFactAt m.geometry image) x (⊎_elim (λ was. inl (h.sound x was)) (λ now. inr (a.sound x now)) (Contains-append_cases held more x c));
  complete = λ x s. ⊎_elim (λ was. Contains-append_left held more x (h.complete x was)) (λ now. Contains-append_right held more x (a.complete x now))
      (among_less Met u (IsFactAt m.geometry image) x s);
}

pub found_more : (image : Image) (m : AllocMap) (Met : Owned → Type 0) (u : Owned) (old new : Findings) → IsMapOf image m → HasNoSystemErrors m
    → (Met u → ⊥) → AreFound image m Met old → AddsPage image m u old new → AreFound image m (WithPage Met u) new
found_more image m Met u old new of sound fresh h a = record {
  errors = errors_more image m Met u old.errors.items new.errors.items h.errors a.errors;
  facts = h.facts ++ a.more;
  held = a.held.holds h.facts h.held;
  each = facts_more image m Met u h.facts a.more h.each a.each;
  lines = counts_more image m Met u old.lines.items new.lines.items of sound fresh h.lines a.lines;
}

pub found_as : (image : Image) (m : AllocMap) (Met Other : Owned → Type 0) (found : Findings) → ((v : Owned) → Met v → Other v)
    → ((v : Owned) → Other v → Met v) → AreFound image m Met found → AreFound image m Other found
found_as image m Met Other found there back h = record {
  errors = among_as Met Other (IsErrorAt m.geometry image) found.errors.items there back h.errors;
  facts = h.facts;
  held = h.held;
  each = among_as Met Other (IsFactAt m.geometry image) h.facts there back h.each;
  lines = counts_as image m Met Other found.lines.items there back h.lines;
}

-- The pages of one extent, in their order.

-- those of other extents, and the first k of this one
abbrev pub IsReached : Image → AllocMap → List ℕ → List Owned → ℕ → Owned → Type 0
IsReached image m others owned k v = IsOwnerAmong image m others v ⊎ Contains (take k owned) v

less_than : {K : Type 0} (R : K → K → Ordering) (xs : List K) (k : ℕ) (d v : K) → IsStrictlySortedBy R xs → k < length xs → Contains (take k xs) v
    → R v (get_or xs k d) ≡ Less
less_than R [] k d v s low c = absurd (omega (arith, low))
less_than R (x ∷ xs) zero d v s low c = absurd (nothing_there v c)
less_than R (x ∷ xs) (suc k) d v s low c =
    let rest : k < length xs = omega (arith, low) in
    ⊎_elim (λ e. subst (λ w. R w (get_or xs k d) ≡ Less) e (below R x xs (get_or xs k d) s (Contains-get_or xs k d rest)))
    (λ later. less_than R xs k d v (rest_sorted R x xs s) rest later) (cons_cases x (take k xs) v c)

then_cases : (o p : Ordering) → ordering_then o p ≡ Less → (o ≡ Less) ⊎ ((o ≡ Equal) × (p ≡ Less))
then_cases Less p h = inl refl
then_cases Equal p h = inr (refl, h)
then_cases Greater p h = absurd (cc)

page_before : (v u : Owned) → owned_cmp v u ≡ Less → v.1.0 ≡ u.1.0 → v.0.0 < u.0.0
page_before v u less same = ⊎_elim (λ before. less_from v.0.0 u.0.0 before)
    (λ tied. let never = less_from v.1.0 u.1.0 tied.1 in absurd (omega (arith, never, same)))
    (then_cases (nat_cmp v.0.0 u.0.0) (nat_cmp v.1.0 u.1.0) less)

reached_new : (image : Image) (m : AllocMap) (others : List ℕ) (e : ℕ) (owned : List Owned) (k : ℕ) (d : Owned) → AreOwnersIn m.geometry image e owned
    → k < length owned → (Contains others e → ⊥) → IsReached image m others owned k (get_or owned k d) → ⊥
reached_new image m others e owned k d are low fresh met = ⊎_elim
    (λ among. let here = (are.sound (get_or owned k d) (Contains-get_or owned k d low)).extent in
    fresh (subst (Contains others) (sym among.2.extent ∙ here) among.1))
    (λ first. let same = page_before (get_or owned k d) (get_or owned k d) (less_than owned_cmp owned k d (get_or owned k d) are.sorted low first) refl in
    absurd (omega (arith, same))) met

reached_next : (image : Image) (m : AllocMap) (others : List ℕ) (owned : List Owned) (k : ℕ) (d : Owned) (found : Findings) → k < length owned
    → AreFound image m (WithPage (IsReached image m others owned k) (get_or owned k d)) found → AreFound image m (IsReached image m others owned (k + 1)) found
reached_next image m others owned k d found low h =
    let more : take (k + 1) owned ≡ take k owned ++ get_or owned k d ∷ [] = take_more owned k d low in
    found_as image m (WithPage (IsReached image m others owned k) (get_or owned k d)) (IsReached image m others owned (k + 1)) found
    (λ v met. ⊎_elim (λ was. ⊎_elim (λ before. inl before)
    (λ first. inr (subst (λ l. Contains l v) (sym more) (Contains-append_left (take k owned) (get_or owned k d ∷ []) v first))) was)
    (λ same. inr (subst (λ l. Contains l v) (sym more) (subst (Contains (take k owned ++ get_or owned k d ∷ [])) same (Contains-push (take k owned) (get_or owned k d))))) met)
    (λ v met. ⊎_elim (λ before. inl (inl before))
    (λ now. ⊎_elim (λ first. inl (inr first)) (λ same. inr same) (Contains-push_cases (take k owned) (get_or owned k d) v (subst (λ l. Contains l v) more now))) met) h

pub reached_first : (image : Image) (m : AllocMap) (others : List ℕ) (owned : List Owned) (found : Findings)
    → AreFound image m (IsOwnerAmong image m others) found → AreFound image m (IsReached image m others owned 0) found
reached_first image m others owned found h = found_as image m (IsOwnerAmong image m others) (IsReached image m others owned 0) found
    (λ v met. inl met) (λ v met. ⊎_elim (λ before. before) (λ none. absurd (nothing_there v none)) met) h

pub reached_last : (image : Image) (m : AllocMap) (others : List ℕ) (e : ℕ) (owned : List Owned) (k : ℕ) (found : Findings) → AreOwnersIn m.geometry image e owned
    → take k owned ≡ owned → AreFound image m (IsReached image m others owned k) found → AreFound image m (IsOwnerAmong image m (others ++ e ∷ [])) found
reached_last image m others e owned k found are all h = found_as image m (IsReached image m others owned k) (IsOwnerAmong image m (others ++ e ∷ [])) found
    (λ v met. ⊎_elim (λ before. (before.0, Contains-append_left others (e ∷ []) before.0 before.1, before.2))
    (λ here. (e, Contains-push others e, are.sound v (subst (λ l. Contains l v) all here))) met)
    (λ v met. ⊎_elim (λ was. inl (met.0, was, met.2))
    (λ same. inr (subst (λ l. Contains l v) (sym all) (are.complete v (subst (λ n. IsOwnerIn m.geometry image n v) (sym same) met.2)))) (Contains-push_cases others e met.0 met.1)) h

pub reached_step : (image : Image) (m : AllocMap) (others : List ℕ) (e : ℕ) (owned : List Owned) (k : ℕ) (d : Owned) (old new : Findings)
    → IsMapOf image m → HasNoSystemErrors m → AreOwnersIn m.geometry image e owned → k < length owned → (Contains others e → ⊥)
    → AreFound image m (IsReached image m others owned k) old → AddsPage image m (get_or owned k d) old new → AreFound image m (IsReached image m others owned (k + 1)) new
reached_step image m others e owned k d old new of sound are low fresh was adds = reached_next image m others owned k d new low
    (found_more image m (IsReached image m others owned k) (get_or owned k d) old new of sound (reached_new image m others e owned k d are low fresh) was adds)

pub owner_at : (image : Image) (m : AllocMap) (e : ℕ) (owned : List Owned) (k : ℕ) (d : Owned) → AreOwnersIn m.geometry image e owned
    → k < length owned → IsOwnerIn m.geometry image e (get_or owned k d)
owner_at image m e owned k d are low = are.sound (get_or owned k d) (Contains-get_or owned k d low)
