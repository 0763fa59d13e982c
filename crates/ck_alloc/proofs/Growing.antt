-- How lists of errors grow by the rules of extents and pages.
use Rattle.std.proofs.Common.{◌≡◌, ℕ, ◌≤◌, Bool, IsTrue, List, [], ◌∷◌, ◌++◌, length, get_or, map, sym, ap, subst, refl, arith, ◌∙◌}
use Rattle.std.proofs.lemmas.List.{length-map}
use Rattle.spec_check.specs.declared.report.CheckError.{CheckError}
use Rattle.spec_check.specs.Pages.{two_uses, GivesTwoUses}
use Rattle.ck_error.specs.Gathered.{Adds}
use Rattle.ck_error.proofs.GatheringLaws.{adds_push, adds_as}
use Rattle.ck_facts.specs.declared.map.PageUse.{PageUse}
use Rattle.ck_facts.specs.Maps.{use_of}

pub adds_if : (xs ys : List CheckError) (b c : Bool) (e m : CheckError) → b ≡ c → e ≡ m → Adds xs ys (λ x. IsTrue b × (x ≡ e))
    → Adds xs ys (λ x. IsTrue c × (x ≡ m))
adds_if xs ys b c e m same is a =
    subst (λ n. Adds xs ys (λ x. IsTrue c × (x ≡ n))) is (subst (λ t. Adds xs ys (λ x. IsTrue t × (x ≡ e))) same a)

pub two_of : (p : ℕ) (uses : List PageUse) (d : PageUse) (xs ys : List CheckError) (e : CheckError) → 2 ≤ length uses → ys ≡ xs ++ e ∷ []
    → e ≡ two_uses p (use_of (get_or uses 0 d)) (use_of (get_or uses 1 d)) (length uses) → Adds xs ys (GivesTwoUses p (map use_of uses))
two_of p [] d xs ys e h is says = absurd (omega (arith, h))
two_of p (u ∷ []) d xs ys e h is says = absurd (omega (arith, h))
two_of p (u ∷ (v ∷ rest)) d xs ys e h is says =
    let long : length (map use_of (u ∷ (v ∷ rest))) ≡ length (u ∷ (v ∷ rest)) = length-map (u ∷ (v ∷ rest)) use_of in
    let named : e ≡ two_uses p (use_of u) (use_of v) (length (map use_of (u ∷ (v ∷ rest)))) = says ∙ ap (two_uses p (use_of u) (use_of v)) (sym long) in
    subst (λ l. Adds xs l (GivesTwoUses p (map use_of (u ∷ (v ∷ rest))))) (sym is)
    (adds_as xs (xs ++ e ∷ []) (λ x. x ≡ e) (GivesTwoUses p (map use_of (u ∷ (v ∷ rest))))
    (λ x q. (use_of u, use_of v, map use_of rest, refl, q ∙ named))
    (λ x q. let first : use_of u ≡ q.0 = cc in let second : use_of v ≡ q.1 = cc in q.4 ∙ (sym (ap (λ w. two_uses p w q.1 (length (map use_of (u ∷ (v ∷ rest))))) first) ∙ sym (named ∙ ap (λ w. two_uses p (use_of u) w (length (map use_of (u ∷ (v ∷ rest))))) second)))
    (adds_push xs e))
