-- Whom the log names as another holder, told by whatever lists the transactions.
use Rattle.std.proofs.Common.{◌≡◌, ◌≢◌, ℕ, zero, suc, Bool, true, false, eqb, not, ◌&&◌, List, [], ◌∷◌, Contains, Option, Some, None, inl, inr, refl, sym, ap, ◌∙◌, subst, arith}
use Rattle.std.specs.Prelude.{MatchOption, find, option_map}
use Rattle.std.proofs.lemmas.Bool.{cases_Bool, and_parts, and_from, eqb-true, eqb-false, both_ways, cond_both, not-true}
use Rattle.spec_file.specs.declared.data.Resource.{Resource}
use Rattle.spec_file.specs.declared.geometry.Geometry.{Geometry}
use Rattle.spec_log.specs.declared.item.Record.{Record}
use Rattle.spec_log.specs.Log.{holds, holder_of, IsFreeFor}
use Rattle.spec_log.specs.Rules.{KeepsRules}
use Rattle.law_undo.proofs.Holders.{holds_parts}
use Rattle.law_undo.proofs.HolderLaws.{IsOther, holder_is_other, holders_are_one}
use Rattle.law_pages.specs.Laws.{HolderIsExact, IsHolderAmong, HolderIsSession, FirstIsAmong}

-- who holds a resource and isn't t is named
named : (g : Geometry) (pages : ℕ) (log : List Record) (r : Resource) (t u : ℕ) → KeepsRules g pages log → u ≢ t → holds log u r ≡ true → holder_of log r t ≡ Some u
named g pages log r t u rules differ held = by_name (holder_of log r t) (holder_is_other log r t)
  where
    by_name : (o : Option ℕ) → MatchOption o (IsFreeFor log t r) (IsOther log r t) → o ≡ Some u
    by_name None free = absurd (differ (free u held))
    by_name (Some v) other = ap Some (holders_are_one g pages log r v u rules other.0 held)

-- where nobody but t holds it, nobody is named
unnamed : (log : List Record) (r : Resource) (t : ℕ) → IsFreeFor log t r → holder_of log r t ≡ None
unnamed log r t free = by_name (holder_of log r t) (holder_is_other log r t)
  where
    by_name : (o : Option ℕ) → MatchOption o (IsFreeFor log t r) (IsOther log r t) → o ≡ None
    by_name None all = refl
    by_name (Some v) other = absurd (other.1 (free v other.0))

pub holder_is_exact : HolderIsExact
holder_is_exact g pages log r t u rules = (
  (λ e. let other = subst (λ o. MatchOption o (IsFreeFor log t r) (IsOther log r t)) e (holder_is_other log r t) in (other.1, other.0)),
  (λ h. named g pages log r t u rules h.0 h.1),
)

pub holder_is_session : (A : Type 0) → HolderIsSession A
holder_is_session A g pages log tran held xs r t None rules lists none =
    unnamed log r t (λ u h.
    let there = lists.whole u (holds_parts log u r h).0 in
    sym there.2 ∙ none there.0 there.1 (lists.exact there.0 there.1 r ∙ ap (λ v. holds log v r) there.2 ∙ h))
holder_is_session A g pages log tran held xs r t (Some u) rules lists found =
    named g pages log r t u rules found.3 (ap (λ v. holds log v r) (sym found.2) ∙ sym (lists.exact found.0 found.1 r) ∙ found.4)

-- in a list with one more in front
later : (A : Type 0) (y x : A) (xs : List A) → Contains xs x → Contains (y ∷ xs) x
later A y x xs c = (suc c.0, omega (arith, c.1), c.2)

-- nobody else holds it, where neither the first does nor one behind
none_among : (A : Type 0) (tran : A → ℕ) (held : A → Resource → Bool) (y : A) (xs : List A) (r : Resource) (t : ℕ) → (held y r && not (eqb (tran y) t)) ≡ false →
    ((x : A) → Contains xs x → held x r ≡ true → tran x ≡ t) → (x : A) → Contains (y ∷ xs) x → held x r ≡ true → tran x ≡ t
none_among A tran held y xs r t e none x (zero, lt, same) h = elim (cases_Bool (eqb (tran y) t)) [
  | inl own ↦ ap tran (sym same) ∙ eqb-true (tran y) t own
  | inr other ↦ absurd (both_ways (held y r && not (eqb (tran y) t)) e (and_from (held y r) (not (eqb (tran y) t)) (ap (λ z. held z r) same ∙ h) (ap not other)))
]
none_among A tran held y xs r t e none x (suc k, lt, same) h = none x (k, omega (arith, lt), same) h

pub first_is_among : (A : Type 0) → FirstIsAmong A
first_is_among A tran held [] r t = λ x c h. absurd (let lt = c.1 in omega (arith, lt))
first_is_among A tran held (y ∷ xs) r t =
    let test = λ (x : A). held x r && not (eqb (tran x) t) in
    cond_both (test y) (Some y) (find test xs) (λ o. IsHolderAmong tran held (y ∷ xs) r t (option_map tran o))
    (λ e. let a = and_parts (held y r) (not (eqb (tran y) t)) e in
    (y, (zero, omega arith, refl), refl, (λ same. eqb-false (tran y) t (not-true (eqb (tran y) t) a.1) same), a.0))
    (λ e. by_rest (find test xs) e (first_is_among A tran held xs r t))
  where
    by_rest : (o : Option A) → (held y r && not (eqb (tran y) t)) ≡ false → IsHolderAmong tran held xs r t (option_map tran o) →
        IsHolderAmong tran held (y ∷ xs) r t (option_map tran o)
    by_rest None e none = none_among A tran held y xs r t e none
    by_rest (Some z) e some = (some.0, later A y some.0 xs some.1, some.2, some.3, some.4)
