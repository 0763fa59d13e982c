-- Who holds a resource.
use Rattle.std.proofs.Common.{◌≡◌, ◌≢◌, ℕ, true, false, eqb, not, ◌&&◌, List, [], ◌∷◌, Option, Some, None, inl, inr, sym, ap, ◌∙◌, subst}
use Rattle.std.specs.Prelude.{MatchOption}
use Rattle.std.specs.List.{list_any}
use Rattle.std.proofs.lemmas.Bool.{false≢true, cases_Bool, or_cases, and_parts, and_from, eqb-true, eqb-false, both_ways, cond_both, not-true}
use Rattle.spec_file.specs.declared.data.Resource.{Resource}
use Rattle.spec_file.specs.declared.geometry.Geometry.{Geometry}
use Rattle.spec_log.specs.declared.item.Record.{Record}
use Rattle.spec_log.specs.declared.item.Record.TheVariants.{Start, Change, Undo, Commit, Abort, Snap, Failed, CheckEnd}
use Rattle.spec_log.specs.Items.{tran_of, is_same}
use Rattle.spec_log.proofs.ItemLaws.{starts_tran}
use Rattle.spec_log.specs.Log.{starts, takes_it, has_started, holds, IsFreeFor, holder_among, holder_of}
use Rattle.spec_log.specs.Rules.{Follows}
use Rattle.law_undo.proofs.Holders.{holds_parts, taken_started, holds_older}
use Rattle.law_undo.specs.Laws.{HolderIsOther, HoldersAreOne}

abbrev pub IsOther : List Record → Resource → ℕ → ℕ → Type 0
IsOther log r t u = (holds log u r ≡ true) × (u ≢ t)

-- what the search through a part of the log answers
abbrev pub Found : List Record → List Record → Resource → ℕ → Option ℕ → Type 0
Found log part r t found = MatchOption found ((u : ℕ) → has_started part u ≡ true → holds log u r ≡ true → u ≡ t) (IsOther log r t)

found : (log part : List Record) (r : Resource) (t : ℕ) → Found log part r t (holder_among log part r t)
found log [] r t = λ u h held. absurd (false≢true h)
found log (x ∷ part) r t =
    cond_both (holds log (tran_of x) r && not (eqb (tran_of x) t)) (Some (tran_of x)) (holder_among log part r t) (Found log (x ∷ part) r t)
    (λ e. let a = and_parts (holds log (tran_of x) r) (not (eqb (tran_of x) t)) e in
    (a.0, λ same. eqb-false (tran_of x) t (not-true (eqb (tran_of x) t) a.1) same))
    (λ e. by_rest (holder_among log part r t) e (found log part r t))
  where
    own : (holds log (tran_of x) r && not (eqb (tran_of x) t)) ≡ false → holds log (tran_of x) r ≡ true → tran_of x ≡ t
    own e held = elim (cases_Bool (eqb (tran_of x) t)) [
      | inl same ↦ eqb-true (tran_of x) t same
      | inr other ↦ absurd (both_ways (holds log (tran_of x) r && not (eqb (tran_of x) t)) e (and_from (holds log (tran_of x) r) (not (eqb (tran_of x) t)) held (ap not other)))
    ]

    by_rest : (rest : Option ℕ) → (holds log (tran_of x) r && not (eqb (tran_of x) t)) ≡ false → Found log part r t rest → Found log (x ∷ part) r t rest
    by_rest None e none = λ u h held. elim (or_cases (starts u x) (has_started part u) h) [
      | inl here ↦ subst (λ w. holds log w r ≡ true → w ≡ t) (starts_tran u x here) (own e) held
      | inr there ↦ none u there held
    ]
    by_rest (Some u) e some = some

pub holder_is_other : HolderIsOther
holder_is_other log r t = whole (holder_of log r t) (found log log r t)
  where
    whole : (o : Option ℕ) → Found log log r t o → MatchOption o (IsFreeFor log t r) (IsOther log r t)
    whole None none = λ u held. none u (taken_started log u r (holds_parts log u r held).1) held
    whole (Some u) some = some

-- where the log names no other holder, the resource is free
pub none_other : (log : List Record) (r : Resource) (t : ℕ) → holder_of log r t ≡ None → IsFreeFor log t r
none_other log r t e = subst (λ o. MatchOption o (IsFreeFor log t r) (IsOther log r t)) e (holder_is_other log r t)

takes_once : (x : Record) (t u : ℕ) (r : Resource) → takes_it t r x ≡ true → takes_it u r x ≡ true → t ≡ u
takes_once (Start session index tran number changes size takes) t u r h k =
    sym (eqb-true tran.0 t (and_parts (eqb tran.0 t) (list_any (is_same r) takes) h).0) ∙ eqb-true tran.0 u (and_parts (eqb tran.0 u) (list_any (is_same r) takes) k).0
takes_once (Change tran cell before after) t u r h k = absurd (false≢true h)
takes_once (Undo tran change) t u r h k = absurd (false≢true h)
takes_once (Commit tran) t u r h k = absurd (false≢true h)
takes_once (Abort tran) t u r h k = absurd (false≢true h)
takes_once (Snap session index) t u r h k = absurd (false≢true h)
takes_once (Failed session index failed) t u r h k = absurd (false≢true h)
takes_once (CheckEnd session index outcome) t u r h k = absurd (false≢true h)

takes_free : (g : Geometry) (pages : ℕ) (x : Record) (older : List Record) (t : ℕ) (r : Resource) → Follows g pages older x → takes_it t r x ≡ true → IsFreeFor older t r
takes_free g pages (Start session index tran number changes size takes) older t r f h =
    let p = and_parts (eqb tran.0 t) (list_any (is_same r) takes) h in
    subst (λ u. IsFreeFor older u r) (eqb-true tran.0 t p.0) (f.1 r p.1)
takes_free g pages (Change tran cell before after) older t r f h = absurd (false≢true h)
takes_free g pages (Undo tran change) older t r f h = absurd (false≢true h)
takes_free g pages (Commit tran) older t r f h = absurd (false≢true h)
takes_free g pages (Abort tran) older t r f h = absurd (false≢true h)
takes_free g pages (Snap session index) older t r f h = absurd (false≢true h)
takes_free g pages (Failed session index failed) older t r f h = absurd (false≢true h)
takes_free g pages (CheckEnd session index outcome) older t r f h = absurd (false≢true h)

pub holders_are_one : HoldersAreOne
holders_are_one g pages [] r t u rs h k = absurd (false≢true (holds_parts [] t r h).1)
holders_are_one g pages (x ∷ older) r t u rs h k =
    elim (holds_older x older t r h) [
      | inl a ↦ elim (holds_older x older u r k) [
        | inl b ↦ holders_are_one g pages older r t u rs.1 a b
        | inr b ↦ takes_free g pages x older u r rs.0 b t a
      ]
      | inr a ↦ elim (holds_older x older u r k) [
        | inl b ↦ sym (takes_free g pages x older t r rs.0 a u b)
        | inr b ↦ takes_once x t u r a b
      ]
    ]
