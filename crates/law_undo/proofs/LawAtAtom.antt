-- The law at one atom: undoing what is unfinished gives what was committed.
use Rattle.std.proofs.Common.{◌≡◌, ℕ, Bool, true, false, eqb, not, ◌&&◌, ◌||◌, List, [], ◌∷◌, ◌++◌, Option, Some, None, ◌⊎◌, inl, inr, refl, sym, ap, ◌∙◌, subst}
use Rattle.std.specs.Prelude.{if◌then◌else◌, MatchOption}
use Rattle.std.proofs.lemmas.Bool.{false≢true, cases_Bool, or_cases, and_from, eq-eqb, both_ways, or_left, or_right}
use Rattle.spec_log.specs.declared.item.Record.{Record}
use Rattle.spec_log.specs.declared.item.Record.TheVariants.{Start, Change, Undo, Commit, Abort, Snap, Failed, CheckEnd}
use Rattle.spec_log.specs.Items.{tran_of}
use Rattle.spec_log.specs.Log.{commits, ends, has_ended, has_committed, has_taken, is_unfinished, holds, IsFreeFor, left_of}
use Rattle.spec_log.specs.Sound.{is_old}
use Rattle.law_undo.proofs.Atoms.{Atom, change_on, write_on, over, under, applied_at, taken_back_at, IsQuiet, taken_back_at-same, applied_at-same}
use Rattle.law_undo.proofs.Holders.{RulesAt, unfinished_parts, holds_parts, AreQuiet, quiet_without_take}

abbrev pub start_at : Atom → List Record → ℕ → ℕ
start_at k opened b = taken_back_at (is_unfinished opened) k opened b

abbrev pub final_at : Atom → List Record → List Record → ℕ → ℕ
final_at k opened h b = applied_at (λ _. true) k opened h b

abbrev pub committed_at : Atom → List Record → List Record → ℕ → ℕ
committed_at k opened h b = applied_at (has_committed h) k opened h (start_at k opened b)

abbrev pub view_at : ℕ → Atom → List Record → List Record → ℕ → ℕ
view_at t k opened h b = applied_at (λ u. has_committed h u || eqb u t) k opened h (start_at k opened b)

-- each change that is left finds what the one below it left, from v up to w
abbrev pub Chain : Atom → List (ℕ × Record) → ℕ → ℕ → Type 0
Chain k [] v w = v ≡ w
Chain k (p ∷ ps) v w = MatchOption (change_on k p.1) (Chain k ps v w) (λ q. (w ≡ q.1) × Chain k ps v q.0)

pub record LawAt (k : Atom) (b : ℕ) (opened h : List Record) : Type 0 where
  pub undone : taken_back_at (is_unfinished (h ++ opened)) k (h ++ opened) (final_at k opened h b) ≡ committed_at k opened h b
  pub seen : (t : ℕ) → is_old opened t ≡ false → has_ended (h ++ opened) t ≡ false → IsFreeFor (h ++ opened) t (k.guard) → view_at t k opened h b ≡ final_at k opened h b
  pub chained : (t : ℕ) → is_old opened t ≡ false → holds (h ++ opened) t (k.guard) ≡ true → Chain k (left_of t (h ++ opened)) (committed_at k opened h b) (final_at k opened h b)

-- small tools
if_same : (b : Bool) (x : ℕ) → (if b then x else x) ≡ x
if_same true x = refl
if_same false x = refl

pub applied_still : (c : ℕ → Bool) (k : Atom) (opened h : List Record) (x : Record) (v : ℕ) → write_on (h ++ opened) k x ≡ None → applied_at c k opened (x ∷ h) v ≡ applied_at c k opened h v
applied_still c k opened h x v n =
    ap (λ w. if c (tran_of x) then over w (applied_at c k opened h v) else applied_at c k opened h v) n ∙ if_same (c (tran_of x)) (applied_at c k opened h v)

pub taken_back_still : (c : ℕ → Bool) (k : Atom) (g : List Record) (x : Record) (v : ℕ) → write_on g k x ≡ None → taken_back_at c k (x ∷ g) v ≡ taken_back_at c k g v
taken_back_still c k g x v n =
    ap (taken_back_at c k g) (ap (λ w. if c (tran_of x) then under w v else v) n ∙ if_same (c (tran_of x)) v)

nobody : (k : Atom) (g : List Record) (v : ℕ) → taken_back_at (λ _. false) k g v ≡ v
nobody k [] v = refl
nobody k (x ∷ g) v = nobody k g v

pub taken_back_none : (p : ℕ → Bool) (k : Atom) (g : List Record) (v : ℕ) → ((t : ℕ) → (p t ≡ false) ⊎ IsQuiet t k g) → taken_back_at p k g v ≡ v
taken_back_none p k g v h = taken_back_at-same p (λ _. false) k g v h ∙ nobody k g v

pub Chain-quiet : (k : Atom) (ps : List (ℕ × Record)) (v w : ℕ) → AreQuiet k ps → v ≡ w → Chain k ps v w
Chain-quiet k [] v w q e = e
Chain-quiet k (p ∷ ps) v w q e =
    subst (λ o. MatchOption o (Chain k ps v w) (λ r. (w ≡ r.1) × Chain k ps v r.0)) (sym q.0) (Chain-quiet k ps v w q.1 e)

pub committed_ended : (h opened : List Record) (t : ℕ) → has_committed h t ≡ true → has_ended (h ++ opened) t ≡ true
committed_ended [] opened t e = absurd (false≢true e)
committed_ended (x ∷ h) opened t e =
    elim (or_cases (commits t x) (has_committed h t) e) [
      | inl c ↦ or_left (ends t x) (has_ended (h ++ opened) t) (commits_ends t x c)
      | inr c ↦ or_right (ends t x) (has_ended (h ++ opened) t) (committed_ended h opened t c)
    ]
  where
    commits_ends : (t : ℕ) (x : Record) → commits t x ≡ true → ends t x ≡ true
    commits_ends t (Start session index tran number changes size takes) c = c
    commits_ends t (Change tran cell before after) c = c
    commits_ends t (Undo tran change) c = c
    commits_ends t (Commit tran) c = c
    commits_ends t (Abort tran) c = absurd (false≢true c)
    commits_ends t (Snap session index) c = c
    commits_ends t (Failed session index page) c = c
    commits_ends t (CheckEnd session index outcome) c = c

pub not_true : (b : Bool) → not b ≡ true → b ≡ false
not_true true h = absurd (false≢true h)
not_true false h = refl

pub not_committed : (h opened : List Record) (t : ℕ) → is_unfinished (h ++ opened) t ≡ true → has_committed h t ≡ false
not_committed h opened t u =
    elim (cases_Bool (has_committed h t)) [
      | inl c ↦ absurd (both_ways (has_ended (h ++ opened) t) (not_true (has_ended (h ++ opened) t) (unfinished_parts (h ++ opened) t u).not_ended) (committed_ended h opened t c))
      | inr c ↦ c
    ]

-- an unfinished transaction that does not hold the page of a byte is quiet there
pub quiet_or_holds : (g : List Record) (t : ℕ) (k : Atom) → RulesAt k g → is_unfinished g t ≡ true → IsQuiet t k g ⊎ (holds g t (k.guard) ≡ true)
quiet_or_holds g t k r u =
    elim (cases_Bool (has_taken g t (k.guard))) [
      | inl e ↦ inr (and_from (is_unfinished g t) (has_taken g t (k.guard)) u e)
      | inr e ↦ inl (quiet_without_take t k g r e)
    ]

-- what an item of this run does to a byte, if it does anything
pub record Writes (k : Atom) (b : ℕ) (opened h : List Record) (t : ℕ) (q : ℕ × ℕ) : Type 0 where
  pub holder : holds (h ++ opened) t (k.guard) ≡ true
  pub finds : q.0 ≡ final_at k opened h b

-- items that begin and end nothing
pub undone_step : (k : Atom) (b : ℕ) (opened h : List Record) (x : Record) →
    ((u : ℕ) → is_unfinished (x ∷ (h ++ opened)) u ≡ is_unfinished (h ++ opened) u) →
    ((u : ℕ) → has_committed (x ∷ h) u ≡ has_committed h u) →
    (o : Option (ℕ × ℕ)) → write_on (h ++ opened) k x ≡ o →
    MatchOption o (Unit {0}) (Writes k b opened h (tran_of x)) →
    LawAt k b opened h →
    taken_back_at (is_unfinished (x ∷ (h ++ opened))) k (x ∷ (h ++ opened)) (final_at k opened (x ∷ h) b) ≡ committed_at k opened (x ∷ h) b
undone_step k b opened h x unf csame None e w law =
    taken_back_still (is_unfinished (x ∷ (h ++ opened))) k (h ++ opened) x (final_at k opened (x ∷ h) b) e
    ∙ taken_back_at-same (is_unfinished (x ∷ (h ++ opened))) (is_unfinished (h ++ opened)) k (h ++ opened) (final_at k opened (x ∷ h) b) (λ u. inl (unf u))
    ∙ ap (taken_back_at (is_unfinished (h ++ opened)) k (h ++ opened)) (ap (λ o. over o (final_at k opened h b)) e)
    ∙ law.undone
    ∙ sym (applied_at-same (has_committed (x ∷ h)) (has_committed h) k opened h (start_at k opened b) (λ u. inl (csame u)))
    ∙ sym (applied_still (has_committed (x ∷ h)) k opened h x (start_at k opened b) e)
undone_step k b opened h x unf csame (Some q) e w law =
    let open_now : is_unfinished (h ++ opened) (tran_of x) ≡ true = (holds_parts (h ++ opened) (tran_of x) k.guard w.holder).0 in
    taken_back_at-same (is_unfinished (x ∷ (h ++ opened))) (is_unfinished (h ++ opened)) k (x ∷ (h ++ opened)) (final_at k opened (x ∷ h) b) (λ u. inl (unf u))
    ∙ ap (taken_back_at (is_unfinished (h ++ opened)) k (h ++ opened))
    (ap (λ c. if c then under (write_on (h ++ opened) k x) (final_at k opened (x ∷ h) b) else final_at k opened (x ∷ h) b) open_now
    ∙ ap (λ o. under o (final_at k opened (x ∷ h) b)) e ∙ w.finds)
    ∙ law.undone
    ∙ sym (applied_at-same (has_committed (x ∷ h)) (has_committed h) k opened h (start_at k opened b) (λ u. inl (csame u)))
    ∙ sym (ap (λ c. if c then over (write_on (h ++ opened) k x) (applied_at (has_committed (x ∷ h)) k opened h (start_at k opened b)) else applied_at (has_committed (x ∷ h)) k opened h (start_at k opened b))
    (csame (tran_of x) ∙ not_committed h opened (tran_of x) open_now))

pub committed_step : (k : Atom) (b : ℕ) (opened h : List Record) (x : Record) →
    ((u : ℕ) → has_committed (x ∷ h) u ≡ has_committed h u) →
    (o : Option (ℕ × ℕ)) → write_on (h ++ opened) k x ≡ o →
    MatchOption o (Unit {0}) (Writes k b opened h (tran_of x)) →
    committed_at k opened (x ∷ h) b ≡ committed_at k opened h b
committed_step k b opened h x csame None e w =
    applied_still (has_committed (x ∷ h)) k opened h x (start_at k opened b) e
    ∙ applied_at-same (has_committed (x ∷ h)) (has_committed h) k opened h (start_at k opened b) (λ u. inl (csame u))
committed_step k b opened h x csame (Some q) e w =
    ap (λ c. if c then over (write_on (h ++ opened) k x) (applied_at (has_committed (x ∷ h)) k opened h (start_at k opened b)) else applied_at (has_committed (x ∷ h)) k opened h (start_at k opened b))
    (csame (tran_of x) ∙ not_committed h opened (tran_of x) (holds_parts (h ++ opened) (tran_of x) k.guard w.holder).0)
    ∙ applied_at-same (has_committed (x ∷ h)) (has_committed h) k opened h (start_at k opened b) (λ u. inl (csame u))

pub seen_step : (k : Atom) (b : ℕ) (opened h : List Record) (x : Record) →
    ((u : ℕ) → is_unfinished (x ∷ (h ++ opened)) u ≡ is_unfinished (h ++ opened) u) →
    ((u : ℕ) → has_taken (x ∷ (h ++ opened)) u (k.guard) ≡ has_taken (h ++ opened) u (k.guard)) →
    ((u : ℕ) → has_committed (x ∷ h) u ≡ has_committed h u) →
    (o : Option (ℕ × ℕ)) → write_on (h ++ opened) k x ≡ o →
    MatchOption o (Unit {0}) (Writes k b opened h (tran_of x)) →
    LawAt k b opened h →
    (t : ℕ) → is_old opened t ≡ false → has_ended (h ++ opened) t ≡ false → IsFreeFor (x ∷ (h ++ opened)) t (k.guard) →
    view_at t k opened (x ∷ h) b ≡ final_at k opened (x ∷ h) b
seen_step k b opened h x unf tak csame None e w law t new open_now free =
    let free_before : IsFreeFor (h ++ opened) t (k.guard) = λ u k'. free u ((ap (λ c. c && has_taken (x ∷ (h ++ opened)) u (k.guard)) (unf u) ∙ ap (λ c. is_unfinished (h ++ opened) u && c) (tak u)) ∙ k') in
    applied_still (λ u. has_committed (x ∷ h) u || eqb u t) k opened h x (start_at k opened b) e
    ∙ applied_at-same (λ u. has_committed (x ∷ h) u || eqb u t) (λ u. has_committed h u || eqb u t) k opened h (start_at k opened b) (λ u. inl (ap (λ c. c || eqb u t) (csame u)))
    ∙ law.seen t new open_now free_before
    ∙ sym (ap (λ o. over o (final_at k opened h b)) e)
seen_step k b opened h x unf tak csame (Some q) e w law t new open_now free =
    let held_now : holds (x ∷ (h ++ opened)) (tran_of x) (k.guard) ≡ true = (ap (λ c. c && has_taken (x ∷ (h ++ opened)) (tran_of x) (k.guard)) (unf (tran_of x)) ∙ ap (λ c. is_unfinished (h ++ opened) (tran_of x) && c) (tak (tran_of x))) ∙ w.holder in
    let same : tran_of x ≡ t = free (tran_of x) held_now in
    let v = applied_at (λ u. has_committed (x ∷ h) u || eqb u t) k opened h (start_at k opened b) in
    let chosen : (has_committed (x ∷ h) (tran_of x) || eqb (tran_of x) t) ≡ true = or_right (has_committed (x ∷ h) (tran_of x)) (eqb (tran_of x) t) (eq-eqb (tran_of x) t same) in
    ap (λ c. if c then over (write_on (h ++ opened) k x) v else v) chosen
    ∙ ap (λ o. over o v) e
    ∙ sym (ap (λ o. over o (final_at k opened h b)) e)
