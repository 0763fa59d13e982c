-- Each item keeps the law at one atom.
use Rattle.std.proofs.Common.{◌≡◌, ℕ, ◌+◌, Bool, true, false, eqb, ltb, not, ◌&&◌, ◌||◌, List, [], ◌∷◌, ◌++◌, length, Option, Some, None, ◌⊎◌, inl, inr, refl, sym, ap, ◌∙◌, subst}
use Rattle.std.specs.Prelude.{if◌then◌else◌, MatchOption}
use Rattle.std.proofs.lemmas.Bool.{false≢true, cases_Bool, or_cases, and_from, eqb-true, eqb-false, eq-eqb, ne_eqb, both_ways, cond_both, or_right}
use Rattle.spec_file.specs.declared.data.Resource.{Resource}
use Rattle.spec_file.specs.declared.data.Tran.{Tran}
use Rattle.spec_file.specs.declared.data.Lsn.{Lsn}
use Rattle.spec_log.specs.declared.item.Cell.{Cell}
use Rattle.spec_log.specs.declared.item.Record.{Record}
use Rattle.spec_log.specs.declared.item.Record.TheVariants.{Start, Change, Undo, Commit, Abort, Snap, Failed, CheckEnd}
use Rattle.spec_log.specs.Items.{tran_of}
use Rattle.spec_log.specs.Log.{starts, commits, ends, takes_it, has_started, has_ended, has_committed, has_taken, is_unfinished, holds, IsFreeFor, rest_of, left_of}
use Rattle.spec_log.specs.Rules.{IsLastLeft}
use Rattle.spec_log.specs.Sound.{is_old}
use Rattle.law_undo.proofs.Atoms.{Atom, has_atom, bit_in, change_on, turned, named_on, write_on, over, taken_back_at, IsQuiet, taken_back_at-same, applied_at-same}
use Rattle.law_undo.proofs.Holders.{FollowsAt, RulesAt, or_false, not_or, unfinished_parts, unfinished_from, holds_parts, taken_started, holds_older, taken_free, one_holder, AreQuiet, left_quiet, quiet_without_take}
use Rattle.law_undo.proofs.LawAtAtom.{start_at, final_at, committed_at, view_at, Chain, LawAt, applied_still, taken_back_still, taken_back_none, Chain-quiet, not_true, quiet_or_holds, Writes, undone_step, committed_step, seen_step}

-- a change puts itself on what is left
Chain-change : (k : Atom) (tran : Tran) (cell : Cell) (before after : List ℕ) (number : ℕ) (ps : List (ℕ × Record)) (v w : ℕ) → (has_atom cell (length after) k ≡ true → bit_in cell before k ≡ w) → Chain k ps v w →
    Chain k ((number, Change tran cell before after) ∷ ps) v (over (if has_atom cell (length after) k then Some (bit_in cell before k, bit_in cell after k) else None) w)
Chain-change k tran cell before after number ps v w found c = by_test (has_atom cell (length after) k) found
  where
    by_test : (s : Bool) → (s ≡ true → bit_in cell before k ≡ w) →
        MatchOption {T = ℕ × ℕ} (if s then Some (bit_in cell before k, bit_in cell after k) else None) (Chain k ps v (over (if s then Some (bit_in cell before k, bit_in cell after k) else None) w)) (λ q. (over (if s then Some (bit_in cell before k, bit_in cell after k) else None) w ≡ q.1) × Chain k ps v q.0)
    by_test true f = (refl, subst (Chain k ps v) (sym (f refl)) c)
    by_test false f = c

-- an Undo takes the first change that is left
Chain-undo : (k : Atom) (o : Option (ℕ × ℕ)) (ps : List (ℕ × Record)) (v w : ℕ) → MatchOption o (Chain k ps v w) (λ q. (w ≡ q.1) × Chain k ps v q.0) → Chain k ps v (over (turned o) w)
Chain-undo k None ps v w c = c
Chain-undo k (Some q) ps v w c = c.1

-- a change finds what its transaction sees there
abbrev pub FitsAt : Atom → List Record → List Record → ℕ → Record → Type 0
FitsAt k opened h b (Start session index tran number changes size takes) = is_old opened tran.0 ≡ false
FitsAt k opened h b (Change tran cell before after) = (is_old opened tran.0 ≡ false) × (has_atom cell (length after) k ≡ true → view_at tran.0 k opened h b ≡ bit_in cell before k)
FitsAt k opened h b (Undo tran change) = is_old opened tran.0 ≡ false
FitsAt k opened h b (Commit tran) = is_old opened tran.0 ≡ false
FitsAt k opened h b (Abort tran) = is_old opened tran.0 ≡ false
FitsAt k opened h b (Snap session index) = Unit {0}
FitsAt k opened h b (Failed session index page) = Unit {0}
FitsAt k opened h b (CheckEnd session index outcome) = Unit {0}

not_ended_of : (g : List Record) (t : ℕ) → is_unfinished g t ≡ true → has_ended g t ≡ false
not_ended_of g t u = not_true (has_ended g t) (unfinished_parts g t u).not_ended

alone : (g : List Record) (t : ℕ) (k : Atom) → RulesAt k g → holds g t k.guard ≡ true → IsFreeFor g t k.guard
alone g t k r h u held = one_holder k g u t r held h

-- what is written was held, and is what the file had
change_writes : (k : Atom) (b : ℕ) (opened h : List Record) (tran : Tran) (cell : Cell) (before after : List ℕ) → RulesAt k (h ++ opened) → (has_atom cell (length after) k ≡ true → holds (h ++ opened) tran.0 k.guard ≡ true) →
    FitsAt k opened h b (Change tran cell before after) → LawAt k b opened h → has_atom cell (length after) k ≡ true → Writes k b opened h tran.0 (bit_in cell before k, bit_in cell after k)
change_writes k b opened h tran cell before after r held fits law e =
    let g = h ++ opened in
    let held_here : holds g tran.0 k.guard ≡ true = held e in
    record {
      holder = held_here;
      finds = sym (fits.1 e) ∙ law.seen tran.0 fits.0 (not_ended_of g tran.0 (holds_parts g tran.0 k.guard held_here).0) (alone g tran.0 k r held_here);
    }

writes_if : (k : Atom) (b : ℕ) (opened h : List Record) (t found left : ℕ) (s : Bool) → (s ≡ true → Writes k b opened h t (found, left)) →
    MatchOption {T = ℕ × ℕ} (if s then Some (found, left) else None) (Unit {0}) (Writes k b opened h t)
writes_if k b opened h t found left true f = f refl
writes_if k b opened h t found left false f = tt

undo_writes : (k : Atom) (b : ℕ) (opened h : List Record) (tran : Tran) (change : Lsn) → RulesAt k (h ++ opened) → is_unfinished (h ++ opened) tran.0 ≡ true →
    (last : IsLastLeft (h ++ opened) tran.0 change.0) → is_old opened tran.0 ≡ false → LawAt k b opened h →
    (o : Option (ℕ × ℕ)) → change_on k last.change ≡ o → MatchOption (turned o) (Unit {0}) (Writes k b opened h tran.0)
undo_writes k b opened h tran change r open_now last new law None e = tt
undo_writes k b opened h tran change r open_now last new law (Some q) e =
    let g = h ++ opened in
    elim (quiet_or_holds g tran.0 k r open_now) [
      | inl quiet ↦
          let all : AreQuiet k ((change.0, last.change) ∷ last.others) = subst (AreQuiet k) last.is_last (left_quiet tran.0 k g quiet) in
          absurd (some_none q (sym e ∙ all.0))
      | inr held ↦
          let c : Chain k ((change.0, last.change) ∷ last.others) (committed_at k opened h b) (final_at k opened h b) =
          subst (λ ps. Chain k ps (committed_at k opened h b) (final_at k opened h b)) last.is_last (law.chained tran.0 new held) in
          let d : MatchOption (Some q) (Chain k last.others (committed_at k opened h b) (final_at k opened h b)) (λ q. (final_at k opened h b ≡ q.1) × Chain k last.others (committed_at k opened h b) q.0) =
          subst (λ o. MatchOption o (Chain k last.others (committed_at k opened h b) (final_at k opened h b)) (λ q. (final_at k opened h b ≡ q.1) × Chain k last.others (committed_at k opened h b) q.0)) e c in
          record { holder = held; finds = sym d.0 }
    ]
  where
    some_none : (q : ℕ × ℕ) → Some q ≡ None → ⊥
    some_none q e = cc

change_step : (k : Atom) (b : ℕ) (opened h : List Record) (tran : Tran) (cell : Cell) (before after : List ℕ) → RulesAt k (h ++ opened) → FollowsAt k (h ++ opened) (Change tran cell before after) →
    FitsAt k opened h b (Change tran cell before after) → LawAt k b opened h → LawAt k b opened (Change tran cell before after ∷ h)
change_step k b opened h tran cell before after r follows fits law =
    let g = h ++ opened in
    let x = Change tran cell before after in
    let w : MatchOption (write_on g k x) (Unit {0}) (Writes k b opened h tran.0) = writes_if k b opened h tran.0 (bit_in cell before k) (bit_in cell after k) (has_atom cell (length after) k) (change_writes k b opened h tran cell before after r follows.1 fits law) in
    record {
      undone = undone_step k b opened h x (λ u. refl) (λ u. refl) (write_on g k x) refl w law;
      seen = seen_step k b opened h x (λ u. refl) (λ u. refl) (λ u. refl) (write_on g k x) refl w law;
      chained = λ t new held.
          let before_c : Chain k (left_of t g) (committed_at k opened h b) (final_at k opened h b) = law.chained t new held in
          let now_v : committed_at k opened (x ∷ h) b ≡ committed_at k opened h b = committed_step k b opened h x (λ u. refl) (write_on g k x) refl w in
          subst (λ v. Chain k (left_of t (x ∷ g)) v (final_at k opened (x ∷ h) b)) (sym now_v)
          (cond_both (eqb tran.0 t) ((length g + 1, x) ∷ left_of t g) (left_of t g) (λ ps. Chain k ps (committed_at k opened h b) (final_at k opened (x ∷ h) b))
          (λ e. Chain-change k tran cell before after (length g + 1) (left_of t g) (committed_at k opened h b) (final_at k opened h b)
          (λ here. (change_writes k b opened h tran cell before after r follows.1 fits law here).finds) before_c)
          (λ e.
          let elsewhere : has_atom cell (length after) k ≡ false = elim (cases_Bool (has_atom cell (length after) k)) [
            | inl here ↦ absurd (eqb-false tran.0 t e (one_holder k g tran.0 t r (change_writes k b opened h tran cell before after r follows.1 fits law here).holder held))
            | inr other ↦ other
          ] in
          subst (Chain k (left_of t g) (committed_at k opened h b))
          (sym (ap (λ s. over (if s then Some (bit_in cell before k, bit_in cell after k) else None) (final_at k opened h b)) elsewhere)) before_c));
    }

undo_step : (k : Atom) (b : ℕ) (opened h : List Record) (tran : Tran) (change : Lsn) → RulesAt k (h ++ opened) → FollowsAt k (h ++ opened) (Undo tran change) →
    is_old opened tran.0 ≡ false → LawAt k b opened h → LawAt k b opened (Undo tran change ∷ h)
undo_step k b opened h tran change r follows new law =
    let g = h ++ opened in
    let x = Undo tran change in
    let last = follows.1 in
    let written : write_on g k x ≡ turned (change_on k last.change) = ap (λ o. turned (named_on k o)) last.is_named in
    let w : MatchOption (turned (change_on k last.change)) (Unit {0}) (Writes k b opened h tran.0) = undo_writes k b opened h tran change r follows.0 last new law (change_on k last.change) refl in
    record {
      undone = undone_step k b opened h x (λ u. refl) (λ u. refl) (turned (change_on k last.change)) written w law;
      seen = seen_step k b opened h x (λ u. refl) (λ u. refl) (λ u. refl) (turned (change_on k last.change)) written w law;
      chained = λ t new_t held.
          let before_c : Chain k (left_of t g) (committed_at k opened h b) (final_at k opened h b) = law.chained t new_t held in
          let now_v : committed_at k opened (x ∷ h) b ≡ committed_at k opened h b = committed_step k b opened h x (λ u. refl) (turned (change_on k last.change)) written w in
          let now_w : final_at k opened (x ∷ h) b ≡ over (turned (change_on k last.change)) (final_at k opened h b) = ap (λ o. over o (final_at k opened h b)) written in
          subst (λ v. Chain k (left_of t (x ∷ g)) v (final_at k opened (x ∷ h) b)) (sym now_v)
          (subst (Chain k (left_of t (x ∷ g)) (committed_at k opened h b)) (sym now_w)
          (cond_both (eqb tran.0 t) (rest_of (left_of t g)) (left_of t g) (λ ps. Chain k ps (committed_at k opened h b) (over (turned (change_on k last.change)) (final_at k opened h b)))
          (λ e.
          let is_last : left_of t g ≡ (change.0, last.change) ∷ last.others = subst (λ u. left_of u g ≡ (change.0, last.change) ∷ last.others) (eqb-true tran.0 t e) last.is_last in
          let whole : Chain k ((change.0, last.change) ∷ last.others) (committed_at k opened h b) (final_at k opened h b) = subst (λ ps. Chain k ps (committed_at k opened h b) (final_at k opened h b)) is_last before_c in
          subst (λ ps. Chain k (rest_of ps) (committed_at k opened h b) (over (turned (change_on k last.change)) (final_at k opened h b))) (sym is_last)
          (Chain-undo k (change_on k last.change) last.others (committed_at k opened h b) (final_at k opened h b) whole))
          (λ e. subst (Chain k (left_of t g) (committed_at k opened h b)) (sym (still_elsewhere (turned (change_on k last.change)) w t held e)) before_c)));
    }
  where
    still_elsewhere : (o : Option (ℕ × ℕ)) → MatchOption o (Unit {0}) (Writes k b opened h tran.0) → (t : ℕ) → holds (h ++ opened) t k.guard ≡ true → eqb tran.0 t ≡ false → over o (final_at k opened h b) ≡ final_at k opened h b
    still_elsewhere None w t held e = refl
    still_elsewhere (Some q) w t held e = absurd (eqb-false tran.0 t e (one_holder k (h ++ opened) tran.0 t r w.holder held))

check_step : (k : Atom) (b : ℕ) (opened h : List Record) (x : Record) →
    ((u : ℕ) → is_unfinished (x ∷ (h ++ opened)) u ≡ is_unfinished (h ++ opened) u) →
    ((u : ℕ) → has_taken (x ∷ (h ++ opened)) u k.guard ≡ has_taken (h ++ opened) u k.guard) →
    ((u : ℕ) → has_ended (x ∷ (h ++ opened)) u ≡ has_ended (h ++ opened) u) →
    ((u : ℕ) → has_committed (x ∷ h) u ≡ has_committed h u) →
    ((u : ℕ) → left_of u (x ∷ (h ++ opened)) ≡ left_of u (h ++ opened)) →
    write_on (h ++ opened) k x ≡ None → LawAt k b opened h → LawAt k b opened (x ∷ h)
check_step k b opened h x unf tak ended csame left n law =
    let g = h ++ opened in
    record {
      undone = undone_step k b opened h x unf csame None n tt law;
      seen = λ t new open_now. seen_step k b opened h x unf tak csame None n tt law t new (sym (ended t) ∙ open_now);
      chained = λ t new held.
          let held_before : holds g t k.guard ≡ true = sym (ap (λ c. c && has_taken (x ∷ g) t k.guard) (unf t) ∙ ap (λ c. is_unfinished g t && c) (tak t)) ∙ held in
          subst (λ ps. Chain k ps (committed_at k opened (x ∷ h) b) (final_at k opened (x ∷ h) b)) (sym (left t))
          (subst (λ v. Chain k (left_of t g) v (final_at k opened (x ∷ h) b)) (sym (committed_step k b opened h x csame None n tt))
          (subst (Chain k (left_of t g) (committed_at k opened h b)) (sym (ap (λ o. over o (final_at k opened h b)) n)) (law.chained t new held_before)));
    }

-- a Start
start_step : (k : Atom) (b : ℕ) (opened h : List Record) (session index : ℕ) (tran : Tran) (number changes size : ℕ) (takes : List Resource) → RulesAt k (h ++ opened) → FollowsAt k (h ++ opened) (Start session index tran number changes size takes) →
    LawAt k b opened h → LawAt k b opened (Start session index tran number changes size takes ∷ h)
start_step k b opened h session index tran number changes size takes r follows law =
    let g = h ++ opened in
    let x = Start session index tran number changes size takes in
    record {
      undone =
          taken_back_still (is_unfinished (x ∷ g)) k g x (final_at k opened h b) refl
          ∙ taken_back_at-same (is_unfinished (x ∷ g)) (is_unfinished g) k g (final_at k opened h b) same_or_quiet
          ∙ law.undone
          ∙ sym (applied_still (has_committed h) k opened h x (start_at k opened b) refl);
      seen = λ t new open_now free.
          applied_still (λ u. has_committed h u || eqb u t) k opened h x (start_at k opened b) refl
          ∙ law.seen t new open_now (λ u held. free u (held_still u held));
      chained = λ t new held.
          subst (λ v. Chain k (left_of t g) v (final_at k opened h b)) (sym (applied_still (has_committed h) k opened h x (start_at k opened b) refl))
          (elim (cases_Bool (has_taken g t k.guard)) [
            | inl taken ↦ law.chained t new (held_before t held taken)
            | inr not_taken ↦ elim (holds_older x g t k.guard held) [
              | inl before ↦ law.chained t new before
              | inr taking ↦
                  let quiet = quiet_without_take t k g r not_taken in
                  Chain-quiet k (left_of t g) (committed_at k opened h b) (final_at k opened h b) (left_quiet t k g quiet)
                  (applied_at-same (has_committed h) (λ u. has_committed h u || eqb u t) k opened h (start_at k opened b) (λ u. elim (cases_Bool (eqb u t)) [
                    | inl e ↦ inr (subst (λ s. IsQuiet s k g) (sym (eqb-true u t e)) quiet)
                    | inr e ↦ inl (sym (or_no (has_committed h u) (eqb u t) e))
                  ])
                  ∙ law.seen t new (not_ended_of (x ∷ g) t (holds_parts (x ∷ g) t k.guard held).0) (taken_free k x g t follows taking).1)
            ]
          ]);
    }
  where
    or_no : (b c : Bool) → c ≡ false → (b || c) ≡ b
    or_no true c e = refl
    or_no false c e = e

    held_still : (u : ℕ) → holds (h ++ opened) u k.guard ≡ true → holds (Start session index tran number changes size takes ∷ (h ++ opened)) u k.guard ≡ true
    held_still u held =
        let p = holds_parts (h ++ opened) u k.guard held in
        let f = unfinished_parts (h ++ opened) u p.0 in
        and_from (is_unfinished (Start session index tran number changes size takes ∷ (h ++ opened)) u) (has_taken (Start session index tran number changes size takes ∷ (h ++ opened)) u k.guard)
        (unfinished_from (Start session index tran number changes size takes ∷ (h ++ opened)) u (record { above = f.above; started = or_right (eqb tran.0 u) (has_started (h ++ opened) u) f.started; not_ended = f.not_ended }))
        (or_right (takes_it u k.guard (Start session index tran number changes size takes)) (has_taken (h ++ opened) u k.guard) p.1)

    held_before : (t : ℕ) → holds (Start session index tran number changes size takes ∷ (h ++ opened)) t k.guard ≡ true → has_taken (h ++ opened) t k.guard ≡ true → holds (h ++ opened) t k.guard ≡ true
    held_before t held taken =
        let f = unfinished_parts (Start session index tran number changes size takes ∷ (h ++ opened)) t (holds_parts (Start session index tran number changes size takes ∷ (h ++ opened)) t k.guard held).0 in
        and_from (is_unfinished (h ++ opened) t) (has_taken (h ++ opened) t k.guard)
        (unfinished_from (h ++ opened) t (record { above = f.above; started = taken_started (h ++ opened) t k.guard taken; not_ended = f.not_ended })) taken

    same_or_quiet : (u : ℕ) → (is_unfinished (Start session index tran number changes size takes ∷ (h ++ opened)) u ≡ is_unfinished (h ++ opened) u) ⊎ IsQuiet u k (h ++ opened)
    same_or_quiet u = elim (cases_Bool (has_taken (h ++ opened) u k.guard)) [
      | inl e ↦ inl (ap (λ s. ltb 0 u && (s && not (has_ended (h ++ opened) u)))
          (or_right (eqb tran.0 u) (has_started (h ++ opened) u) (taken_started (h ++ opened) u k.guard e) ∙ sym (taken_started (h ++ opened) u k.guard e)))
      | inr e ↦ inr (quiet_without_take u k (h ++ opened) r e)
    ]

-- who took the guard is a transaction
pub taken_above : (k : Atom) (g : List Record) (t : ℕ) → RulesAt k g → has_taken g t k.guard ≡ true → ltb 0 t ≡ true
taken_above k [] t r e = absurd (false≢true e)
taken_above k (x ∷ g) t r e =
    elim (or_cases (takes_it t k.guard x) (has_taken g t k.guard) e) [ inl a ↦ (taken_free k x g t r.0 a).0 | inr a ↦ taken_above k g t r.1 a ]

-- who took the guard and has not ended holds it
pub taken_holds : (k : Atom) (g : List Record) (t : ℕ) → RulesAt k g → has_ended g t ≡ false → has_taken g t k.guard ≡ true → holds g t k.guard ≡ true
taken_holds k g t r open_now taken =
    and_from (is_unfinished g t) (has_taken g t k.guard)
    (unfinished_from g t (record { above = taken_above k g t r taken; started = taken_started g t k.guard taken; not_ended = ap not open_now })) taken

pub eqb_sym : (a b : ℕ) → eqb a b ≡ eqb b a
eqb_sym a b = elim (cases_Bool (eqb a b)) [
  | inl e ↦ e ∙ sym (eq-eqb b a (sym (eqb-true a b e)))
  | inr e ↦ e ∙ sym (ne_eqb b a (λ s. eqb-false a b e (sym s)))
]

pub or_swap : (b c : Bool) → (b || c) ≡ (c || b)
or_swap true true = refl
or_swap true false = refl
or_swap false true = refl
or_swap false false = refl

-- what an end of u does: x is Commit u or Abort u. All that is known of it is what the tests say
pub record Ends (x : Record) (u : ℕ) : Type 0 where
  pub at_end : (t : ℕ) → ends t x ≡ eqb u t
  pub no_start : (t : ℕ) → starts t x ≡ false
  pub no_take : (t : ℕ) (res : Resource) → takes_it t res x ≡ false
  pub no_write : (g : List Record) (k : Atom) → write_on g k x ≡ None
  pub same_left : (t : ℕ) (g : List Record) → left_of t (x ∷ g) ≡ left_of t g
  pub only_own : (t : ℕ) → (eqb u t ≡ false) → commits t x ≡ false

still_holds : (x : Record) (u : ℕ) (g : List Record) → Ends x u → (t : ℕ) (res : Resource) → eqb u t ≡ false → holds g t res ≡ true → holds (x ∷ g) t res ≡ true
still_holds x u g e t res other held =
    let p = holds_parts g t res held in
    let f = unfinished_parts g t p.0 in
    and_from (is_unfinished (x ∷ g) t) (has_taken (x ∷ g) t res)
    (unfinished_from (x ∷ g) t (record {
      above = f.above;
      started = or_right (starts t x) (has_started g t) f.started;
      not_ended = ap (λ c. not (c || has_ended g t)) (e.at_end t ∙ other) ∙ f.not_ended;
    }))
    (or_right (takes_it t res x) (has_taken g t res) p.1)

held_before_end : (x : Record) (u : ℕ) (g : List Record) → Ends x u → (t : ℕ) (res : Resource) → holds (x ∷ g) t res ≡ true → (holds g t res ≡ true) × (eqb u t ≡ false)
held_before_end x u g e t res held =
    let f = unfinished_parts (x ∷ g) t (holds_parts (x ∷ g) t res held).0 in (
      elim (holds_older x g t res held) [ inl a ↦ a | inr a ↦ absurd (both_ways (takes_it t res x) (e.no_take t res) a) ],
      sym (e.at_end t) ∙ not_true (ends t x) (not_or (ends t x) (has_ended g t) f.not_ended).0,
    )

-- the tests for unfinished before and after an end
unfinished_after : (x : Record) (u : ℕ) (g : List Record) → Ends x u → (t : ℕ) → is_unfinished (x ∷ g) t ≡ (ltb 0 t && (has_started g t && not (eqb u t || has_ended g t)))
unfinished_after x u g e t =
    ap (λ c. ltb 0 t && ((c || has_started g t) && not (ends t x || has_ended g t))) (e.no_start t)
    ∙ ap (λ c. ltb 0 t && (has_started g t && not (c || has_ended g t))) (e.at_end t)

-- an end of the holder
end_of_holder : (k : Atom) (b : ℕ) (opened h : List Record) (x : Record) (u : ℕ) → Ends x u → RulesAt k (h ++ opened) → LawAt k b opened h →
    holds (h ++ opened) u k.guard ≡ true →
    committed_at k opened (x ∷ h) b ≡ final_at k opened h b →
    LawAt k b opened (x ∷ h)
end_of_holder k b opened h x u e r law held now =
    let g = h ++ opened in
    let last : final_at k opened (x ∷ h) b ≡ final_at k opened h b = ap (λ o. over o (final_at k opened h b)) (e.no_write g k) in
    record {
      undone =
          taken_back_still (is_unfinished (x ∷ g)) k g x (final_at k opened (x ∷ h) b) (e.no_write g k)
          ∙ taken_back_none (is_unfinished (x ∷ g)) k g (final_at k opened (x ∷ h) b) none_left
          ∙ last ∙ sym now;
      seen = λ t new open_now free.
          let ended = or_false (ends t x) (has_ended g t) open_now in
          let quiet : IsQuiet t k g = quiet_others t (sym (e.at_end t) ∙ ended.0) ended.1 in
          applied_still (λ v. has_committed (x ∷ h) v || eqb v t) k opened h x (start_at k opened b) (e.no_write g k)
          ∙ applied_at-same (λ v. has_committed (x ∷ h) v || eqb v t) (has_committed (x ∷ h)) k opened h (start_at k opened b) (λ v. elim (cases_Bool (eqb v t)) [
            | inl same ↦ inr (subst (λ s. IsQuiet s k g) (sym (eqb-true v t same)) quiet)
            | inr other ↦ inl (or_swap (has_committed (x ∷ h) v) (eqb v t) ∙ ap (λ c. c || has_committed (x ∷ h) v) other)
          ])
          ∙ sym (applied_still (has_committed (x ∷ h)) k opened h x (start_at k opened b) (e.no_write g k))
          ∙ now ∙ sym last;
      chained = λ t new held_now.
          let p = held_before_end x u g e t k.guard held_now in
          absurd (eqb-false u t p.1 (one_holder k g u t r held p.0));
    }
  where
    quiet_others : (t : ℕ) → eqb u t ≡ false → has_ended (h ++ opened) t ≡ false → IsQuiet t k (h ++ opened)
    quiet_others t other open_now = elim (cases_Bool (has_taken (h ++ opened) t k.guard)) [
      | inl taken ↦ absurd (eqb-false u t other (one_holder k (h ++ opened) u t r held (taken_holds k (h ++ opened) t r open_now taken)))
      | inr not_taken ↦ quiet_without_take t k (h ++ opened) r not_taken
    ]

    none_left : (t : ℕ) → (is_unfinished (x ∷ (h ++ opened)) t ≡ false) ⊎ IsQuiet t k (h ++ opened)
    none_left t = elim (cases_Bool (is_unfinished (x ∷ (h ++ opened)) t)) [
      | inl a ↦
          let f = unfinished_parts (x ∷ (h ++ opened)) t a in
          let ended = not_or (ends t x) (has_ended (h ++ opened) t) f.not_ended in
          inr (quiet_others t (sym (e.at_end t) ∙ not_true (ends t x) ended.0) (not_true (has_ended (h ++ opened) t) ended.1))
      | inr a ↦ inl a
    ]

-- an end of another
end_of_other : (k : Atom) (b : ℕ) (opened h : List Record) (x : Record) (u : ℕ) → Ends x u → RulesAt k (h ++ opened) → LawAt k b opened h →
    IsQuiet u k (h ++ opened) → (holds (h ++ opened) u k.guard ≡ true → ⊥) →
    LawAt k b opened (x ∷ h)
end_of_other k b opened h x u e r law quiet not_held =
    let g = h ++ opened in
    let last : final_at k opened (x ∷ h) b ≡ final_at k opened h b = ap (λ o. over o (final_at k opened h b)) (e.no_write g k) in
    let now : committed_at k opened (x ∷ h) b ≡ committed_at k opened h b =
    applied_still (has_committed (x ∷ h)) k opened h x (start_at k opened b) (e.no_write g k)
    ∙ applied_at-same (has_committed (x ∷ h)) (has_committed h) k opened h (start_at k opened b) same_committed in
    record {
      undone =
          taken_back_still (is_unfinished (x ∷ g)) k g x (final_at k opened (x ∷ h) b) (e.no_write g k)
          ∙ taken_back_at-same (is_unfinished (x ∷ g)) (is_unfinished g) k g (final_at k opened (x ∷ h) b) same_unfinished
          ∙ ap (taken_back_at (is_unfinished g) k g) last
          ∙ law.undone ∙ sym now;
      seen = λ t new open_now free.
          applied_still (λ v. has_committed (x ∷ h) v || eqb v t) k opened h x (start_at k opened b) (e.no_write g k)
          ∙ applied_at-same (λ v. has_committed (x ∷ h) v || eqb v t) (λ v. has_committed h v || eqb v t) k opened h (start_at k opened b) (λ v. elim (same_committed v) [ inl a ↦ inl (ap (λ c. c || eqb v t) a) | inr a ↦ inr a ])
          ∙ law.seen t new (or_false (ends t x) (has_ended g t) open_now).1
          (λ v held. elim (cases_Bool (eqb u v)) [
            | inl same ↦ absurd (not_held (subst (λ s. holds g s k.guard ≡ true) (sym (eqb-true u v same)) held))
            | inr other ↦ free v (still_holds x u g e v k.guard other held)
          ])
          ∙ sym last;
      chained = λ t new held.
          subst (λ ps. Chain k ps (committed_at k opened (x ∷ h) b) (final_at k opened (x ∷ h) b)) (sym (e.same_left t g))
          (subst (λ v. Chain k (left_of t g) v (final_at k opened (x ∷ h) b)) (sym now)
          (subst (Chain k (left_of t g) (committed_at k opened h b)) (sym last) (law.chained t new (held_before_end x u g e t k.guard held).0)));
    }
  where
    same_committed : (t : ℕ) → (has_committed (x ∷ h) t ≡ has_committed h t) ⊎ IsQuiet t k (h ++ opened)
    same_committed t = elim (cases_Bool (eqb u t)) [
      | inl same ↦ inr (subst (λ s. IsQuiet s k (h ++ opened)) (eqb-true u t same) quiet)
      | inr other ↦ inl (ap (λ c. c || has_committed h t) (e.only_own t other))
    ]

    same_unfinished : (t : ℕ) → (is_unfinished (x ∷ (h ++ opened)) t ≡ is_unfinished (h ++ opened) t) ⊎ IsQuiet t k (h ++ opened)
    same_unfinished t = elim (cases_Bool (eqb u t)) [
      | inl same ↦ inr (subst (λ s. IsQuiet s k (h ++ opened)) (eqb-true u t same) quiet)
      | inr other ↦ inl (unfinished_after x u (h ++ opened) e t ∙ ap (λ c. ltb 0 t && (has_started (h ++ opened) t && not (c || has_ended (h ++ opened) t))) other)
    ]

not_holding : (g : List Record) (t : ℕ) (k : Atom) → has_taken g t k.guard ≡ false → holds g t k.guard ≡ true → ⊥
not_holding g t k n held = both_ways (has_taken g t k.guard) n (holds_parts g t k.guard held).1

commit_ends : (w : Tran) → Ends (Commit w) w.0
commit_ends w = record { at_end = λ t. refl; no_start = λ t. refl; no_take = λ t page. refl; no_write = λ g k. refl; same_left = λ t g. refl; only_own = λ t e. e }

abort_ends : (w : Tran) → Ends (Abort w) w.0
abort_ends w = record { at_end = λ t. refl; no_start = λ t. refl; no_take = λ t page. refl; no_write = λ g k. refl; same_left = λ t g. refl; only_own = λ t e. refl }

commit_step : (k : Atom) (b : ℕ) (opened h : List Record) (w : Tran) → RulesAt k (h ++ opened) → is_unfinished (h ++ opened) w.0 ≡ true → is_old opened w.0 ≡ false →
    LawAt k b opened h → LawAt k b opened (Commit w ∷ h)
commit_step k b opened h w r open_now new law =
    elim (cases_Bool (has_taken (h ++ opened) w.0 k.guard)) [
      | inl taken ↦
          let held : holds (h ++ opened) w.0 k.guard ≡ true = and_from (is_unfinished (h ++ opened) w.0) (has_taken (h ++ opened) w.0 k.guard) open_now taken in
          end_of_holder k b opened h (Commit w) w.0 (commit_ends w) r law held
          (applied_still (has_committed (Commit w ∷ h)) k opened h (Commit w) (start_at k opened b) refl
          ∙ applied_at-same (has_committed (Commit w ∷ h)) (λ v. has_committed h v || eqb v w.0) k opened h (start_at k opened b)
          (λ v. inl (or_swap (eqb w.0 v) (has_committed h v) ∙ ap (λ c. has_committed h v || c) (eqb_sym w.0 v)))
          ∙ law.seen w.0 new (not_ended_of (h ++ opened) w.0 open_now) (alone (h ++ opened) w.0 k r held))
      | inr not_taken ↦ end_of_other k b opened h (Commit w) w.0 (commit_ends w) r law (quiet_without_take w.0 k (h ++ opened) r not_taken) (not_holding (h ++ opened) w.0 k not_taken)
    ]

abort_step : (k : Atom) (b : ℕ) (opened h : List Record) (w : Tran) → RulesAt k (h ++ opened) → is_unfinished (h ++ opened) w.0 ≡ true → left_of w.0 (h ++ opened) ≡ [] → is_old opened w.0 ≡ false →
    LawAt k b opened h → LawAt k b opened (Abort w ∷ h)
abort_step k b opened h w r open_now undone new law =
    elim (cases_Bool (has_taken (h ++ opened) w.0 k.guard)) [
      | inl taken ↦
          let held : holds (h ++ opened) w.0 k.guard ≡ true = and_from (is_unfinished (h ++ opened) w.0) (has_taken (h ++ opened) w.0 k.guard) open_now taken in
          end_of_holder k b opened h (Abort w) w.0 (abort_ends w) r law held
          (applied_still (has_committed (Abort w ∷ h)) k opened h (Abort w) (start_at k opened b) refl
          ∙ subst (λ ps. Chain k ps (committed_at k opened h b) (final_at k opened h b)) undone (law.chained w.0 new held))
      | inr not_taken ↦ end_of_other k b opened h (Abort w) w.0 (abort_ends w) r law (quiet_without_take w.0 k (h ++ opened) r not_taken) (not_holding (h ++ opened) w.0 k not_taken)
    ]

-- the opened log alone
pub opened_law : (k : Atom) (b : ℕ) (opened : List Record) → RulesAt k opened → LawAt k b opened []
opened_law k b opened r = record {
  undone = refl;
  seen = λ t new open_now free. taken_back_none (is_unfinished opened) k opened b (λ u. elim (cases_Bool (is_unfinished opened u)) [
    | inl a ↦ elim (quiet_or_holds opened u k r a) [
      | inl q ↦ inr q
      | inr held ↦ absurd (both_ways (is_old opened t) new (subst (λ s. is_old opened s ≡ true) (free u held) (unfinished_old opened u a)))
    ]
    | inr a ↦ inl a
  ]);
  chained = λ t new held. absurd (both_ways (is_old opened t) new (unfinished_old opened t (holds_parts opened t k.guard held).0));
}
  where
    unfinished_old : (opened : List Record) (t : ℕ) → is_unfinished opened t ≡ true → is_old opened t ≡ true
    unfinished_old opened t a = let f = unfinished_parts opened t a in and_from (ltb 0 t) (has_started opened t) f.above f.started

-- what an item writes was held, and is what the file had
pub item_writes : (k : Atom) (b : ℕ) (opened h : List Record) (x : Record) → RulesAt k (h ++ opened) → FollowsAt k (h ++ opened) x → FitsAt k opened h b x → LawAt k b opened h →
    MatchOption (write_on (h ++ opened) k x) (Unit {0}) (Writes k b opened h (tran_of x))
item_writes k b opened h (Start session index tran number changes size takes) r f fits law = tt
item_writes k b opened h (Change tran cell before after) r f fits law =
    writes_if k b opened h tran.0 (bit_in cell before k) (bit_in cell after k) (has_atom cell (length after) k) (change_writes k b opened h tran cell before after r f.1 fits law)
item_writes k b opened h (Undo tran change) r f fits law =
    subst (λ w. MatchOption w (Unit {0}) (Writes k b opened h tran.0)) (sym (ap (λ o. turned (named_on k o)) f.1.is_named))
    (undo_writes k b opened h tran change r f.0 f.1 fits law (change_on k f.1.change) refl)
item_writes k b opened h (Commit tran) r f fits law = tt
item_writes k b opened h (Abort tran) r f fits law = tt
item_writes k b opened h (Snap session index) r f fits law = tt
item_writes k b opened h (Failed session index page) r f fits law = tt
item_writes k b opened h (CheckEnd session index outcome) r f fits law = tt

-- one more item
pub law_step : (k : Atom) (b : ℕ) (opened h : List Record) (x : Record) → RulesAt k (h ++ opened) → FollowsAt k (h ++ opened) x → FitsAt k opened h b x → LawAt k b opened h → LawAt k b opened (x ∷ h)
law_step k b opened h (Start session index tran number changes size takes) r f fits law = start_step k b opened h session index tran number changes size takes r f law
law_step k b opened h (Change tran cell before after) r f fits law = change_step k b opened h tran cell before after r f fits law
law_step k b opened h (Undo tran change) r f fits law = undo_step k b opened h tran change r f fits law
law_step k b opened h (Commit tran) r f fits law = commit_step k b opened h tran r f fits law
law_step k b opened h (Abort tran) r f fits law = abort_step k b opened h tran r f.0 f.1 fits law
law_step k b opened h (Snap session index) r f fits law = check_step k b opened h (Snap session index) (λ u. refl) (λ u. refl) (λ u. refl) (λ u. refl) (λ u. refl) refl law
law_step k b opened h (Failed session index page) r f fits law = check_step k b opened h (Failed session index page) (λ u. refl) (λ u. refl) (λ u. refl) (λ u. refl) (λ u. refl) refl law
law_step k b opened h (CheckEnd session index outcome) r f fits law = check_step k b opened h (CheckEnd session index outcome) (λ u. refl) (λ u. refl) (λ u. refl) (λ u. refl) (λ u. refl) refl law
