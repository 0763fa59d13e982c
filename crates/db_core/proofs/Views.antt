-- The sessions' open transactions are those of the log that are unfinished.
use Rattle.std.proofs.Common.{◌≡◌, ℕ, zero, suc, Bool, true, false, eqb, ltb, not, ◌||◌, List, [], ◌∷◌, map, Some, inl, inr, refl, sym, ap, ◌∙◌, subst}
use Rattle.std.specs.Prelude.{slice_get, filter}
use Rattle.std.proofs.lemmas.Bool.{false≢true, cond_both, eqb-true, eqb-false, eq-eqb, or_cases, both_ways, not-true, not-false}
use Rattle.spec_log.specs.Log.{is_unfinished}
use Rattle.law_undo.proofs.Holders.{unfinished_parts}
use Rattle.db_core.specs.declared.session.Session.{Session}
use Rattle.db_core.specs.declared.state.State.{State}
use Rattle.db_core.specs.States.{whole_log, is_among}
use Rattle.db_core.specs.Store.{run_is, log_of, IsGood}
use Rattle.db_core.specs.Views.{open_trans}
use Rattle.db_core.specs.ViewLaws.{tran_opens, session_with}

-- a session of the list has this transaction open
record HasOpen (sessions : List Session) (t : ℕ) : Type 0 where
  at : ℕ
  session : Session
  is_at : slice_get sessions at ≡ Some session
  tran_is : session.tran ≡ t
  is_open : t ≡ 0 → ⊥

behind : (y : Session) (sessions : List Session) (t : ℕ) → HasOpen sessions t → HasOpen (y ∷ sessions) t
behind y sessions t h = record { at = suc h.at; session = h.session; is_at = h.is_at; tran_is = h.tran_is; is_open = h.is_open }

among_has : (sessions : List Session) (t : ℕ) → is_among (open_trans sessions) t ≡ true → HasOpen sessions t
among_has [] t h = absurd (false≢true h)
among_has (y ∷ sessions) t h =
    let rest = filter (λ (x : Session). not (eqb x.tran 0)) sessions in
    cond_both (not (eqb y.tran 0)) (y ∷ rest) rest (λ l. is_among (map (λ (x : Session). x.tran) l) t ≡ true → HasOpen (y ∷ sessions) t)
    (λ open_now some. elim (or_cases (eqb y.tran t) (is_among (open_trans sessions) t) some) [
      | inl e ↦ here (eqb-true y.tran t e) (eqb-false y.tran 0 (not-true (eqb y.tran 0) open_now))
      | inr e ↦ behind y sessions t (among_has sessions t e)
    ])
    (λ none some. behind y sessions t (among_has sessions t some)) h
  where
    here : y.tran ≡ t → (y.tran ≡ 0 → ⊥) → HasOpen (y ∷ sessions) t
    here e n = record { at = 0; session = y; is_at = refl; tran_is = e; is_open = λ z. n (e ∙ z) }

more_among : (y : Session) (sessions : List Session) (t : ℕ) → is_among (open_trans sessions) t ≡ true → is_among (open_trans (y ∷ sessions)) t ≡ true
more_among y sessions t h =
    let rest = filter (λ (x : Session). not (eqb x.tran 0)) sessions in
    cond_both (not (eqb y.tran 0)) (y ∷ rest) rest (λ l. is_among (map (λ (x : Session). x.tran) l) t ≡ true)
    (λ e. or_right (eqb y.tran t) (is_among (open_trans sessions) t) h) (λ e. h)
  where
    or_right : (a b : Bool) → b ≡ true → (a || b) ≡ true
    or_right true b h = refl
    or_right false b h = h

open_among : (sessions : List Session) (k : ℕ) (x : Session) (t : ℕ) → slice_get sessions k ≡ Some x → x.tran ≡ t → (t ≡ 0 → ⊥) → is_among (open_trans sessions) t ≡ true
open_among [] k x t at tran_is n = absurd (cc)
open_among (y ∷ sessions) (suc k) x t at tran_is n = more_among y sessions t (open_among sessions k x t at tran_is n)
open_among (y ∷ sessions) zero x t at tran_is n =
    let rest = filter (λ (z : Session). not (eqb z.tran 0)) sessions in
    let same : y.tran ≡ t = tran_same at in
    cond_both (not (eqb y.tran 0)) (y ∷ rest) rest (λ l. is_among (map (λ (z : Session). z.tran) l) t ≡ true)
    (λ e. ap (λ b. b || is_among (open_trans sessions) t) (eq-eqb y.tran t same))
    (λ e. absurd (n (sym same ∙ eqb-true y.tran 0 (not-false (eqb y.tran 0) e))))
  where
    tran_same : Some y ≡ Some x → y.tran ≡ t
    tran_same e = let same : y ≡ x = cc in ap (λ (z : Session). z.tran) same ∙ tran_is

same_bool : (a b : Bool) → (a ≡ true → b ≡ true) → (b ≡ true → a ≡ true) → a ≡ b
same_bool true b to from = sym (to refl)
same_bool false true to from = from refl
same_bool false false to from = refl

pub unfinished_is_among : (st : State) (t : ℕ) → IsGood st → is_unfinished (whole_log (run_is st) (log_of st)) t ≡ is_among (open_trans st.sessions.items) t
unfinished_is_among st t good =
    let g = whole_log (run_is st) (log_of st) in
    same_bool (is_unfinished g t) (is_among (open_trans st.sessions.items) t)
    (λ h.
    let found = session_with st t good h in
    open_among st.sessions.items found.0 found.1 t found.2 found.3 (λ e. both_ways (ltb 0 t) (ap (ltb 0) e) (unfinished_parts g t h).above))
    (λ h.
    let found = among_has st.sessions.items t h in
    elim (tran_opens st found.at found.session good found.is_at) [
      | inl none ↦ absurd (found.is_open (sym found.tran_is ∙ none))
      | inr owns ↦ subst (λ u. is_unfinished g u ≡ true) found.tran_is owns.unfinished
    ])

-- what the sessions have open, as a check's snapshot keeps it
pub ongoing_is : (st : State) (trans : List ℕ) → IsGood st → trans ≡ open_trans st.sessions.items → (t : ℕ) → is_unfinished (whole_log (run_is st) (log_of st)) t ≡ is_among trans t
ongoing_is st trans good are t = unfinished_is_among st t good ∙ ap (λ xs. is_among xs t) (sym are)
