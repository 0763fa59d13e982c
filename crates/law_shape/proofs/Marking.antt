-- Turns put a mark only where a check is under way.
use Rattle.std.proofs.Common.{◌≡◌, ℕ, ◌+◌, ◌≤◌, ◌<◌, true, false, eqb, not, ◌||◌, List, [], ◌∷◌, ◌++◌, length, reverse, slice_get, Option, Some, None, refl, sym, ap, ◌∙◌, subst, arith}
use Rattle.std.specs.List.{list_any}
use Rattle.std.proofs.lemmas.List.{length-reverse}
use Rattle.std.proofs.lemmas.Bool.{false≢true, and_parts, and_from, or_right, eqb-true}
use Rattle.std.proofs.lemmas.List.Folds.{list_any-append}
use Rattle.spec_log.specs.declared.item.Record.{Record}
use Rattle.spec_log.specs.declared.item.Record.TheVariants.{Snap, CheckEnd}
use Rattle.spec_script.specs.declared.statement.Statement.{Statement}
use Rattle.spec_run.specs.Entries.{Entry, items_of, snaps, ends_check, is_checking, AreMarked}
use Rattle.spec_run.specs.Sessions.{Placed, session_of, Stands}
use Rattle.spec_run.specs.Begun.{Setting}
use Rattle.spec_run.specs.Progress.{Progress, progress_of, script_of, first_of, at_work, with_statement, next_of}
use Rattle.spec_run.specs.Turns.{IsLegal, Turn, Rests, Appends, EndsAtOnce, Goes, Marks, Run}
use Rattle.law_run.specs.Laws.{IsStart}
use Rattle.law_shape.specs.Laws.{TurnsMark, TurnsAreLegal}
use Rattle.law_shape.proofs.Begins.{begun_is_shaped}
use Rattle.law_shape.proofs.Owed.{as_long, goes_stands, answered_finished}
use Rattle.law_shape.proofs.Parts.{IsWithin, IsAmid, Between, Within, PartsIn, legal_parts}
use Rattle.law_shape.proofs.Ends.{IsBefore, before_end, first_no_end, any_placed, any_of_session, any_items, no_end_finished}

snaps_own : (s i : ℕ) (older : List Record) (x : Record) → snaps s i x ≡ true → session_of older x ≡ s
snaps_own s i older (Snap session index) h = eqb-true session s (and_parts (eqb session s) (eqb index i) h).0
snaps_own s i older x h = absurd (false≢true h)

ends_own : (s i : ℕ) (older : List Record) (x : Record) → ends_check s i x ≡ true → session_of older x ≡ s
ends_own s i older (CheckEnd session index outcome) h = eqb-true session s (and_parts (eqb session s) (eqb index i) h).0
ends_own s i older x h = absurd (false≢true h)

-- where the end of a check is a session's next item, that check is under way
next_is_checking : (run : Setting) (log : List Record) (s i outcome : ℕ) → PartsIn run log s → next_of run s log ≡ Some (CheckEnd s i outcome) → is_checking log s i ≡ true
next_is_checking run log s i outcome parts next = by_amid parts.amid
  where
    p : Progress
    p = progress_of run s log

    script : List Statement
    script = script_of run.scripts s

    j : ℕ
    j = length p.told + 1

    checking : (w : IsWithin run s script parts.now p) (rest : List Record) → p.due ≡ CheckEnd s i outcome ∷ rest → is_checking log s i ≡ true
    checking w rest due = subst (λ k. is_checking log s k ≡ true) (sym before.same)
        (and_from (list_any (snaps s j) log) (not (list_any (ends_check s j) log)) has_begun (ap not has_no_end))
      where
        st : Stands run.opened s j parts.now p.due
        st = goes_stands run w.first s j w.st parts.now p.due p.telling w.begins w.some w.goes

        before : IsBefore s i j st.all_items
        before =
            let some = w.some in
            let many = as_long parts.now st.all_items st.are_items in
            before_end s i j outcome st.shape st.all_items rest (omega (arith, some, many)) (st.shows_all ∙ ap (λ d. st.all_items ++ d) due)

        finished : any_placed (ends_check s j) parts.before ≡ false
        finished =
            let count = length-reverse p.told in
            let below : 1 + length (reverse p.told) ≤ j = omega (arith, count) in
            no_end_finished run.opened s j 1 (length (reverse p.told)) parts.before below
            (answered_finished run s 1 script (reverse p.told) parts.before parts.answered)

        has_begun : list_any (snaps s j) log ≡ true
        has_begun =
            any_of_session (snaps s j) s log (snaps_own s j)
            ∙ ap (any_placed (snaps s j)) parts.splits
            ∙ list_any-append (λ (q : Placed). snaps s j q.item) parts.before parts.now
            ∙ or_right (any_placed (snaps s j) parts.before) (any_placed (snaps s j) parts.now)
            (any_items (snaps s j) parts.now st.all_items st.are_items ∙ before.begun)

        has_no_end : list_any (ends_check s j) log ≡ false
        has_no_end =
            any_of_session (ends_check s j) s log (ends_own s j)
            ∙ ap (any_placed (ends_check s j)) parts.splits
            ∙ list_any-append (λ (q : Placed). ends_check s j q.item) parts.before parts.now
            ∙ ap (λ b. b || any_placed (ends_check s j) parts.now) finished
            ∙ any_items (ends_check s j) parts.now st.all_items st.are_items
            ∙ before.going

    by_statement : (o : Option Statement) → p.due ≡ [] → first_of (with_statement run log s p o).due ≡ Some (CheckEnd s i outcome) → is_checking log s i ≡ true
    by_statement None due h = absurd (nothing (sym (ap first_of due) ∙ h))
      where
        nothing : None ≡ Some (CheckEnd s i outcome) → ⊥
        nothing k = cc
    by_statement (Some st) due h =
        let shaped = begun_is_shaped run log s j p.tran st in
        absurd (first_no_end s i j outcome shaped.shape (sym (ap first_of shaped.items) ∙ h))

    by_due : (due : List Record) → p.due ≡ due → 0 < length due → IsWithin run s script parts.now p → first_of (at_work run log s p due).due ≡ Some (CheckEnd s i outcome) →
        is_checking log s i ≡ true
    by_due [] e more w h = absurd (omega (arith, more))
    by_due (y ∷ rest) e more w h = checking w rest (e ∙ ap (λ z. z ∷ rest) (same (sym (ap first_of e) ∙ h)))
      where
        same : Some y ≡ Some (CheckEnd s i outcome) → y ≡ CheckEnd s i outcome
        same k = cc

    by_amid : IsAmid run s script parts.now p → is_checking log s i ≡ true
    by_amid (Between now due want) =
        by_statement (slice_get script (length p.told)) due (subst (λ d. first_of (at_work run log s p d).due ≡ Some (CheckEnd s i outcome)) due next)
    by_amid (Within w) = by_due p.due refl w.more w next

-- a history behind a turn is legal only where the one before it is
legal_before : (run : Setting) (s : ℕ) (old new : List Entry) → Turn run s old new → IsLegal run (items_of new) → IsLegal run (items_of old)
legal_before run s old new (Rests none e) legal = subst (λ l. IsLegal run (items_of l)) e legal
legal_before run s old new (Appends x may e) legal = (subst (λ l. IsLegal run (items_of l)) e legal).1
legal_before run s old new (EndsAtOnce index may e) legal = (subst (λ l. IsLegal run (items_of l)) e legal).1.1
legal_before run s old new (Goes index checking e) legal = subst (λ l. IsLegal run (items_of l)) e legal
legal_before run s old new (Marks index checking first e) legal = subst (λ l. IsLegal run (items_of l)) e legal

run_before : (run : Setting) (turns : List ℕ) (old new : List Entry) → Run run old turns new → IsLegal run (items_of new) → IsLegal run (items_of old)
run_before run [] old new e legal = subst (λ l. IsLegal run (items_of l)) e legal
run_before run (s ∷ turns) old new h legal = legal_before run s old h.0 h.1 (run_before run turns h.0 new h.2 legal)

turn_marks : (run : Setting) (s : ℕ) (old new : List Entry) → IsStart run → IsLegal run (items_of old) → AreMarked old → Turn run s old new → AreMarked new
turn_marks run s old new start legal marked (Rests none e) = subst AreMarked (sym e) marked
turn_marks run s old new start legal marked (Appends x may e) = subst AreMarked (sym e) marked
turn_marks run s old new start legal marked (EndsAtOnce index may e) = subst AreMarked (sym e) marked
turn_marks run s old new start legal marked (Goes index checking e) = subst AreMarked (sym e) marked
turn_marks run s old new start legal marked (Marks index checking first e) =
    subst AreMarked (sym e)
    (next_is_checking run (items_of old) s index checking.outcome (legal_parts run (items_of old) start legal s) checking.is_next, first, marked)

pub turns_mark : TurnsMark
turns_mark run [] old new start legal marked e = subst AreMarked (sym e) marked
turns_mark run (s ∷ turns) old new start legal marked h =
    let legal_mid = run_before run turns h.0 new h.2 legal in
    let legal_old = legal_before run s old h.0 h.1 legal_mid in
    turns_mark run turns h.0 new start legal (turn_marks run s old h.0 start legal_old marked h.1) h.2

pub turns_are_legal : TurnsAreLegal
turns_are_legal run turns old new replies start legal marked taken told = record {
  legal = legal;
  marked = turns_mark run turns old new start legal marked taken;
  told = told;
}
