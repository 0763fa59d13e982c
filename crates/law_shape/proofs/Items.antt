-- A legal history's items, session by session.
use Rattle.std.proofs.Common.{◌≡◌, ℕ, ◌+◌, ◌<◌, ◌≤◌, List, [], ◌∷◌, ◌++◌, length, reverse, slice_get, Option, Some, None, inl, inr, ◌⊎◌, refl, sym, ap, ◌∙◌, subst, append-nil, arith}
use Rattle.std.proofs.lemmas.List.{length-reverse}
use Rattle.std.proofs.lemmas.Option.{slice_get_cases}
use Rattle.spec_log.specs.declared.item.Record.{Record}
use Rattle.spec_script.specs.declared.statement.Statement.{Statement}
use Rattle.spec_run.specs.Entries.{items_of}
use Rattle.spec_run.specs.Sessions.{placed_of, AreOwned, Stands, AreStatements, AreFinished}
use Rattle.spec_run.specs.Begun.{Setting}
use Rattle.spec_run.specs.Progress.{Progress, progress_of, script_of, first_of, at_work, with_statement, next_of}
use Rattle.spec_run.specs.Turns.{IsLegal, told_to}
use Rattle.law_run.specs.Laws.{IsStart}
use Rattle.law_run.proofs.Legal.{legal_is_sound, next_belongs}
use Rattle.law_shape.specs.Answered.{begun_at, AreAnswered, IsUnderWay}
use Rattle.law_shape.specs.Laws.{LegalIsServed, WholeIsServed, LegalHasItems, WholeHasItems}
use Rattle.law_shape.proofs.Shaped.{some_first}
use Rattle.law_shape.proofs.Owed.{answered_finished, answered_few, goes_stands, statements_more}
use Rattle.law_shape.proofs.Begins.{begun_is_shaped}
use Rattle.law_shape.proofs.Parts.{IsAmid, Between, Within, PartsIn, legal_parts}

pub legal_is_served : LegalIsServed
legal_is_served run log start legal s is_session =
    let parts = legal_parts run log start legal s in
    record { before = parts.before; now = parts.now; splits = parts.splits; answered = parts.answered; under_way = under_way parts parts.amid }
  where
    p : Progress
    p = progress_of run s log

    script : List Statement
    script = script_of run.scripts s

    under_way : (parts : PartsIn run log s) → IsAmid run s script parts.now p →
        (parts.now ≡ []) ⊎ ((st : Statement) × (slice_get script (length (told_to run s log)) ≡ Some st) × IsUnderWay run s (length (told_to run s log) + 1) st parts.now)
    under_way parts (Between now due want) = inl now
    under_way parts (Within w) =
        let count = length-reverse p.told in
        inr (
          w.st,
          ap (slice_get script) count ∙ w.is_next,
          subst (λ n. IsUnderWay run s (n + 1) w.st parts.now) (sym count) (record {
            some = w.some;
            items = w.goes.items;
            rest = p.due;
            are_items = w.goes.are_items;
            owes = subst (λ l. (begun_at run l s (length p.told + 1) w.st).items ≡ w.goes.items ++ p.due) (sym w.begins) w.goes.owes;
            owes_more = w.more;
          }),
        )

-- a session that has no next item is between two statements, and its script is done
is_done : (run : Setting) (log : List Record) (s : ℕ) → PartsIn run log s → next_of run s log ≡ None →
    AreAnswered run s 1 (script_of run.scripts s) (told_to run s log) (placed_of s log) × (length (told_to run s log) ≡ length (script_of run.scripts s))
is_done run log s parts none = by_amid parts.amid
  where
    p : Progress
    p = progress_of run s log

    script : List Statement
    script = script_of run.scripts s

    IsDone : Type 0
    IsDone = AreAnswered run s 1 script (told_to run s log) (placed_of s log) × (length (told_to run s log) ≡ length script)

    done : length script ≤ length p.told → parts.now ≡ [] → IsDone
    done most now =
        let few = answered_few run s 1 script (reverse p.told) parts.before parts.answered in
        let count = length-reverse p.told in (
          subst (AreAnswered run s 1 script (reverse p.told)) (sym (parts.splits ∙ ap (λ ps. parts.before ++ ps) now ∙ append-nil parts.before)) parts.answered,
          omega (arith, most, few, count),
        )

    by_statement : (o : Option Statement) → slice_get script (length p.told) ≡ o → parts.now ≡ [] → first_of (with_statement run log s p o).due ≡ None → IsDone
    by_statement None e now h = elim (slice_get_cases script (length p.told)).1 [
      | inl there ↦ absurd (nothing there.0 (sym e ∙ there.2))
      | inr past ↦ done past.0 now
    ]
      where
        nothing : (st : Statement) → None ≡ Some st → ⊥
        nothing st k = cc
    by_statement (Some st) e now h =
        let shaped = begun_is_shaped run log s (length p.told + 1) p.tran st in
        absurd (some_first s (length p.told + 1) shaped.shape (sym (ap first_of shaped.items) ∙ h))

    by_due : (due : List Record) → 0 < length due → first_of (at_work run log s p due).due ≡ None → p.due ≡ due → IsDone
    by_due [] some h e = absurd (omega (arith, some))
    by_due (y ∷ due) some h e = absurd (something (sym (ap first_of e) ∙ h))
      where
        something : Some y ≡ None → ⊥
        something k = cc

    by_amid : IsAmid run s script parts.now p → IsDone
    by_amid (Between now due want) =
        by_statement (slice_get script (length p.told)) refl now (subst (λ d. first_of (at_work run log s p d).due ≡ None) due none)
    by_amid (Within w) = by_due p.due w.more none refl

pub whole_is_served : WholeIsServed
whole_is_served run entries start legal whole s is_session =
    is_done run (items_of entries) s (legal_parts run (items_of entries) start legal s) (whole s is_session)

are_owned : (run : Setting) (log : List Record) → IsStart run → IsLegal run log → AreOwned (length run.scripts) log
are_owned run [] start legal = tt
are_owned run (x ∷ log) start legal =
    let belongs = next_belongs run log legal.0.0 x start legal.1 legal.0.1.0 legal.0.2 in
    (subst (λ s. 0 < s) (sym belongs) legal.0.1.0, subst (λ s. s ≤ length run.scripts) (sym belongs) legal.0.1.1, are_owned run log start legal.1)

are_statements : (run : Setting) (log : List Record) (s : ℕ) → PartsIn run log s → AreStatements run.opened s 1 (length (told_to run s log)) (placed_of s log)
are_statements run log s parts =
    subst (AreStatements run.opened s 1 (length (told_to run s log))) (sym parts.splits)
    (statements_more run.opened s 1 (length (told_to run s log)) parts.before parts.now
    (answered_finished run s 1 (script_of run.scripts s) (told_to run s log) parts.before parts.answered) (last parts.amid))
  where
    p : Progress
    p = progress_of run s log

    last : IsAmid run s (script_of run.scripts s) parts.now p →
        (parts.now ≡ []) ⊎ ((owed : List Record) × (0 < length owed) × Stands run.opened s (1 + length (told_to run s log)) parts.now owed)
    last (Between now due want) = inl now
    last (Within w) =
        let count = length-reverse p.told in
        let at_place : length p.told + 1 ≡ 1 + length (told_to run s log) = omega (arith, count) in
        inr (
          p.due,
          w.more,
          subst (λ k. Stands run.opened s k parts.now p.due) at_place (goes_stands run w.first s (length p.told + 1) w.st parts.now p.due p.telling w.begins w.some w.goes),
        )

pub legal_has_items : LegalHasItems
legal_has_items run entries start legal marked =
    let log = items_of entries in
    record {
      sound = legal_is_sound run log start legal;
      owned = are_owned run log start legal;
      statements = λ s above inside. (length (told_to run s log), are_statements run log s (legal_parts run log start legal s));
      marked = marked;
    }

pub whole_has_items : WholeHasItems
whole_has_items run entries start legal whole s above inside =
    let log = items_of entries in
    let served = whole_is_served run entries start legal whole s (above, inside) in
    subst (λ n. AreFinished run.opened s 1 n (placed_of s log)) served.1
    (answered_finished run s 1 (script_of run.scripts s) (told_to run s log) (placed_of s log) served.0)
