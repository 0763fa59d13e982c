-- One turn of a session, whatever it does.
use Rattle.std.proofs.Common.{◌≡◌, ℕ, zero, suc, ◌+◌, ◌<◌, get_or, true, List, [], ◌∷◌, length, Some, None, inl, inr, refl, sym, ap, ◌∙◌, subst, arith, vec_len}
use Rattle.std.specs.Prelude.{slice_get}
use Rattle.std.proofs.lemmas.Option.{slice_get_within}
use Rattle.spec_log.specs.declared.item.Record.{Record}
use Rattle.spec_log.specs.declared.item.Record.TheVariants.{Snap}
use Rattle.spec_script.specs.Lines.{is_statement}
use Rattle.spec_script.specs.declared.statement.Statement.{Statement}
use Rattle.spec_script.specs.declared.statement.Statement.TheVariants as statement
use Rattle.spec_run.specs.Begun.{Setting}
use Rattle.spec_run.specs.Progress.{progress_of, at_work, with_statement, script_of, first_of, next_of}
use Rattle.spec_run.specs.Turns.{Rests}
use Rattle.db_core.specs.declared.session.Doing.{Doing}
use Rattle.db_core.specs.declared.session.Doing.TheVariants.{Idle, Changing, Ending, Undoing, Checking}
use Rattle.db_core.specs.declared.session.Session.{Session}
use Rattle.db_core.specs.declared.state.State.{State}
use Rattle.db_core.specs.declared.out.TurnOut.{TurnOut}
use Rattle.db_core.specs.declared.out.TurnOut.TheVariants as out
use Rattle.db_core.specs.Checks.{Checked, Snapped}
use Rattle.db_plan.specs.Plans.{is_planned}
use Rattle.db_core.specs.Stages.{IsStage}
use Rattle.db_core.specs.declared.stage.Stage.{Stage}
use Rattle.db_core.specs.declared.stage.Stage.TheVariants as stages
use Rattle.db_core.specs.Rooms.{started_of}
use Rattle.db_core.specs.States.{IsAt, IsSession, IsUnderWay}
use Rattle.db_core.specs.Words.{statement_of}
use Rattle.db_core.specs.Store.{run_is, log_of, told_count, SaysOut, IsGood, Answers, Advanced}
use Rattle.db_core.proofs.CheckTurns.{no_longer}
use Rattle.db_core.proofs.Good.{items_entries, get_same}
use Rattle.db_core.proofs.Next.{told_count as replies_told}

-- the statement that stands at a place
pub at_statement : (xs : List Statement) (i : ℕ) (s y : Statement) → slice_get xs i ≡ Some s → y ≡ get_or xs i y → y ≡ s
at_statement [] i s y e at = absurd (cc)
at_statement (x ∷ xs) zero s y e at = (let same : x ≡ s = cc in at ∙ same)
at_statement (x ∷ xs) (suc i) s y e at = at_statement xs i s y e at

-- the statement that comes next is the one that was found
pub next_is : (x : Session) (len : ℕ) (y : Statement) → IsStage x stages.Planned → len ≡ vec_len x.replies → y ≡ get_or x.script.items len y →
    (slice_get x.script.items (length x.replies.items) ≡ Some y) × (is_planned y ≡ true)
next_is x len y stage len_is at =
    let count : len ≡ length x.replies.items = len_is ∙ x.replies.ok.0 in
    let same = at_statement x.script.items len stage.1.0 y (ap (slice_get x.script.items) count ∙ stage.1.1) at in
    (stage.1.1 ∙ ap Some (sym same), ap is_planned same ∙ stage.1.2)

-- a statement of a script is one of the language
pub proper_next : (st : State) (k : ℕ) (x : Session) (s : Statement) → IsGood st → slice_get st.sessions.items k ≡ Some x → slice_get x.script.items (length x.replies.items) ≡ Some s → is_statement s ≡ true
proper_next st k x s good here next =
    let mine = good.state.each k x here in
    good.state.start.proper (k + 1) (length x.replies.items) s (ap (λ script. slice_get script (length x.replies.items)) mine.script_is ∙ next)

-- a session whose script is done has no next item
pub done_next : (run : Setting) (log : List Record) (s : ℕ) (x : Session) → IsSession run log s x → x.doing ≡ Idle → slice_get x.script.items (length x.replies.items) ≡ None → next_of run s log ≡ None
done_next run log s x mine idle none =
    let p = progress_of run s log in
    let due : p.due ≡ [] = subst (IsAt run log s (length x.replies.items + 1) x.tran p) idle mine.doing_is in
    let no_statement : slice_get (script_of run.scripts s) (length p.told) ≡ None = ap (λ script. slice_get script (length p.told)) mine.script_is ∙ ap (slice_get x.script.items) (replies_told run log s x mine) ∙ none in
    ap (λ d. first_of (at_work run log s p d).due) due ∙ ap (λ o. first_of (with_statement run log s p o).due) no_statement ∙ ap first_of due

pub done_advanced : (st : State) (k : ℕ) (x : Session) → IsGood st → slice_get st.sessions.items k ≡ Some x → x.doing ≡ Idle → slice_get x.script.items (length x.replies.items) ≡ None → Advanced k st st out.Finished
done_advanced st k x good here idle none =
    let next = done_next (run_is st) (log_of st) (k + 1) x (good.state.each k x here) idle none in
    record {
      good = good;
      turn = (refl, Rests (subst (λ l. next_of (run_is st) (k + 1) l ≡ None) (sym (items_entries (log_of st))) next) refl);
      says = (next, refl);
      told = omega arith;
      rests = λ y at e. (let same = get_same st.sessions.items k x y here at in subst (λ (z : Session). (z.doing ≡ Idle) × (slice_get z.script.items (length z.replies.items) ≡ None)) same (idle, none));
      idle = λ y at e. inl refl;
      begins = λ index e. absurd (no_longer (Snap (k + 1) index) (log_of st) e);
      others = λ j differ. refl;
    }

-- the session at its place behind a turn
pub told_now : (old new : State) (k : ℕ) (y : Session) → IsGood new → run_is new ≡ run_is old → slice_get new.sessions.items k ≡ Some y →
    told_count (run_is old) (k + 1) (log_of new) ≡ length y.replies.items
told_now old new k y good run here = replies_told (run_is old) (log_of new) (k + 1) y (subst (λ r. IsSession r (log_of new) (k + 1) y) run (good.state.each k y here))

-- a session whose script isn't done has a statement left
pub statement_left : (st : State) (k : ℕ) (x y : Session) (stage : Stage) → IsGood st → slice_get st.sessions.items k ≡ Some x → slice_get st.sessions.items k ≡ Some y → IsStage y stage →
    (stage ≡ stages.Done → ⊥) → length x.replies.items < length x.script.items
statement_left st k x y stage good here there is more = by_stage stage (subst (λ z. IsStage z stage) (get_same st.sessions.items k y x there here) is) more
  where
    started : (d : Doing) → IsUnderWay d → started_of d ≡ 1
    started Idle h = absurd h
    started (Changing next later own reply) h = refl
    started (Ending reply) h = refl
    started Undoing h = refl
    started (Checking check) h = absurd h

    by_stage : (s : Stage) → IsStage x s → (s ≡ stages.Done → ⊥) → length x.replies.items < length x.script.items
    by_stage stages.Done h m = absurd (m refl)
    by_stage stages.UnderWay h m = let busy = (good.each_room k x here).busy in let one = started x.doing h in omega (arith, busy, one)
    by_stage stages.Checking h m = let busy = (good.each_room k x here).busy in let one = ap started_of h.1 in omega (arith, busy, one)
    by_stage (stages.Word word) h m = slice_get_within x.script.items (length x.replies.items) (statement_of word) h.1
    by_stage stages.Check h m = slice_get_within x.script.items (length x.replies.items) (statement.Check h.1.0) h.1.1
    by_stage stages.Planned h m = slice_get_within x.script.items (length x.replies.items) h.1.0 h.1.1

pub checked_advanced : (old new : State) (k before : ℕ) (x y : Session) (answer : TurnOut) → IsGood old → slice_get old.sessions.items k ≡ Some x → length x.replies.items < length x.script.items →
    Checked k old new → before ≡ length x.replies.items → slice_get new.sessions.items k ≡ Some y → Answers before y answer → Advanced k old new answer
checked_advanced old new k before x y answer good here more c count now is = record { good = c.good; turn = c.turn; says = by_answer answer is; told = c.told.0; rests = λ z at e. absurd (subst (Answers before y) e is); idle = λ z at e. inr (c.idle z at e); begins = λ index e. absurd (c.silent index e); others = c.others }
  where
    by_answer : (a : TurnOut) → Answers before y a → SaysOut (run_is old) (k + 1) (log_of old) (log_of new) a
    by_answer out.Finished a = absurd a
    by_answer (out.Answered index) a =
        let n = told_now old new k y c.good c.turn.0 now in
        let o = replies_told (run_is old) (log_of old) (k + 1) x (good.state.each k x here) in
        let low = c.told.0 in
        let high = c.told.1 in
        let index_is = a.0 in
        let rose = a.1 in
        (omega (arith, n, index_is), omega (arith, n, o, index_is, rose, high, count))
    by_answer out.Checking a = absurd a
    by_answer out.Moved a =
        let n = told_now old new k y c.good c.turn.0 now in
        let o = replies_told (run_is old) (log_of old) (k + 1) x (good.state.each k x here) in
        let low = c.told.0 in
        let script = ap length (good.state.each k x here).script_is in
        (omega (arith, more, o, script), omega (arith, n, o, a, low, count), c.silent)

pub snapped_advanced : (old new : State) (k : ℕ) → Snapped k old new → Advanced k old new out.Checking
snapped_advanced old new k s = record {
  good = s.good;
  turn = s.turn;
  says = (s.told, (s.index, s.snap));
  told = (let same = s.told in omega (arith, same));
  rests = λ z at e. absurd (cc);
  idle = λ z at e. absurd (s.busy z at e);
  begins = λ index e. s.few;
  others = s.others;
}

-- as many sessions stand behind a turn as before it
pub same_many : (old new : State) (k : ℕ) → IsGood old → IsGood new → run_is new ≡ run_is old → k < length old.sessions.items → k < length new.sessions.items
same_many old new k good_old good_new run lt =
    let a = good_old.state.few in
    let b = good_new.state.few in
    let c = ap (λ (r : Setting). length r.scripts) run in
    omega (arith, a, b, c, lt)
