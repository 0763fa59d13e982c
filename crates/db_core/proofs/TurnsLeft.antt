-- Turns take from what statements have left, one after another.
use Rattle.std.proofs.Common.{◌≡◌, ℕ, zero, suc, ◌+◌, ◌-◌, ◌<◌, ◌≤◌, List, [], ◌∷◌, ◌++◌, length, Some, None, refl, sym, ap, ◌∙◌, subst, arith}
use Rattle.std.specs.Prelude.{slice_get, slice_index, replicate, map}
use Rattle.spec_log.specs.declared.item.Record.{Record}
use Rattle.spec_log.specs.declared.item.Record.TheVariants.{Snap}
use Rattle.spec_run.specs.Entries.{Entry, Item, items_of}
use Rattle.spec_run.specs.Begun.{Setting}
use Rattle.spec_run.specs.Progress.{Progress, progress_of, at_work, first_of, next_of}
use Rattle.spec_run.specs.Turns.{Run, Rests}
use Rattle.spec_run.specs.Bounds.{TurnsLeft, IsAtWork, TakesTurn, RunWithin, most_turns}
use Rattle.db_core.specs.declared.session.Doing.TheVariants.{Idle}
use Rattle.db_core.specs.declared.session.Session.{Session}
use Rattle.db_core.specs.declared.state.State.{State}
use Rattle.db_core.specs.declared.out.TurnOut.{TurnOut}
use Rattle.db_core.specs.Rooms.{turns_left, left_of_statement}
use Rattle.db_core.specs.States.{IsAt, entries_of, left_in}
use Rattle.db_core.specs.Store.{run_is, log_of, db_of, left_at, IsGood, Advanced, GoesNearer}
use Rattle.db_core.specs.ViewLaws.{get_within}
use Rattle.db_core.proofs.Good.{items_entries}
use Rattle.db_core.proofs.Advances.{same_many}

-- a run within its bounds is a run
pub within_run : (run : Setting) (left : TurnsLeft) (old : List Entry) (turns : List ℕ) (after : TurnsLeft) (new : List Entry) → RunWithin run left old turns after new → Run run old turns new
within_run run left old [] after new h = h.0
within_run run left old (s ∷ turns) after new h = (h.0, h.2, within_run run h.1 h.0 turns after new h.4)

-- one such run after another
pub within_then : (run : Setting) (xs ys : List ℕ) (left mid after : TurnsLeft) (a b c : List Entry) → RunWithin run left a xs mid b → RunWithin run mid b ys after c → RunWithin run left a (xs ++ ys) after c
within_then run [] ys left mid after a b c h r = subst (λ m. RunWithin run left m ys after c) h.0 (subst (λ l. RunWithin run l b ys after c) h.1 r)
within_then run (x ∷ xs) ys left mid after a b c h r = (h.0, h.1, h.2, h.3, within_then run xs ys h.1 mid after h.0 b c h.4 r)

longer : (entry : Entry) (entries : List Entry) → entries ≡ entry ∷ entries → ⊥
longer entry entries e = let more = ap length e in omega (arith, more)

some_none : (x : Record) → Some x ≡ None → ⊥
some_none x e = cc

-- turns of a session whose script is done
none_due : (run : Setting) (s : ℕ) (log : List Record) → next_of run s log ≡ None → (progress_of run s log).due ≡ []
none_due run s log none = by_due (progress_of run s log) (progress_of run s log).due refl none
  where
    by_due : (p : Progress) (due : List Record) → p.due ≡ due → first_of (at_work run log s p due).due ≡ None → due ≡ []
    by_due p [] e h = refl
    by_due p (x ∷ due) e h = absurd (some_none x (sym (ap first_of e) ∙ h))

pub rests : (run : Setting) (n s : ℕ) (left : TurnsLeft) (entries : List Entry) → next_of run s (items_of entries) ≡ None → RunWithin run left entries (replicate n s) left entries
rests run zero s left entries none = (refl, refl)
rests run (suc n) s left entries none = (
  entries,
  left,
  Rests none refl,
  record {
    fewer = λ work. absurd (work (none_due run s (items_of entries) none));
    begins = λ index e. absurd (longer (Item (Snap s index)) entries e);
    others = λ t is differ. refl;
  },
  rests run n s left entries none,
)

-- how many turns are left, as contracts see it
pub left_seen : (st : State) (s : ℕ) → left_in (db_of st) s ≡ left_at st (s - 1)
left_seen st s = by_list st.sessions.items (s - 1)
  where
    by_list : (sessions : List Session) (j : ℕ) → slice_index (map (λ (x : Session). turns_left st.items.items x x.doing) sessions) j ≡ left_of_statement st.items.items (slice_get sessions j)
    by_list [] j = refl
    by_list (x ∷ sessions) zero = refl
    by_list (x ∷ sessions) (suc j) = by_list sessions j

pub less_left : (mid new : State) (at : ℕ) (x y : Session) → slice_get mid.sessions.items at ≡ Some x → slice_get new.sessions.items at ≡ Some y → (x.doing ≡ Idle → ⊥) → GoesNearer at mid new →
    left_at new at < left_at mid at
less_left mid new at x y here there busy nearer =
    let a = ap (left_of_statement mid.items.items) here in
    let b = ap (left_of_statement new.items.items) there in
    let c = nearer x y here there busy in
    omega (arith, a, b, c)

-- a turn of the core
pub takes_turn : (old new : State) (at : ℕ) (answer : TurnOut) → IsGood old → at < length old.sessions.items → Advanced at old new answer → GoesNearer at old new →
    TakesTurn (run_is old) (at + 1) (entries_of (log_of old)) (entries_of (log_of new)) (left_in (db_of old)) (left_in (db_of new))
takes_turn old new at answer good inside adv nearer = record {
  fewer = λ work. (let less = less_left old new at found.0 now.0 found.1 now.1 (busy work) nearer in omega (arith, now_left, old_left, less));
  begins = λ index e. subst (λ n. n ≤ most_turns run (items_of (entries_of (log_of old)))) (sym now_left)
      (subst (λ l. left_at new at ≤ most_turns run l) (sym (items_entries (log_of old)))
      (adv.begins index (sym (items_entries (log_of new)) ∙ ap items_of e ∙ ap (λ l. Snap (at + 1) index ∷ l) (items_entries (log_of old)))));
  others = λ other is differ. (let above = is.0 in left_seen new other ∙ adv.others (other - 1) (λ e. differ (omega (arith, e, above))) ∙ sym (left_seen old other));
}
  where
    run : Setting
    run = run_is old

    back : at + 1 - 1 ≡ at
    back = omega arith

    found : (x : Session) × (slice_get old.sessions.items at ≡ Some x)
    found = get_within old.sessions.items at inside

    now : (y : Session) × (slice_get new.sessions.items at ≡ Some y)
    now = get_within new.sessions.items at (same_many old new at good adv.good adv.turn.0 inside)

    busy : IsAtWork run (at + 1) (entries_of (log_of old)) → found.0.doing ≡ Idle → ⊥
    busy work idle = work (ap (λ l. (progress_of run (at + 1) l).due) (items_entries (log_of old))
        ∙ subst (IsAt run (log_of old) (at + 1) (length found.0.replies.items + 1) found.0.tran (progress_of run (at + 1) (log_of old))) idle (good.state.each at found.0 found.1).doing_is)

    now_left : left_in (db_of new) (at + 1) ≡ left_at new at
    now_left = left_seen new (at + 1) ∙ ap (left_at new) back

    old_left : left_in (db_of old) (at + 1) ≡ left_at old at
    old_left = left_seen old (at + 1) ∙ ap (left_at old) back
