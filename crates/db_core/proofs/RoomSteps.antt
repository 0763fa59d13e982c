-- A step leaves a session room for what it still has to do, and brings it nearer to its end.
use Rattle.std.proofs.Common.{◌≡◌, ℕ, ◌+◌, ◌<◌, ◌≤◌, Bool, true, false, List, [], ◌∷◌, ◌++◌, length, reverse, refl, sym, ap, ◌∙◌, arith}
use Rattle.std.proofs.lemmas.List.{length-reverse, length_push}
use Rattle.spec_file.specs.Image.{Image}
use Rattle.spec_log.specs.declared.item.Record.{Record}
use Rattle.spec_plan.specs.declared.plan.Planned.{Planned}
use Rattle.spec_run.specs.Shapes.{change_item}
use Rattle.spec_script.specs.declared.reply.Reply.{Reply}
use Rattle.db_core.specs.declared.session.Doing.{Doing}
use Rattle.db_core.specs.declared.session.Doing.TheVariants.{Idle, Changing, Ending, Undoing, Checking}
use Rattle.db_core.specs.declared.session.Session.{Session}
use Rattle.db_core.specs.Rooms.{pending_of, started_of, owed_by, HasOwnRoom, turns_left}
use Rattle.db_core.specs.States.{IsChanging, GoesOnWith, Keeps, KeepsRoom, StepsBack, StepsBy}
use Rattle.db_core.specs.Store.{is_snap}

-- what a session that makes changes still has to do
pub changing_counts : (x : Session) (c : Planned) (cs : List Planned) (own : Bool) (reply : Reply) (d : Doing) → IsChanging (c ∷ cs) own reply d →
    (pending_of d ≡ length cs + 1) × (started_of d ≡ 1) × ((items : List Record) → turns_left items x d ≡ length cs + 2)
changing_counts x c cs own reply Idle is = absurd is
changing_counts x c cs own reply (Changing next later o r) is =
    let e : length cs ≡ length later.items = (let f : cs ≡ reverse later.items = cc in ap length f ∙ length-reverse later.items) in
    (omega (arith, e), refl, λ items. omega (arith, e))
changing_counts x c cs own reply (Ending r) is = absurd is
changing_counts x c cs own reply Undoing is = absurd is
changing_counts x c cs own reply (Checking check) is = absurd is

-- the room of a session, from what has become of it
pub record Lighter (old new : Session) : Type 0 where
  pub own : HasOwnRoom new
  pub less : owed_by new + 1 ≤ owed_by old
  pub nearer : (before after : List Record) → turns_left after new new.doing < turns_left before old old.doing

-- behind a change
pub change_lighter : (old new : Session) (c : Planned) (later : _) (own : Bool) (reply : Reply) (n : ℕ) → old.doing ≡ Changing c later own reply → HasOwnRoom old → KeepsRoom old new → Keeps old new →
    new.left.items ≡ old.left.items ++ n ∷ [] → (ds : List Planned) → reverse later.items ≡ ds → GoesOnWith ds own reply old new → Lighter old new
change_lighter old new c later true reply n doing room kept_room kept left [] none goes =
    let script = ap length kept.script in
    let used = kept.used in
    let replies = ap length goes.1 in
    let lefts : length new.left.items ≡ length old.left.items + 1 = ap length left ∙ length_push old.left.items n in
    let pending = ap pending_of goes.0 in
    let started = ap started_of goes.0 in
    let pending_old = ap pending_of doing in
    let started_old = ap started_of doing in
    let a = room.short in let b = room.replies in let d = room.busy in let e = room.left in let f = room.announced in let g = room.used in
    let h = kept_room.replies in let i = kept_room.left in
    record {
      own = record {
        short = omega (arith, script, a);
        replies = omega (arith, script, b, h);
        busy = omega (arith, script, replies, started, started_old, d);
        left = omega (arith, lefts, pending, pending_old, e, i);
        announced = omega (arith, lefts, pending, pending_old, used, f);
        used = omega (arith, used, g);
      };
      less = omega (arith, script, replies, started, started_old, d, lefts, pending, pending_old);
      nearer = λ before after. (let turns = ap (turns_left after new) goes.0 in let turns_old = ap (turns_left before old) doing in omega (arith, turns, turns_old));
    }
change_lighter old new c later false reply n doing room kept_room kept left [] none goes =
    let script = ap length kept.script in
    let used = kept.used in
    let replies = ap length goes.1 ∙ length_push old.replies.items _ in
    let lefts : length new.left.items ≡ length old.left.items + 1 = ap length left ∙ length_push old.left.items n in
    let pending = ap pending_of goes.0 in
    let started = ap started_of goes.0 in
    let pending_old = ap pending_of doing in
    let started_old = ap started_of doing in
    let a = room.short in let b = room.replies in let d = room.busy in let e = room.left in let f = room.announced in let g = room.used in
    let h = kept_room.replies in let i = kept_room.left in
    record {
      own = record {
        short = omega (arith, script, a);
        replies = omega (arith, script, b, h);
        busy = omega (arith, script, replies, started, started_old, d);
        left = omega (arith, lefts, pending, pending_old, e, i);
        announced = omega (arith, lefts, pending, pending_old, used, f);
        used = omega (arith, used, g);
      };
      less = omega (arith, script, replies, started, started_old, d, lefts, pending, pending_old);
      nearer = λ before after. (let turns = ap (turns_left after new) goes.0 in let turns_old = ap (turns_left before old) doing in omega (arith, turns, turns_old));
    }
change_lighter old new c later own reply n doing room kept_room kept left (x ∷ xs) some goes =
    let counts = changing_counts new x xs own reply new.doing goes.0 in
    let size : length later.items ≡ length xs + 1 = sym (length-reverse later.items) ∙ ap length some ∙ omega arith in
    let script = ap length kept.script in
    let used = kept.used in
    let replies = ap length goes.1 in
    let lefts : length new.left.items ≡ length old.left.items + 1 = ap length left ∙ length_push old.left.items n in
    let pending = counts.0 in
    let started = counts.1 in
    let pending_old = ap pending_of doing in
    let started_old = ap started_of doing in
    let a = room.short in let b = room.replies in let d = room.busy in let e = room.left in let f = room.announced in let g = room.used in
    let h = kept_room.replies in let i = kept_room.left in
    record {
      own = record {
        short = omega (arith, script, a);
        replies = omega (arith, script, b, h);
        busy = omega (arith, script, replies, started, started_old, d);
        left = omega (arith, lefts, pending, pending_old, size, e, i);
        announced = omega (arith, lefts, pending, pending_old, size, used, f);
        used = omega (arith, used, g);
      };
      less = omega (arith, script, replies, started, started_old, d, lefts, pending, pending_old, size);
      nearer = λ before after. (let turns = counts.2 after in let turns_old = ap (turns_left before old) doing in omega (arith, turns, turns_old, size));
    }

-- the statement ends, and with it the transaction
pub end_lighter : (old new : Session) (reply : _) → started_of old.doing ≡ 1 → ((items : List Record) → 0 < turns_left items old old.doing) → HasOwnRoom old → KeepsRoom old new → new.script.items ≡ old.script.items → new.left.items ≡ [] →
    new.used ≤ 8192 → new.doing ≡ Idle → new.replies.items ≡ old.replies.items ++ reply ∷ [] → Lighter old new
end_lighter old new reply started_old turns_old room kept_room script_is left used doing replies_are =
    let script = ap length script_is in
    let replies = ap length replies_are ∙ length_push old.replies.items reply in
    let lefts = ap length left in
    let pending = ap pending_of doing in
    let started = ap started_of doing in
    let a = room.short in let b = room.replies in let d = room.busy in
    let h = kept_room.replies in
    record {
      own = record {
        short = omega (arith, script, a);
        replies = omega (arith, script, b, h);
        busy = omega (arith, script, replies, started, started_old, d);
        left = omega (arith, lefts, pending);
        announced = omega (arith, lefts, pending);
        used = used;
      };
      less = omega (arith, script, replies, started, started_old, d, lefts, pending);
      nearer = λ before after. (let turns = ap (turns_left after new) doing in let some = turns_old before in omega (arith, turns, some));
    }

-- the next change is undone
pub undo_lighter : (old new : Session) (n : ℕ) (rest : List ℕ) → old.doing ≡ Undoing → HasOwnRoom old → KeepsRoom old new → Keeps old new → reverse old.left.items ≡ n ∷ rest →
    reverse new.left.items ≡ rest → new.doing ≡ Undoing → new.replies.items ≡ old.replies.items → Lighter old new
undo_lighter old new n rest doing_old room kept_room kept left_old left_new doing replies_are =
    let script = ap length kept.script in
    let used = kept.used in
    let replies = ap length replies_are in
    let size_old : length old.left.items ≡ length rest + 1 = sym (length-reverse old.left.items) ∙ ap length left_old ∙ omega arith in
    let size_new : length new.left.items ≡ length rest = sym (length-reverse new.left.items) ∙ ap length left_new in
    let pending = ap pending_of doing in
    let started = ap started_of doing in
    let pending_old = ap pending_of doing_old in
    let started_old = ap started_of doing_old in
    let a = room.short in let b = room.replies in let d = room.busy in let e = room.left in let f = room.announced in let g = room.used in
    let h = kept_room.replies in let i = kept_room.left in
    record {
      own = record {
        short = omega (arith, script, a);
        replies = omega (arith, script, b, h);
        busy = omega (arith, script, replies, started, started_old, d);
        left = omega (arith, size_old, size_new, pending, pending_old, e, i);
        announced = omega (arith, size_old, size_new, pending, pending_old, used, f);
        used = omega (arith, used, g);
      };
      less = omega (arith, script, replies, started, started_old, d, size_old, size_new, pending, pending_old);
      nearer = λ before after. (let turns = ap (turns_left after new) doing in let turns_old = ap (turns_left before old) doing_old in omega (arith, size_old, size_new, turns, turns_old));
    }

pub change_silent : (t : ℕ) (c : Planned) → is_snap (change_item t c) ≡ false
change_silent t c = refl

-- whatever the step was
pub step_lighter : (number : ℕ) (items : List Record) (old new : Session) (pages after : Image) (x : Record) (d : Doing) → old.doing ≡ d → HasOwnRoom old → KeepsRoom old new →
    StepsBy number items old new pages after x d → Lighter old new × (is_snap x ≡ false)
step_lighter number items old new pages after x Idle doing room kept_room st = absurd st
step_lighter number items old new pages after x (Changing c later own reply) doing room kept_room st =
    (change_lighter old new c later own reply number doing room kept_room st.2 st.3 (reverse later.items) refl st.4, ap is_snap st.0 ∙ change_silent old.tran c)
step_lighter number items old new pages after x (Ending reply) doing room kept_room st =
    let used = room.used in
    (end_lighter old new _ (ap started_of doing) (λ before. (let turns = ap (turns_left before old) doing in omega (arith, turns))) room kept_room st.2 st.6 st.7 st.4 st.5, ap is_snap st.0)
step_lighter number items old new pages after x Undoing doing room kept_room st = by_left (reverse old.left.items) refl st
  where
    by_left : (ns : List ℕ) → reverse old.left.items ≡ ns → StepsBack ns items old new pages after x → Lighter old new × (is_snap x ≡ false)
    by_left [] none back =
        (end_lighter old new _ (ap started_of doing) (λ before. (let turns = ap (turns_left before old) doing in omega (arith, turns))) room kept_room back.1 back.6 back.7 back.3 back.4, ap is_snap back.0)
    by_left (n ∷ rest) some back = (undo_lighter old new n rest doing room kept_room back.1 some back.2 back.3 back.4, ap is_snap back.0)
step_lighter number items old new pages after x (Checking check) doing room kept_room st = absurd st
