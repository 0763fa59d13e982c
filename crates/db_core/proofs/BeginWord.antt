-- A turn of an idle session whose next statement needs no plan.
use Rattle.std.proofs.Common.{◌≡◌, ℕ, ◌+◌, ◌<◌, ◌≤◌, false, [], ◌∷◌, ◌++◌, length, Some, inl, inr, refl, sym, ap, ◌∙◌, arith}
use Rattle.std.specs.Prelude.{slice_get}
use Rattle.std.proofs.lemmas.Option.{slice_get_within}
use Rattle.std.proofs.lemmas.List.{length_push}
use Rattle.spec_log.specs.declared.item.Record.{Record}
use Rattle.db_core.specs.declared.session.Doing.{Doing}
use Rattle.spec_script.specs.declared.reply.Reply.TheVariants.{Done}
use Rattle.db_core.specs.declared.session.Doing.TheVariants.{Idle, Ending, Undoing}
use Rattle.db_core.specs.declared.session.Session.{Session}
use Rattle.db_core.specs.declared.starts.StatementNo.{StatementNo}
use Rattle.db_core.specs.declared.starts.Word.{Word}
use Rattle.db_core.specs.declared.starts.Word.TheVariants.{Begin, Commit, Rollback}
use Rattle.db_core.specs.declared.state.State.{State}
use Rattle.db_core.specs.Rooms.{pending_of, started_of, owed_by, HasOwnRoom}
use Rattle.db_core.specs.States.{KeepsRoom}
use Rattle.db_core.specs.Store.{run_is, log_of, is_snap, IsGood}
use Rattle.db_core.specs.Words.{statement_of, IsRefusal, IsOpening, IsGoing, StartsBy, IsNextWord}
use Rattle.db_core.proofs.Good.{IsStep}
use Rattle.db_core.proofs.Records.{IsBegun}
use Rattle.db_core.proofs.Words.{word_step}

-- the room behind a record
pub record StartRoom (old new : Session) : Type 0 where
  pub own : HasOwnRoom new
  pub less : owed_by new + 1 ≤ owed_by old

-- the statement ends at once
pub ends_room : (old new : Session) (reply : _) → old.doing ≡ Idle → length old.replies.items < length old.script.items → HasOwnRoom old → KeepsRoom old new → new.script.items ≡ old.script.items →
    length new.left.items ≤ length old.left.items → length new.left.items ≤ new.used → new.used ≤ 8192 → new.replies.items ≡ old.replies.items ++ reply ∷ [] → new.doing ≡ Idle → StartRoom old new
ends_room old new reply idle more room kept_room script_is left_is announced used replies_are doing =
    let script = ap length script_is in
    let replies = ap length replies_are ∙ length_push old.replies.items reply in
    let pending = ap pending_of doing in
    let started = ap started_of doing in
    let pending_old = ap pending_of idle in
    let started_old = ap started_of idle in
    let a = room.short in let b = room.replies in let e = room.left in
    let h = kept_room.replies in let i = kept_room.left in
    record {
      own = record {
        short = omega (arith, script, a);
        replies = omega (arith, script, b, h);
        busy = omega (arith, script, replies, started, more);
        left = omega (arith, left_is, pending, pending_old, e, i);
        announced = omega (arith, announced, pending);
        used = used;
      };
      less = omega (arith, script, replies, started, started_old, more, left_is, pending, pending_old);
    }

-- or goes on, with no change to be made
pub goes_room : (old new : Session) → old.doing ≡ Idle → length old.replies.items < length old.script.items → HasOwnRoom old → KeepsRoom old new → new.script.items ≡ old.script.items →
    new.left.items ≡ old.left.items → new.used ≡ old.used → new.replies.items ≡ old.replies.items → pending_of new.doing ≡ 0 → started_of new.doing ≡ 1 → StartRoom old new
goes_room old new idle more room kept_room script_is left_is used replies_are pending started =
    let script = ap length script_is in
    let replies = ap length replies_are in
    let left = ap length left_is in
    let pending_old = ap pending_of idle in
    let started_old = ap started_of idle in
    let a = room.short in let b = room.replies in let e = room.left in let f = room.announced in let g = room.used in
    let h = kept_room.replies in let i = kept_room.left in
    record {
      own = record {
        short = omega (arith, script, a);
        replies = omega (arith, script, b, h);
        busy = omega (arith, script, replies, started, more);
        left = omega (arith, left, pending, pending_old, e, i);
        announced = omega (arith, left, used, pending, pending_old, f);
        used = omega (arith, used, g);
      };
      less = omega (arith, script, replies, started, started_old, more, left, pending, pending_old);
    }

refusal_room : (place : StatementNo) (number : ℕ) (old new : Session) (x : Record) → old.doing ≡ Idle → length old.replies.items < length old.script.items → HasOwnRoom old → KeepsRoom old new →
    IsRefusal place number old new x → StartRoom old new × (is_snap x ≡ false)
refusal_room place number old new x idle more room kept_room r =
    let left = ap length r.left in
    let used = r.kept.used in
    let f = room.announced in let g = room.used in
    (ends_room old new _ idle more room kept_room r.kept.script (omega (arith, left)) (omega (arith, left, used, f)) (omega (arith, used, g)) r.replies r.doing, ap is_snap r.item)

opening_room : (place : StatementNo) (tran : ℕ) (old new : Session) (x : Record) → old.doing ≡ Idle → length old.replies.items < length old.script.items → HasOwnRoom old → KeepsRoom old new →
    IsOpening place tran old new x → StartRoom old new × (is_snap x ≡ false)
opening_room place tran old new x idle more room kept_room r =
    let left = ap length r.left in
    let used = r.used in
    (ends_room old new _ idle more room kept_room r.script (omega (arith, left)) (omega (arith, left)) (omega (arith, used)) r.replies r.doing, ap is_snap r.item)

going_room : (place : StatementNo) (d : Doing) (old new : Session) (x : Record) → pending_of d ≡ 0 → started_of d ≡ 1 → old.doing ≡ Idle → length old.replies.items < length old.script.items → HasOwnRoom old → KeepsRoom old new →
    IsGoing place d old new x → StartRoom old new × (is_snap x ≡ false)
going_room place d old new x pending started idle more room kept_room r =
    (goes_room old new idle more room kept_room r.kept.script r.left r.kept.used r.replies (ap pending_of r.doing ∙ pending) (ap started_of r.doing ∙ started), ap is_snap r.item)

pub word_room : (word : Word) (last : ℕ) (place : StatementNo) (old new : Session) (x : Record) → IsNextWord word old → HasOwnRoom old → KeepsRoom old new → StartsBy word last place old new x →
    StartRoom old new × (is_snap x ≡ false)
word_room word last place old new x next room kept_room st = by_word word (slice_get_within old.script.items (length old.replies.items) (statement_of word) next.next) st
  where
    by_word : (w : Word) → length old.replies.items < length old.script.items → StartsBy w last place old new x → StartRoom old new × (is_snap x ≡ false)
    by_word Begin more (inl r) = opening_room place (last + 1) old new x next.idle more room kept_room r.1
    by_word Begin more (inr r) = refusal_room place 60001 old new x next.idle more room kept_room r.1
    by_word Commit more (inl r) = refusal_room place 3902 old new x next.idle more room kept_room r.1
    by_word Commit more (inr r) = going_room place (Ending Done) old new x refl refl next.idle more room kept_room r.1
    by_word Rollback more (inl r) = refusal_room place 3903 old new x next.idle more room kept_room r.1
    by_word Rollback more (inr r) = going_room place Undoing old new x refl refl next.idle more room kept_room r.1

pub word_good : (st : State) (k : ℕ) (place : StatementNo) (x y : Session) (word : Word) (item : Record) → IsGood st → slice_get st.sessions.items k ≡ Some x → IsNextWord word x →
    place.session ≡ k + 1 → place.index ≡ length x.replies.items + 1 → StartsBy word st.last place x y item → IsStep (run_is st) (log_of st) (k + 1) y st.frames st.frames item st.all st.size
word_good st k place x y word item good here next ps pi st_by =
    let run = run_is st in
    let log = log_of st in
    let begun_is : IsBegun run log (k + 1) x (statement_of word) _ = record {
      start = good.state.start;
      legal = good.state.legal;
      above = omega arith;
      mine = good.state.each k x here;
      idle = next.idle;
      next = next.next;
      is_begun = refl;
    } in
    let s = word_step run log (k + 1) st.last place x y word st.frames item begun_is ps pi good.state.last_is st_by in
    record {
      comes = s.comes;
      mine = s.mine;
      pages_are = s.pages_are;
      all_is = good.state.all_is ∙ sym s.all_same;
      size_is = good.state.size_is ∙ sym s.size_same;
    }
