-- The room of a session behind the record of a planned statement, and the sums.
use Rattle.std.proofs.Common.{◌≡◌, ℕ, ◌+◌, ◌*◌, ◌<◌, ◌≤◌, Bool, true, false, eqb, ltb, not, ◌&&◌, ◌||◌, List, [], ◌∷◌, length, inl, inr, refl, sym, ap, ◌∙◌, arith}
use Rattle.std.specs.Prelude.{if◌then◌else◌}
use Rattle.std.proofs.lemmas.Bool.{eqb-true, ltb-false, eq-eqb, ne_eqb, cases_Bool, or_parts}
use Rattle.std.proofs.lemmas.List.{length_push}
use Rattle.spec_file.specs.declared.data.Resource.{Resource}
use Rattle.spec_log.specs.declared.item.Record.{Record}
use Rattle.spec_script.specs.declared.reply.Reply.{Reply}
use Rattle.spec_plan.specs.declared.plan.Planned.{Planned}
use Rattle.spec_plan.specs.Planned.{planned_size}
use Rattle.db_core.specs.declared.session.Doing.TheVariants.{Idle}
use Rattle.db_core.specs.declared.session.Session.{Session}
use Rattle.db_core.specs.declared.starts.StatementNo.{StatementNo}
use Rattle.db_core.specs.Rooms.{pending_of, started_of, owed_by, HasOwnRoom}
use Rattle.db_core.specs.States.{GoesOnWith, KeepsRoom}
use Rattle.db_core.specs.Store.{is_snap}
use Rattle.db_plan.specs.Limits.{exceeds}
use Rattle.db_core.specs.Plans.{used_now, HasRoomFor, Writes, announced_by, bytes_by}
use Rattle.db_core.specs.Words.{IsEnded}
use Rattle.db_core.proofs.RoomSteps.{changing_counts}

-- the session's own room, and what it owes more than before behind a record with n changes
pub record PlanRoom (old new : Session) (n : ℕ) : Type 0 where
  pub own : HasOwnRoom new
  pub less : owed_by new + 1 ≤ owed_by old + 2 * n

-- the limits that aren't passed
pub record Limits (used all size n bytes : ℕ) : Type 0 where
  pub used_low : used + n ≤ 8192
  pub all_low : all + n ≤ 524288
  pub size_low : size + (bytes + 17 * n) ≤ 268435456

pub limits : (used all size n bytes : ℕ) → exceeds used all size n bytes ≡ false → used ≤ 8192 → all ≤ 524288 → size ≤ 268435456 → (n ≡ 0 → bytes ≡ 0) → Limits used all size n bytes
limits used all size n bytes within used_low all_low size_low none = elim (cases_Bool (eqb n 0)) [
  | inl e ↦
      let zero_n = eqb-true n 0 e in
      let zero_bytes = none zero_n in
      record { used_low = omega (arith, zero_n, used_low); all_low = omega (arith, zero_n, all_low); size_low = omega (arith, zero_n, zero_bytes, size_low) }
  | inr e ↦
      let over = ltb 8192 (used + n) || ltb 1048576 (2 * (all + n)) || ltb 268435456 (size + (bytes + 17 * n)) in
      let not_over : over ≡ false = sym (ap (λ b. not b && over) e) ∙ within in
      let first = or_parts (ltb 8192 (used + n) || ltb 1048576 (2 * (all + n))) (ltb 268435456 (size + (bytes + 17 * n))) not_over in
      let second = or_parts (ltb 8192 (used + n)) (ltb 1048576 (2 * (all + n))) first.0 in
      let a = ltb-false 8192 (used + n) second.0 in
      let b = ltb-false 1048576 (2 * (all + n)) second.1 in
      let d = ltb-false 268435456 (size + (bytes + 17 * n)) first.1 in
      record { used_low = omega (arith, a); all_low = omega (arith, b); size_low = omega (arith, d) }
]

pub no_bytes : (changes : List Planned) → length changes ≡ 0 → planned_size changes ≡ 0
no_bytes [] e = refl
no_bytes (c ∷ cs) e = absurd (omega (arith, e))

pub ended_room : (place : StatementNo) (number : ℕ) (reply : Reply) (old new : Session) (x : Record) → old.doing ≡ Idle → length old.replies.items < length old.script.items → HasOwnRoom old → KeepsRoom old new →
    IsEnded place number reply old new x → PlanRoom old new 0
ended_room place number reply old new x idle more room kept_room r =
    let script = ap length r.kept.script in
    let replies = ap length r.replies ∙ length_push old.replies.items reply in
    let left = ap length r.left in
    let used = r.kept.used in
    let pending = ap pending_of r.doing in
    let started = ap started_of r.doing in
    let pending_old = ap pending_of idle in
    let started_old = ap started_of idle in
    let a = room.short in let b = room.replies in let e = room.left in let f = room.announced in let g = room.used in
    let h = kept_room.replies in let i = kept_room.left in
    record {
      own = record {
        short = omega (arith, script, a);
        replies = omega (arith, script, b, h);
        busy = omega (arith, script, replies, started, more);
        left = omega (arith, left, pending, pending_old, e, i);
        announced = omega (arith, left, used, pending, pending_old, f);
        used = omega (arith, used, g);
      };
      less = omega (arith, script, replies, started, started_old, more, left, pending, pending_old);
    }

-- what a session does with its changes to come
pub record Goes (old new : Session) (n : ℕ) : Type 0 where
  pub pending : pending_of new.doing ≡ n
  pub busy : length new.replies.items + started_of new.doing ≡ length old.replies.items + 1
  pub some : started_of new.doing ≤ 1

goes_counts : (old new : Session) (changes : List Planned) (own : Bool) (reply : Reply) → GoesOnWith changes own reply old new → Goes old new (length changes)
goes_counts old new [] true reply goes =
    let replies = ap length goes.1 in
    let started = ap started_of goes.0 in
    record { pending = ap pending_of goes.0; busy = omega (arith, replies, started); some = omega (arith, started) }
goes_counts old new [] false reply goes =
    let replies = ap length goes.1 ∙ length_push old.replies.items _ in
    let started = ap started_of goes.0 in
    record { pending = ap pending_of goes.0; busy = omega (arith, replies, started); some = omega (arith, started) }
goes_counts old new (c ∷ cs) own reply goes =
    let counts = changing_counts new c cs own reply new.doing goes.0 in
    let pending = counts.0 in
    let started = counts.1 in
    let replies = ap length goes.1 in
    record { pending = omega (arith, pending); busy = omega (arith, replies, started); some = omega (arith, started) }

goes_room : (old new : Session) (changes : List Planned) (own : Bool) (reply : Reply) (takes : ℕ) → old.doing ≡ Idle → length old.replies.items < length old.script.items → HasOwnRoom old → KeepsRoom old new →
    HasRoomFor old (length changes) takes → new.script.items ≡ old.script.items → length new.left.items ≤ length old.left.items → length new.left.items + length changes ≤ new.used → new.used ≤ 8192 →
    GoesOnWith changes own reply old new → PlanRoom old new (length changes)
goes_room old new changes own reply takes idle more room kept_room free script_is left announced used goes =
    let counts = goes_counts old new changes own reply goes in
    let pending = counts.pending in let busy = counts.busy in let some = counts.some in
    let script = ap length script_is in
    let pending_old = ap pending_of idle in
    let started_old = ap started_of idle in
    let a = room.short in let b = room.replies in
    let h = kept_room.replies in let i = kept_room.left in
    let e = free.left in
    record {
      own = record {
        short = omega (arith, script, a);
        replies = omega (arith, script, b, h);
        busy = omega (arith, script, busy, more);
        left = omega (arith, left, pending, e, i);
        announced = omega (arith, pending, announced);
        used = used;
      };
      less = omega (arith, script, busy, some, started_old, more, left, pending, pending_old);
    }

used_fresh : (x : Session) → x.tran ≡ 0 → used_now x ≡ 0
used_fresh x e = ap (λ c. if c then 0 else x.used) (eq-eqb x.tran 0 e)

used_open : (x : Session) → (x.tran ≡ 0 → ⊥) → used_now x ≡ x.used
used_open x n = ap (λ c. if c then 0 else x.used) (ne_eqb x.tran 0 n)

pub used_low : (x : Session) → HasOwnRoom x → used_now x ≤ 8192
used_low x room = elim (cases_Bool (eqb x.tran 0)) [
  | inl e ↦ let u = used_fresh x (eqb-true x.tran 0 e) in omega (arith, u)
  | inr e ↦ let u = ap (λ c. if c then 0 else x.used) e in let g = room.used in omega (arith, u, g)
]

pub writes_room : (last : ℕ) (place : StatementNo) (reply : Reply) (takes : List Resource) (changes : List Planned) (old new : Session) (x : Record) → old.doing ≡ Idle → length old.replies.items < length old.script.items →
    HasOwnRoom old → KeepsRoom old new → HasRoomFor old (length changes) (length takes) → used_now old + length changes ≤ 8192 → Writes last place reply takes changes old new x → PlanRoom old new (length changes)
writes_room last place reply takes changes old new x idle more room kept_room free low (inl w) =
    let r = w.1 in
    let used = r.used_is in
    let now = used_fresh old w.0 in
    let left = ap length r.left_is in
    goes_room old new changes true reply (length takes) idle more room kept_room free r.script (omega (arith, left)) (omega (arith, left, used)) (omega (arith, used, low, now)) r.goes
writes_room last place reply takes changes old new x idle more room kept_room free low (inr w) =
    let r = w.1 in
    let used = r.used_is in
    let now = used_open old w.0 in
    let left = ap length r.left_is in
    let pending = ap pending_of idle in
    let f = room.announced in
    goes_room old new changes false reply (length takes) idle more room kept_room free r.script (omega (arith, left)) (omega (arith, left, used, pending, f)) (omega (arith, used, low, now)) r.goes

-- the item of changes
pub record Announces (x : Record) (n bytes : ℕ) : Type 0 where
  pub silent : is_snap x ≡ false
  pub changes_are : announced_by x ≡ n
  pub bytes_are : bytes_by x ≡ bytes + 17 * n

pub ended_announces : (place : StatementNo) (number : ℕ) (reply : Reply) (old new : Session) (x : Record) → IsEnded place number reply old new x → Announces x 0 0
ended_announces place number reply old new x r = record { silent = ap is_snap r.item; changes_are = ap announced_by r.item; bytes_are = ap bytes_by r.item }

pub writes_announces : (last : ℕ) (place : StatementNo) (reply : Reply) (takes : List Resource) (changes : List Planned) (old new : Session) (x : Record) → Writes last place reply takes changes old new x →
    Announces x (length changes) (planned_size changes)
writes_announces last place reply takes changes old new x (inl w) = record { silent = ap is_snap w.1.item; changes_are = ap announced_by w.1.item; bytes_are = ap bytes_by w.1.item }
writes_announces last place reply takes changes old new x (inr w) = record { silent = ap is_snap w.1.item; changes_are = ap announced_by w.1.item; bytes_are = ap bytes_by w.1.item }
