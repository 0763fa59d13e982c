-- More room changes nothing else, and a plan within the limits may begin.
use Rattle.std.proofs.Common.{◌≡◌, ℕ, ◌+◌, ◌*◌, ◌≤◌, true, eqb, List, [], ◌∷◌, length, reverse, Some, Ok, Err, inl, inr, refl, sym, ap, ◌∙◌, subst, arith, append-nil, vec_len, vec_capacity}
use Rattle.std.specs.Prelude.{if◌then◌else◌, slice_get, slice_set, sum_by}
use Rattle.std.specs.declared.result.Result.{Result}
use Rattle.std.proofs.Math.ListN.{length-set}
use Rattle.spec_file.specs.Places.{HasShape}
use Rattle.spec_log.specs.declared.item.Record.{Record}
use Rattle.spec_script.specs.declared.reply.Refusal.{Refusal}
use Rattle.spec_plan.specs.Refusals.{out_of_memory}
use Rattle.spec_run.specs.Begun.{Setting, Becoming, becomes}
use Rattle.spec_run.specs.Progress.{progress_of}
use Rattle.spec_run.specs.Turns.{AreTold, told_to, Turn}
use Rattle.db_plan.specs.declared.planned.Plan.{Plan}
use Rattle.db_plan.specs.declared.planned.Plan.TheVariants as plan
use Rattle.db_core.specs.declared.session.Session.{Session}
use Rattle.db_core.specs.declared.state.State.{State}
use Rattle.db_core.specs.Rooms.{pending_of, started_of, owed_by, HasOwnRoom}
use Rattle.db_core.specs.States.{whole_log, entries_of, IsAt, IsOpen, IsSession, IsState, IsSame, KeepsRoom}
use Rattle.db_core.specs.Store.{run_is, log_of, IsGood, LeavesOthers, Went}
use Rattle.db_core.specs.Plans.{IsByPlan, IsPlanned, IsWithinIfPlanned, used_now, changes_in, takes_in, HasRoomFor, IsReady, IsPrepared, IsRoomier}
use Rattle.db_core.proofs.Good.{get_below, get_put, get_same, sum_set, run_same}
use Rattle.db_core.proofs.Keeps.{get_set}
use Rattle.db_core.proofs.Left.{leaves_others}

same_session : (run : Setting) (log : List Record) (s : ℕ) (x y : Session) → IsSame x y → IsSession run log s x → IsSession run log s y
same_session run log s x y same mine = record {
  script_is = mine.script_is ∙ sym same.kept.script;
  told = subst (AreTold run.geometry (told_to run s log)) (sym same.replies) mine.told;
  tran_is = mine.tran_is ∙ sym same.kept.tran;
  doing_is = subst (IsAt run log s (length y.replies.items + 1) y.tran (progress_of run s log)) (sym same.doing)
      (subst (λ t. IsAt run log s (length y.replies.items + 1) t (progress_of run s log) x.doing) (sym same.kept.tran)
      (subst (λ rs. IsAt run log s (length rs + 1) x.tran (progress_of run s log) x.doing) (sym same.replies) mine.doing_is));
  opens = elim mine.opens [
    | inl none ↦ inl (same.kept.tran ∙ none)
    | inr o ↦ inr (subst (λ t. IsOpen (whole_log run log) t y.left.items y.held.items y.used) (sym same.kept.tran)
        (subst (λ l. IsOpen (whole_log run log) x.tran l y.held.items y.used) (sym same.left)
        (subst (λ h. IsOpen (whole_log run log) x.tran x.left.items h y.used) (sym same.kept.held)
        (subst (IsOpen (whole_log run log) x.tran x.left.items x.held.items) (sym same.kept.used) o))))
  ];
}

same_owed : (x y : Session) → IsSame x y → owed_by y ≡ owed_by x
same_owed x y same =
    let script = ap length same.kept.script in
    let replies = ap length same.replies in
    let left = ap length same.left in
    let pending = ap pending_of same.doing in
    let started = ap started_of same.doing in
    omega (arith, script, replies, left, pending, started)

same_room : (x y : Session) → IsSame x y → KeepsRoom x y → HasOwnRoom x → HasOwnRoom y
same_room x y same kept_room room =
    let script = ap length same.kept.script in
    let replies = ap length same.replies in
    let left = ap length same.left in
    let used = same.kept.used in
    let pending = ap pending_of same.doing in
    let started = ap started_of same.doing in
    let a = room.short in let b = room.replies in let d = room.busy in let e = room.left in let f = room.announced in let g = room.used in
    let h = kept_room.replies in let i = kept_room.left in
    record {
      short = omega (arith, script, a);
      replies = omega (arith, script, b, h);
      busy = omega (arith, script, replies, started, d);
      left = omega (arith, left, pending, e, i);
      announced = omega (arith, left, pending, used, f);
      used = omega (arith, used, g);
    }

pub same_items : (st : State) → st.items.items ≡ st.items.items
same_items st = refl

-- the session that was given room
pub room_put : (sessions : List Session) (k : ℕ) (x y : Session) → slice_get sessions k ≡ Some x → IsSame x y → KeepsRoom x y → (z : Session) → slice_get sessions k ≡ Some z →
    (w : Session) × (slice_set sessions k y ≡ slice_set sessions k w) × IsSame z w × KeepsRoom z w
room_put sessions k x y here same kept_room z at =
    let is = get_same sessions k x z here at in
    (y, refl, subst (λ w. IsSame w y) is same, subst (λ w. KeepsRoom w y) is kept_room)

pub roomier_run : (k : ℕ) (old new : State) → IsRoomier k old new → run_is new ≡ run_is old
roomier_run k old new r = run_same old new r.base r.first

pub roomier_log : (k : ℕ) (old new : State) → IsRoomier k old new → log_of new ≡ log_of old
roomier_log k old new r = ap reverse r.items

pub roomier_few : (k : ℕ) (old new : State) (x : Session) → slice_get old.sessions.items k ≡ Some x → IsRoomier k old new → length new.sessions.items ≡ length old.sessions.items
roomier_few k old new x here r = let s = r.session x here in ap length s.1 ∙ length-set old.sessions.items k s.0

pub roomier_good : (k : ℕ) (old new : State) (x : Session) → slice_get old.sessions.items k ≡ Some x → IsRoomier k old new → IsGood old → IsGood new
roomier_good k old new x here r good =
    let run = run_is old in
    let log = log_of old in
    let s = r.session x here in
    let y = s.0 in
    let owed = same_owed x y s.2 in
    let sum = sum_set owed_by old.sessions.items k x y here in
    let owed_old = good.owed_is in
    let owed_new = r.owed in
    let len = r.len in let capacity = r.capacity in let room = good.room in
    let state : IsState run log old.frames (slice_set old.sessions.items k y) old.last old.all old.size = record {
      start = good.state.start;
      legal = good.state.legal;
      pages_are = good.state.pages_are;
      few = length-set old.sessions.items k y ∙ good.state.few;
      each = λ j z at. elim (get_set old.sessions.items k j y z at) [
        | inl e ↦ subst (λ m. IsSession run log (m + 1) z) e.0
            (subst (IsSession run log (k + 1)) (sym e.1) (same_session run log (k + 1) x y s.2 (good.state.each k x here)))
        | inr e ↦ good.state.each j z e.1
      ];
      last_is = good.state.last_is;
      all_is = good.state.all_is;
      size_is = good.state.size_is;
    } in
    let frames = subst (λ f. IsState run log f (slice_set old.sessions.items k y) old.last old.all old.size) (sym r.frames) state in
    let sessions = subst (λ ss. IsState run log new.frames ss old.last old.all old.size) (sym s.1) frames in
    let last = subst (λ n. IsState run log new.frames new.sessions.items n old.all old.size) (sym r.last) sessions in
    let all = subst (λ n. IsState run log new.frames new.sessions.items new.last n old.size) (sym r.all_is) last in
    let size = subst (IsState run log new.frames new.sessions.items new.last new.all) (sym r.size_is) all in
    let low = good.low in let last_is = r.last in let items = ap length r.items in
    record {
      state = subst (λ g. IsState g (log_of new) new.frames new.sessions.items new.last new.all new.size) (sym (roomier_run k old new r))
          (subst (λ l. IsState run l new.frames new.sessions.items new.last new.all new.size) (sym (roomier_log k old new r)) size);
      room = omega (arith, room, len, capacity, owed_new);
      owed_is = ap (sum_by owed_by) s.1 ∙ omega (arith, sum, owed, owed_old, owed_new);
      each_room = λ j z at. elim (get_set old.sessions.items k j y z (subst (λ ss. slice_get ss j ≡ Some z) s.1 at)) [
        | inl e ↦ subst HasOwnRoom (sym e.1) (same_room x y s.2 s.3 (good.each_room k x here))
        | inr e ↦ good.each_room j z e.1
      ];
      few = subst (λ n. n ≤ 16) (sym (roomier_few k old new x here r)) good.few;
      low = omega (arith, low, last_is, items);
      all_low = subst (λ n. n ≤ 524288) (sym r.all_is) good.all_low;
      size_low = subst (λ n. n ≤ 268435456) (sym r.size_is) good.size_low;
    }

pub roomier_others : (k : ℕ) (old new : State) (x : Session) → slice_get old.sessions.items k ≡ Some x → IsRoomier k old new → IsGood old → LeavesOthers k old new
roomier_others k old new x here r good = let s = r.session x here in leaves_others old new k s.0 [] good (r.items ∙ sym (append-nil old.items.items)) s.1

-- the session there is the same but for its room
roomier_same : (k : ℕ) (old new : State) (x y : Session) → slice_get old.sessions.items k ≡ Some x → slice_get new.sessions.items k ≡ Some y → IsRoomier k old new → IsSame x y
roomier_same k old new x y here there r =
    let s = r.session x here in
    let put : slice_get new.sessions.items k ≡ Some s.0 = ap (λ ss. slice_get ss k) s.1 ∙ get_put old.sessions.items k s.0 (get_below old.sessions.items k x here) in
    subst (IsSame x) (get_same new.sessions.items k s.0 y put there) s.2

same_used : (x y : Session) → IsSame x y → used_now y ≡ used_now x
same_used x y same = ap (λ t. if eqb t 0 then 0 else y.used) same.kept.tran ∙ ap (λ n. if eqb x.tran 0 then 0 else n) same.kept.used

-- what was planned for it
roomier_planned : (k : ℕ) (old new : State) (x y : Session) (result : Result Plan Refusal) → IsRoomier k old new → IsSame x y → IsPlanned old k x result → IsPlanned new k y result
roomier_planned k old new x y result r same p =
    let by : Setting → List Record → ℕ → Type 0 =
    λ run log t. IsByPlan (becomes run log t p.statement) (whole_log run log) t result in
    record {
      idle = same.doing ∙ p.idle;
      statement = p.statement;
      next = ap (λ ss. slice_get ss (length y.replies.items)) same.kept.script ∙ ap (λ rs. slice_get x.script.items (length rs)) same.replies ∙ p.next;
      by_plan = subst (λ run. by run (log_of new) y.tran) (sym (roomier_run k old new r))
          (subst (λ log. by (run_is old) log y.tran) (sym (roomier_log k old new r))
          (subst (by (run_is old) (log_of old)) (sym same.kept.tran) p.by_plan));
      within = subst (λ u. IsWithinIfPlanned u new.all new.size result) (sym (same_used x y same)) (subst (λ a. IsWithinIfPlanned (used_now x) a new.size result) (sym r.all_is)
          (subst (λ z. IsWithinIfPlanned (used_now x) old.all z result) (sym r.size_is) p.within));
    }

-- want of memory may come in any case
want_by : (b : Becoming) (log : List Record) (t : ℕ) (p : Plan) → IsByPlan b log t (Ok p) → b.may_want ≡ true
want_by b log t (plan.Read reply) by = ap (λ (c : Becoming). c.may_want) by
want_by b log t (plan.Written reply takes changes) by = ap (λ (c : Becoming). c.may_want) by

want_planned : (st : State) (k : ℕ) (x : Session) (p : Plan) → IsPlanned st k x (Ok p) → IsPlanned st k x (Err out_of_memory)
want_planned st k x p h = record { idle = h.idle; statement = h.statement; next = h.next; by_plan = inr (want_by _ _ _ p h.by_plan, refl); within = tt }

-- a refusal needs no room
pub ready_refused : (st : State) (k : ℕ) (refusal : Refusal) → IsGood st → ((x : Session) → slice_get st.sessions.items k ≡ Some x → IsPlanned st k x (Err refusal)) → IsPrepared k st st (Err refusal)
ready_refused st k refusal good planned = record {
  good = good;
  run = refl;
  log = refl;
  few = refl;
  others = λ j differ. refl;
  ready = λ y at. record { planned = planned y at; free = tt };
}

-- all that was asked, with room or without
prepared : (k : ℕ) (old new : State) (x : Session) (result : Result Plan Refusal) → IsGood old → slice_get old.sessions.items k ≡ Some x → IsRoomier k old new →
    ((y : Session) → slice_get new.sessions.items k ≡ Some y → IsReady new k y result) → IsPrepared k old new result
prepared k old new x result good here r ready = record {
  good = roomier_good k old new x here r good;
  run = roomier_run k old new r;
  log = roomier_log k old new r;
  few = roomier_few k old new x here r;
  others = roomier_others k old new x here r good;
  ready = ready;
}

pub prepared_plan : (k : ℕ) (old new : State) (x : Session) (p : Plan) → IsGood old → slice_get old.sessions.items k ≡ Some x → IsRoomier k old new → IsPlanned old k x (Ok p) →
    vec_len new.items + (new.owed + 2 * changes_in p) ≤ vec_capacity new.items → ((y : Session) → slice_get new.sessions.items k ≡ Some y → HasRoomFor y (changes_in p) (takes_in p)) →
    IsPrepared k old new (Ok p)
prepared_plan k old new x p good here r h items room =
    prepared k old new x (Ok p) good here r (λ y there. record {
      planned = roomier_planned k old new x y (Ok p) r (roomier_same k old new x y here there r) h;
      free = record { items = items; room = room y there };
    })

pub prepared_want : (k : ℕ) (old new : State) (x : Session) (p : Plan) → IsGood old → slice_get old.sessions.items k ≡ Some x → IsRoomier k old new → IsPlanned old k x (Ok p) →
    IsPrepared k old new (Err out_of_memory)
prepared_want k old new x p good here r h =
    prepared k old new x (Err out_of_memory) good here r (λ y there. record {
      planned = roomier_planned k old new x y (Err out_of_memory) r (roomier_same k old new x y here there r) (want_planned old k x p h);
      free = tt;
    })

-- a turn from a state that differs in its room alone
pub went_from : (k : ℕ) (old mid new : State) → run_is mid ≡ run_is old → log_of mid ≡ log_of old → LeavesOthers k old mid → Went k mid new → Went k old new
went_from k old mid new run log others w = record {
  good = w.good;
  turn = (w.turn.0 ∙ run, subst (λ l. Turn (run_is old) (k + 1) (entries_of l) (entries_of (log_of new))) log (subst (λ r. Turn r (k + 1) (entries_of (log_of mid)) (entries_of (log_of new))) run w.turn.1));
  item = w.item;
  appended = w.appended ∙ ap (λ l. w.item ∷ l) log;
  silent = w.silent;
  others = λ j differ. w.others j differ ∙ others j differ;
}
