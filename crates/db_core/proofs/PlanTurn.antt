-- The turn of a statement that may begin.
use Rattle.std.proofs.Common.{◌≡◌, ℕ, ◌+◌, ◌-◌, ◌*◌, ◌<◌, ◌≤◌, false, List, inl, inr, [], ◌∷◌, ◌++◌, length, Some, None, Ok, Err, refl, sym, ap, ◌∙◌, subst, arith, vec_len, vec_capacity}
use Rattle.std.specs.Prelude.{if◌then◌else◌, slice_get, IfOk}
use Rattle.std.specs.declared.result.Result.{Result}
use Rattle.std.proofs.lemmas.Option.{slice_get_within}
use Rattle.spec_script.specs.declared.reply.Refusal.{Refusal}
use Rattle.spec_log.specs.declared.item.Record.{Record}
use Rattle.spec_script.specs.declared.reply.Reply.{Reply}
use Rattle.spec_script.specs.declared.reply.Reply.TheVariants.{Refused}
use Rattle.spec_plan.specs.declared.plan.Planned.{Planned}
use Rattle.spec_plan.specs.Planned.{planned_size}
use Rattle.spec_script.specs.Refusals.{plain_refusal}
use Rattle.spec_run.specs.Shapes.{plain_start, items_by}
use Rattle.spec_run.specs.Begun.{Becoming, becomes, begun, begun_by}
use Rattle.db_plan.specs.declared.planned.Plan.{Plan}
use Rattle.db_plan.specs.declared.planned.Plan.TheVariants as plan
use Rattle.db_plan.specs.Limits.{exceeds}
use Rattle.db_core.specs.declared.session.Session.{Session}
use Rattle.db_core.specs.declared.starts.StatementNo.{StatementNo}
use Rattle.db_core.specs.declared.state.State.{State}
use Rattle.db_core.specs.Rooms.{owed_by}
use Rattle.db_core.specs.States.{whole_log, KeepsRoom}
use Rattle.db_core.specs.Store.{run_is, log_of, is_snap, IsGood, IsSettled, Went}
use Rattle.db_core.specs.Plans.{IsSmall, IsWithin, IsByPlan, IsPlanned, IsReady, BeginsAs, used_now, changes_in, takes_in, announced_by, bytes_by}
use Rattle.db_core.specs.Words.{IsEnded}
use Rattle.db_core.proofs.Good.{part_of_sum, log_more, IsMid, IsStep, stepped_good, stepped_turn}
use Rattle.db_core.proofs.Left.{leaves_others}
use Rattle.db_core.proofs.Records.{IsBegun}
use Rattle.db_core.proofs.PlanSteps.{HasBegun, ended_step, short_step, writing_step, all_more, bytes_more}
use Rattle.db_core.proofs.PlanRooms.{PlanRoom, Limits, limits, no_bytes, ended_room, used_low, writes_room, ended_announces, writes_announces}

-- how many changes come
abbrev pub changes_by : Result Plan Refusal → ℕ
changes_by (Ok p) = changes_in p
changes_by (Err e) = 0

-- the limits that the statement's changes keep
kept_limits : (st : State) (k : ℕ) (x : Session) (changes : List Planned) → IsGood st → slice_get st.sessions.items k ≡ Some x → exceeds (used_now x) st.all st.size (length changes) (planned_size changes) ≡ false →
    Limits (used_now x) st.all st.size (length changes) (planned_size changes)
kept_limits st k x changes good here within =
    limits (used_now x) st.all st.size (length changes) (planned_size changes) within (used_low x (good.each_room k x here)) good.all_low good.size_low (no_bytes changes)

pub plan_small : (st : State) (k : ℕ) (x : Session) (p : Plan) → IsGood st → slice_get st.sessions.items k ≡ Some x → IsWithin (used_now x) st.all st.size p → IsSmall p
plan_small st k x (plan.Read reply) good here within = tt
plan_small st k x (plan.Written reply takes changes) good here within =
    let kept = kept_limits st k x changes.items good here within in
    let few = kept.used_low in
    let short = kept.size_low in
    record { few = omega (arith, few); short = omega (arith, short) }

pub few_in : (p : Plan) → IsSmall p → changes_in p ≤ 8192
few_in (plan.Read reply) small = omega arith
few_in (plan.Written reply takes changes) small = small.few

pub ready_small : (st : State) (k : ℕ) (x : Session) (result : Result Plan Refusal) → IsGood st → slice_get st.sessions.items k ≡ Some x → IsReady st k x result → IfOk result IsSmall
ready_small st k x (Ok p) good here ready = plan_small st k x p good here ready.planned.within
ready_small st k x (Err e) good here ready = tt

pub ready_held : (st : State) (k : ℕ) (x : Session) (result : Result Plan Refusal) → IsReady st k x result → IfOk result (λ p. length x.held.items + takes_in p ≤ vec_capacity x.held)
ready_held st k x (Ok p) ready = ready.free.room.held
ready_held st k x (Err e) ready = tt

-- all that is asked of a record
pub record Starts (st : State) (k : ℕ) (x y : Session) (n : ℕ) (item : Record) : Type 0 where
  pub begun : HasBegun (run_is st) (log_of st) (k + 1) y st.frames item
  pub room : PlanRoom x y n
  pub space : vec_len st.items + (st.owed + 2 * n) ≤ vec_capacity st.items
  pub silent : is_snap item ≡ false
  pub all_low : st.all + announced_by item ≤ 524288
  pub size_low : st.size + bytes_by item ≤ 268435456

begun_now : (st : State) (k : ℕ) (x : Session) (result : Result Plan Refusal) → IsGood st → slice_get st.sessions.items k ≡ Some x → (h : IsPlanned st k x result) →
    IsBegun (run_is st) (log_of st) (k + 1) x h.statement (begun (run_is st) (log_of st) (k + 1) (length x.replies.items + 1) x.tran h.statement)
begun_now st k x result good here h = record {
  start = good.state.start;
  legal = good.state.legal;
  above = omega arith;
  mine = good.state.each k x here;
  idle = h.idle;
  next = h.next;
  is_begun = refl;
}

pub more_left : (st : State) (k : ℕ) (x : Session) (result : Result Plan Refusal) → IsPlanned st k x result → length x.replies.items < length x.script.items
more_left st k x result h = slice_get_within x.script.items (length x.replies.items) h.statement h.next

ended : (st : State) (k number : ℕ) (place : StatementNo) (reply : Reply) (x y : Session) (result : Result Plan Refusal) (item : Record) → IsGood st → slice_get st.sessions.items k ≡ Some x →
    IsPlanned st k x result → KeepsRoom x y → HasBegun (run_is st) (log_of st) (k + 1) y st.frames item → IsEnded place number reply x y item → Starts st k x y 0 item
ended st k number place reply x y result item good here h kept_room begun r =
    let says = ended_announces place number reply x y item r in
    let changes = says.changes_are in
    let bytes = says.bytes_are in
    let all = good.all_low in
    let size = good.size_low in
    let room = good.room in
    record {
      begun = begun;
      room = ended_room place number reply x y item h.idle (more_left st k x result h) (good.each_room k x here) kept_room r;
      space = omega (arith, room);
      silent = says.silent;
      all_low = omega (arith, changes, all);
      size_low = omega (arith, bytes, size);
    }

pub starts : (st : State) (k : ℕ) (place : StatementNo) (x y : Session) (result : Result Plan Refusal) (item : Record) → IsGood st → slice_get st.sessions.items k ≡ Some x → IsReady st k x result →
    place.session ≡ k + 1 → place.index ≡ length x.replies.items + 1 → KeepsRoom x y → BeginsAs st.last place result x y item → Starts st k x y (changes_by result) item
starts st k place x y (Ok (plan.Read reply)) item good here ready ps pi kept_room r =
    let h = ready.planned in
    ended st k 0 place reply x y (Ok (plan.Read reply)) item good here h kept_room
    (ended_step (run_is st) (log_of st) (k + 1) 0 place reply x y h.statement _ st.frames item (begun_now st k x _ good here h) ps pi refl
    (ap (λ (b : Becoming). items_by (k + 1) (length x.replies.items + 1) b.shape) h.by_plan) (ap (λ (b : Becoming). b.telling) h.by_plan) r) r
starts st k place x y (Ok (plan.Written reply takes changes)) item good here ready ps pi kept_room r =
    let h = ready.planned in
    let s = k + 1 in
    let i = length x.replies.items + 1 in
    let is_b = ap (begun_by s i x.tran) h.by_plan in
    let room = good.each_room k x here in
    let low = kept_limits st k x changes.items good here h.within in
    let says = writes_announces st.last place reply takes changes.items x y item r in
    let changes_are = says.changes_are in
    let bytes_are = says.bytes_are in
    let all = low.all_low in
    let bytes = low.size_low in
    record {
      begun = writing_step (run_is st) (log_of st) s st.last place reply takes changes.items x y h.statement _ st.frames item (begun_now st k x _ good here h) ps pi good.state.last_is is_b r;
      room = writes_room st.last place reply takes changes.items x y item h.idle (more_left st k x _ h) room kept_room ready.free.room low.used_low r;
      space = ready.free.items;
      silent = says.silent;
      all_low = omega (arith, changes_are, all);
      size_low = omega (arith, bytes_are, bytes);
    }
starts st k place x y (Err refusal) item good here ready ps pi kept_room r = refused_starts ready.planned.by_plan
  where
    h : IsPlanned st k x (Err refusal)
    h = ready.planned

    refused_starts : IsByPlan (becomes (run_is st) (log_of st) x.tran h.statement) (whole_log (run_is st) (log_of st)) x.tran (Err refusal) → Starts st k x y 0 item
    refused_starts (inl by) =
        ended st k refusal.number place (Refused refusal) x y (Err refusal) item good here h kept_room
        (ended_step (run_is st) (log_of st) (k + 1) refusal.number place (Refused refusal) x y h.statement _ st.frames item (begun_now st k x _ good here h) ps pi by.1
        (ap (λ (b : Becoming). items_by (k + 1) (length x.replies.items + 1) b.shape) by.0) (ap (λ (b : Becoming). b.telling) by.0) r) r
    refused_starts (inr short) =
        let short_end = subst (λ (q : Refusal). IsEnded place q.number (Refused q) x y item) short.1 r in
        ended st k 701 place (Refused (plain_refusal 701)) x y (Err refusal) item good here h kept_room
        (short_step (run_is st) (log_of st) (k + 1) place x y h.statement _ st.frames item (begun_now st k x _ good here h) ps pi
        (ap (λ c. if c then Some (plain_start (k + 1) (length x.replies.items + 1) x.tran 701) else None) short.0) short_end) short_end

-- the room that is left
space_left : (st : State) (k n : ℕ) (x y : Session) → IsGood st → slice_get st.sessions.items k ≡ Some x → PlanRoom x y n → vec_len st.items + (st.owed + 2 * n) ≤ vec_capacity st.items →
    vec_len st.items + 1 + (st.owed - owed_by x + owed_by y) ≤ vec_capacity st.items
space_left st k n x y good here room space =
    let part = part_of_sum owed_by st.sessions.items k x here in
    let owed = good.owed_is in
    let less = room.less in
    omega (arith, part, owed, less, space)

-- there is room for the item
pub space_now : (st : State) (k n : ℕ) (x y : Session) (item : Record) → IsGood st → slice_get st.sessions.items k ≡ Some x → Starts st k x y n item → vec_len st.items < vec_capacity st.items
space_now st k n x y item good here s = let left = space_left st k n x y good here s.room s.space in omega (arith, left)

pub plan_went : (old mid new : State) (k n before : ℕ) (x y : Session) (item : Record) → IsGood old → slice_get old.sessions.items k ≡ Some x → IsMid k y old.frames old mid → mid.items ≡ old.items →
    mid.all ≡ old.all + announced_by item → mid.size ≡ old.size + bytes_by item → Starts old k x y n item → before ≡ owed_by x → IsSettled k before item y mid new → Went k old new
plan_went old mid new k n before x y item good here is_mid same_items all_is size_is s owed set =
    let g = whole_log (run_is old) (log_of old) in
    let all_more_now = all_more item g in
    let bytes_more_now = bytes_more item g in
    let all_old = good.state.all_is in
    let size_old = good.state.size_is in
    let step : IsStep (run_is old) (log_of old) (k + 1) y old.frames old.frames item mid.all mid.size = record {
      comes = s.begun.comes;
      mine = s.begun.mine;
      pages_are = s.begun.still;
      all_is = omega (arith, all_is, all_more_now, all_old);
      size_is = omega (arith, size_is, bytes_more_now, size_old);
    } in
    let settled = subst (λ m. IsSettled k m item y mid new) owed set in
    record {
      good = stepped_good old mid new k x y old.frames item good here is_mid step (subst (λ m. m ≤ 524288) (sym all_is) s.all_low) (subst (λ m. m ≤ 268435456) (sym size_is) s.size_low)
          settled s.room.own (subst (λ v. vec_len old.items + 1 + (old.owed - owed_by x + owed_by y) ≤ vec_capacity v) (sym same_items) (space_left old k n x y good here s.room s.space));
      turn = stepped_turn old mid new k x y old.frames item is_mid step.comes settled;
      item = item;
      appended = log_more old new item (set.items ∙ ap (λ is. is ++ item ∷ []) is_mid.items);
      silent = s.silent;
      others = leaves_others old new k y (item ∷ []) good (set.items ∙ ap (λ is. is ++ item ∷ []) is_mid.items) (set.sessions ∙ is_mid.sessions);
    }
