-- A turn of a session that is in the middle of a statement other than a check.
use Rattle.std.proofs.Common.{◌≡◌, ℕ, ◌+◌, ◌-◌, ◌<◌, ◌≤◌, false, [], ◌∷◌, ◌++◌, length, reverse, Some, refl, sym, ap, ◌∙◌, subst, arith, vec_len, vec_capacity}
use Rattle.std.specs.Prelude.{slice_get}
use Rattle.std.proofs.lemmas.List.{reverse-reverse}
use Rattle.spec_file.specs.Image.{Image}
use Rattle.spec_log.specs.declared.item.Record.{Record}
use Rattle.db_core.specs.declared.session.Session.{Session}
use Rattle.db_core.specs.declared.state.State.{State}
use Rattle.db_core.specs.Rooms.{owed_by, HasOwnRoom, turns_left}
use Rattle.db_core.specs.States.{whole_log, MayStep, StepsBy}
use Rattle.db_core.specs.Store.{run_is, log_of, is_snap, IsGood, IsSettled, IsNearer, Went}
use Rattle.db_core.proofs.Good.{get_put, get_same, part_of_sum, whole_is, count_is, log_more, IsMid, IsStep, stepped_good, stepped_turn}
use Rattle.db_core.proofs.Left.{leaves_others}
use Rattle.db_core.proofs.Stepped.{may_step, stepped}

pub items_are : (st : State) → reverse (whole_log (run_is st) (log_of st)) ≡ st.items.items
items_are st = ap reverse (whole_is st) ∙ reverse-reverse st.items.items

pub good_may : (st : State) (k : ℕ) (x : Session) → IsGood st → slice_get st.sessions.items k ≡ Some x → MayStep st.frames st.items.items x x.doing
good_may st k x good here =
    subst (λ is. MayStep st.frames is x x.doing) (items_are st)
    (may_step (run_is st) (log_of st) st.frames st.sessions.items st.last st.all st.size k x good.state here)

pub good_step : (st : State) (k number : ℕ) (x y : Session) (after : Image) (item : Record) → IsGood st → slice_get st.sessions.items k ≡ Some x → number ≡ length st.items.items + 1 →
    StepsBy number st.items.items x y st.frames after item x.doing → IsStep (run_is st) (log_of st) (k + 1) y st.frames after item st.all st.size
good_step st k number x y after item good here count st_by =
    let run = run_is st in
    let log = log_of st in
    let size = count_is st in
    let s = stepped run log (k + 1) number x y st.frames after item good.state.start good.state.legal (omega arith) (good.state.each k x here) (omega (arith, count, size)) x.doing refl
    (subst (λ is. MayStep st.frames is x x.doing) (sym (items_are st)) (good_may st k x good here))
    (subst (λ is. StepsBy number is x y st.frames after item x.doing) (sym (items_are st)) st_by) in
    record {
      comes = s.comes;
      mine = s.mine;
      pages_are = s.pages_are;
      all_is = good.state.all_is ∙ sym s.all_same;
      size_is = good.state.size_is ∙ sym s.size_same;
    }

-- there is room for an item of a session that owes room
pub room_for : (st : State) (k : ℕ) (x : Session) → IsGood st → slice_get st.sessions.items k ≡ Some x → 0 < owed_by x → vec_len st.items < vec_capacity st.items
room_for st k x good here some =
    let part = part_of_sum owed_by st.sessions.items k x here in
    let owed = good.owed_is in
    let room = good.room in
    omega (arith, some, part, owed, room)

-- the room that is left behind a step that takes none
pub room_behind : (st : State) (k : ℕ) (x y : Session) → IsGood st → slice_get st.sessions.items k ≡ Some x → owed_by y + 1 ≤ owed_by x → vec_len st.items + 1 + (st.owed - owed_by x + owed_by y) ≤ vec_capacity st.items
room_behind st k x y good here less =
    let part = part_of_sum owed_by st.sessions.items k x here in
    let owed = good.owed_is in
    let room = good.room in
    omega (arith, less, part, owed, room)

-- a step without memory, which appends one item that isn't a Snap
pub went : (old mid new : State) (k before : ℕ) (x y : Session) (after : Image) (item : Record) → IsGood old → slice_get old.sessions.items k ≡ Some x → IsMid k y after old mid →
    mid.items ≡ old.items → mid.all ≡ old.all → mid.size ≡ old.size →
    IsStep (run_is old) (log_of old) (k + 1) y old.frames after item old.all old.size → HasOwnRoom y → owed_by y + 1 ≤ owed_by x → is_snap item ≡ false → before ≡ owed_by x → IsSettled k before item y mid new → Went k old new
went old mid new k before x y after item good here is_mid same_items same_all same_size step own less silent owed set = record {
  good = stepped_good old mid new k x y after item good here is_mid
      (subst (λ n. IsStep (run_is old) (log_of old) (k + 1) y old.frames after item n mid.size) (sym same_all)
      (subst (IsStep (run_is old) (log_of old) (k + 1) y old.frames after item old.all) (sym same_size) step))
      (subst (λ n. n ≤ 524288) (sym same_all) good.all_low) (subst (λ n. n ≤ 268435456) (sym same_size) good.size_low)
      (subst (λ n. IsSettled k n item y mid new) owed set) own
      (subst (λ v. vec_len old.items + 1 + (old.owed - owed_by x + owed_by y) ≤ vec_capacity v) (sym same_items) (room_behind old k x y good here less));
  turn = stepped_turn old mid new k x y after item is_mid step.comes (subst (λ n. IsSettled k n item y mid new) owed set);
  item = item;
  appended = log_more old new item (set.items ∙ ap (λ is. is ++ item ∷ []) is_mid.items);
  silent = silent;
  others = leaves_others old new k y (item ∷ []) good (set.items ∙ ap (λ is. is ++ item ∷ []) is_mid.items) (set.sessions ∙ is_mid.sessions);
}

pub nearer_by : (old mid new : State) (k before : ℕ) (x y : Session) (after : Image) (item : Record) → k < length old.sessions.items → slice_get old.sessions.items k ≡ Some x → IsMid k y after old mid →
    turns_left new.items.items y y.doing < turns_left old.items.items x x.doing → IsSettled k before item y mid new → IsNearer k old new
nearer_by old mid new k before x y after item below here is_mid less set a b ea eb =
    let same_x = get_same old.sessions.items k x a here ea in
    let same_y = get_same new.sessions.items k y b (ap (λ ss. slice_get ss k) (set.sessions ∙ is_mid.sessions) ∙ get_put old.sessions.items k y below) eb in
    subst (λ z. turns_left new.items.items b b.doing < turns_left old.items.items z z.doing) same_x
    (subst (λ z. turns_left new.items.items z z.doing < turns_left old.items.items x x.doing) same_y less)
