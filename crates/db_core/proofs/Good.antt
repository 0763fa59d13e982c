-- A step of one session keeps the core's state good.
use Rattle.std.proofs.Common.{◌≡◌, ℕ, zero, suc, ◌+◌, ◌-◌, ◌*◌, ◌<◌, ◌≤◌, max, get_or, true, List, [], ◌∷◌, ◌++◌, length, reverse, Some, inl, inr, refl, sym, ap, ◌∙◌, subst, arith, append-nil, vec_len, vec_capacity}
use Rattle.std.specs.Prelude.{slice_get, slice_set, sum_by}
use Rattle.std.proofs.Math.ListN.{length-set}
use Rattle.std.proofs.lemmas.List.{length-reverse, reverse-append, length_push}
use Rattle.std.proofs.lemmas.List.Sums.{sum_by-cons}
use Rattle.spec_file.specs.declared.geometry.Geometry.{Geometry}
use Rattle.spec_file.specs.Places.{HasShape}
use Rattle.spec_file.specs.Image.{Image}
use Rattle.spec_log.specs.declared.item.Record.{Record}
use Rattle.spec_log.specs.declared.item.Record.TheVariants.{Start, Change, Undo, Commit, Abort, Snap, Failed, CheckEnd}
use Rattle.spec_log.specs.Items.{tran_of}
use Rattle.spec_log.specs.Log.{is_unfinished, greatest_of}
use Rattle.spec_log.specs.Limits.{all_changes, all_bytes}
use Rattle.spec_log.specs.Rules.{KeepsRules}
use Rattle.spec_log.specs.Images.{apply}
use Rattle.law_undo.proofs.Holders.{unfinished_parts}
use Rattle.law_undo.proofs.Views.{sound_rules}
use Rattle.law_run.proofs.Fresh.{started_below}
use Rattle.law_run.proofs.Legal.{legal_is_sound}
use Rattle.spec_run.specs.Entries.{items_of}
use Rattle.spec_run.specs.Begun.{Setting}
use Rattle.spec_run.specs.Progress.{work_of, MayCome}
use Rattle.spec_run.specs.Turns.{Appends}
use Rattle.db_core.specs.declared.session.Session.{Session}
use Rattle.db_core.specs.declared.state.State.{State}
use Rattle.db_core.specs.Rooms.{owed_by, HasOwnRoom}
use Rattle.db_core.specs.States.{whole_log, entries_of, run_of, IsSession, IsState}
use Rattle.db_core.specs.Store.{run_is, log_of, IsGood, IsTurn, IsSettled}
use Rattle.db_core.proofs.Keeps.{keeps, get_set}

pub get_at : (xs : List Session) (i : ℕ) (x : Session) → i < length xs → x ≡ get_or xs i x → slice_get xs i ≡ Some x
get_at [] i x lt e = absurd (omega (arith, lt))
get_at (y ∷ xs) zero x lt e = ap Some (sym e)
get_at (y ∷ xs) (suc i) x lt e = get_at xs i x (omega (arith, lt)) e

pub get_below : (xs : List Session) (i : ℕ) (x : Session) → slice_get xs i ≡ Some x → i < length xs
get_below [] i x e = absurd (cc)
get_below (y ∷ xs) zero x e = omega arith
get_below (y ∷ xs) (suc i) x e = let lt = get_below xs i x e in omega (arith, lt)

pub get_same : (xs : List Session) (i : ℕ) (x y : Session) → slice_get xs i ≡ Some x → slice_get xs i ≡ Some y → x ≡ y
get_same xs i x y ex ey = let e : Some x ≡ Some y = sym ex ∙ ey in cc

pub get_put : (xs : List Session) (k : ℕ) (y : Session) → k < length xs → slice_get (slice_set xs k y) k ≡ Some y
get_put [] k y lt = absurd (omega (arith, lt))
get_put (x ∷ xs) zero y lt = refl
get_put (x ∷ xs) (suc k) y lt = get_put xs k y (omega (arith, lt))

pub sum_set : (f : Session → ℕ) (xs : List Session) (k : ℕ) (x y : Session) → slice_get xs k ≡ Some x → sum_by f (slice_set xs k y) + f x ≡ sum_by f xs + f y
sum_set f [] k x y e = absurd (cc)
sum_set f (z ∷ xs) zero x y e =
    let same : z ≡ x = cc in
    let same_f : f z ≡ f x = ap f same in
    let a : sum_by f (slice_set (z ∷ xs) zero y) ≡ f y + sum_by f xs = sum_by-cons f y xs in
    let b = sum_by-cons f z xs in
    omega (arith, same_f, a, b)
sum_set f (z ∷ xs) (suc k) x y e =
    let r = sum_set f xs k x y e in
    let a : sum_by f (slice_set (z ∷ xs) (suc k) y) ≡ f z + sum_by f (slice_set xs k y) = sum_by-cons f z (slice_set xs k y) in
    let b = sum_by-cons f z xs in
    omega (arith, r, a, b)

pub part_of_sum : (f : Session → ℕ) (xs : List Session) (k : ℕ) (x : Session) → slice_get xs k ≡ Some x → f x ≤ sum_by f xs
part_of_sum f [] k x e = absurd (cc)
part_of_sum f (z ∷ xs) zero x e =
    let same : z ≡ x = cc in
    let same_f : f z ≡ f x = ap f same in
    let b = sum_by-cons f z xs in
    omega (arith, same_f, b)
part_of_sum f (z ∷ xs) (suc k) x e =
    let r = part_of_sum f xs k x e in
    let b = sum_by-cons f z xs in
    omega (arith, r, b)

-- a session owes room for few items
pub owed_low : (x : Session) → HasOwnRoom x → owed_by x ≤ 1000000
owed_low x room =
    let a = room.announced in
    let b = room.used in
    let c = room.short in
    omega (arith, a, b, c)

pub sum_low : (xs : List Session) → ((k : ℕ) (x : Session) → slice_get xs k ≡ Some x → owed_by x ≤ 1000000) → sum_by owed_by xs ≤ 1000000 * length xs
sum_low [] all = omega arith
sum_low (x ∷ xs) all =
    let here = all 0 x refl in
    let rest = sum_low xs (λ k y e. all (suc k) y e) in
    let more = sum_by-cons owed_by x xs in
    omega (arith, here, rest, more)

-- the items of the entries
pub items_entries : (log : List Record) → items_of (entries_of log) ≡ log
items_entries [] = refl
items_entries (x ∷ log) = ap (λ l. x ∷ l) (items_entries log)

-- the log of a core begins empty
pub whole_is : (st : State) → whole_log (run_is st) (log_of st) ≡ log_of st
whole_is st = append-nil (log_of st)

pub count_is : (st : State) → length (whole_log (run_is st) (log_of st)) ≡ length st.items.items
count_is st = ap length (whole_is st) ∙ length-reverse st.items.items

-- no transaction is greater than one more than the greatest
unfinished_low : (g : List Record) (t : ℕ) → is_unfinished g t ≡ true → t ≤ greatest_of g
unfinished_low g t u = started_below g t (unfinished_parts g t u).started

tran_low : (gm : Geometry) (pages : ℕ) (x : Record) (g : List Record) → KeepsRules gm pages (x ∷ g) → tran_of x ≤ greatest_of g + 1
tran_low gm pages (Start session index tran number changes size takes) g rules = elim rules.0.0 [
  | inl u ↦ let low = unfinished_low g tran.0 u in omega (arith, low)
  | inr fresh ↦ elim fresh [ inl e ↦ omega (arith, e) | inr none ↦ let e = none.0 in omega (arith, e) ]
]
tran_low gm pages (Change tran cell before after) g rules = let low = unfinished_low g tran.0 rules.0.0 in omega (arith, low)
tran_low gm pages (Undo tran change) g rules = let low = unfinished_low g tran.0 rules.0.0 in omega (arith, low)
tran_low gm pages (Commit tran) g rules = let low = unfinished_low g tran.0 rules.0 in omega (arith, low)
tran_low gm pages (Abort tran) g rules = let low = unfinished_low g tran.0 rules.0.0 in omega (arith, low)
tran_low gm pages (Snap session index) g rules = omega arith
tran_low gm pages (Failed session index page) g rules = omega arith
tran_low gm pages (CheckEnd session index outcome) g rules = omega arith

-- the state between the session's step and the item
pub record IsMid (k : ℕ) (y : Session) (after : Image) (old mid : State) : Type 0 where
  pub base : mid.base ≡ old.base
  pub first : mid.first ≡ old.first
  pub items : mid.items.items ≡ old.items.items
  pub len : vec_len mid.items ≡ vec_len old.items
  pub frames : mid.frames ≡ after
  pub sessions : mid.sessions.items ≡ slice_set old.sessions.items k y
  pub last : mid.last ≡ old.last
  pub owed : mid.owed ≡ old.owed

-- what a step says of its item
pub record IsStep (run : Setting) (log : List Record) (s : ℕ) (new : Session) (pages after : Image) (x : Record) (all_now size_now : ℕ) : Type 0 where
  pub comes : MayCome (work_of run s log) x
  pub mine : IsSession run (x ∷ log) s new
  pub pages_are : after ≡ apply (whole_log run log) x pages
  pub all_is : all_now ≡ all_changes (x ∷ whole_log run log)
  pub size_is : size_now ≡ all_bytes (x ∷ whole_log run log)

-- the log behind the item
pub log_more : (old new : State) (item : Record) → new.items.items ≡ old.items.items ++ item ∷ [] → log_of new ≡ item ∷ log_of old
log_more old new item e = ap reverse e ∙ reverse-append old.items.items (item ∷ [])

pub run_same : (old new : State) → new.base ≡ old.base → new.first ≡ old.first → run_is new ≡ run_is old
run_same old new base first = ap (λ b. run_of b.value new.first.value.items) base ∙ ap (λ f. run_of old.base.value f.value.items) first

-- the turn that appends an item
pub append_turn : (old new : State) (s : ℕ) (item : Record) → run_is new ≡ run_is old → log_of new ≡ item ∷ log_of old → MayCome (work_of (run_is old) s (log_of old)) item → IsTurn s old new
append_turn old new s item run log comes = (
  run,
  Appends item (subst (λ l. MayCome (work_of (run_is old) s l) item) (sym (items_entries (log_of old))) comes) (ap entries_of log),
)

-- what the core keeps behind the item, but for the room
pub stepped_good : (old mid new : State) (k : ℕ) (x y : Session) (after : Image) (item : Record) → IsGood old → slice_get old.sessions.items k ≡ Some x → IsMid k y after old mid →
    IsStep (run_is old) (log_of old) (k + 1) y old.frames after item mid.all mid.size → mid.all ≤ 524288 → mid.size ≤ 268435456 →
    IsSettled k (owed_by x) item y mid new → HasOwnRoom y → vec_len old.items + 1 + (old.owed - owed_by x + owed_by y) ≤ vec_capacity mid.items → IsGood new
stepped_good old mid new k x y after item good here mid_is step all_low size_low set own room =
    let run = run_is old in
    let log = log_of old in
    let below = get_below old.sessions.items k x here in
    let run_new : run_is new ≡ run = run_same old new (set.base ∙ mid_is.base) (set.first ∙ mid_is.first) in
    let log_new : log_of new ≡ item ∷ log = log_more old new item (set.items ∙ ap (λ is. is ++ item ∷ []) mid_is.items) in
    let few = good.state.few in
    let last_now : new.last ≡ max (tran_of item) old.last = set.last ∙ ap (max (tran_of item)) mid_is.last in
    let state : IsState run (item ∷ log) new.frames new.sessions.items new.last new.all new.size =
    subst (λ f. IsState run (item ∷ log) f new.sessions.items new.last new.all new.size) (sym (set.frames ∙ mid_is.frames ∙ step.pages_are))
    (subst (λ ss. IsState run (item ∷ log) (apply (whole_log run log) item old.frames) ss new.last new.all new.size) (sym (set.sessions ∙ mid_is.sessions))
    (keeps run log old.frames old.sessions.items old.last old.all old.size k item y new.last new.all new.size good.state (omega (arith, below, few)) step.comes step.mine
    (last_now ∙ ap (max (tran_of item)) good.state.last_is) (set.all_is ∙ step.all_is) (set.size_is ∙ step.size_is))) in
    let sound = legal_is_sound run (item ∷ log) state.start state.legal in
    let rules = sound_rules run.geometry (length run.image) run.opened run.image (item ∷ log) sound in
    let low_tran = tran_low run.geometry (length run.image) item (whole_log run log) rules in
    let old_last = good.state.last_is in
    let old_low = good.low in
    let count : length new.items.items ≡ length old.items.items + 1 = ap length (set.items ∙ ap (λ is. is ++ item ∷ []) mid_is.items) ∙ length_push old.items.items item in
    let sum = sum_set owed_by old.sessions.items k x y here in
    let part = part_of_sum owed_by old.sessions.items k x here in
    let owed_old = good.owed_is in
    let owed_new : new.owed ≡ old.owed - owed_by x + owed_by y = set.owed ∙ ap (λ n. n - owed_by x + owed_by y) mid_is.owed in
    let len_new : vec_len new.items ≡ vec_len old.items + 1 = set.len ∙ ap (λ n. n + 1) mid_is.len in
    let capacity = set.capacity in
    let all_new = set.all_is in
    let size_new = set.size_is in
    record {
      state = subst (λ r. IsState r (log_of new) new.frames new.sessions.items new.last new.all new.size) (sym run_new)
          (subst (λ l. IsState run l new.frames new.sessions.items new.last new.all new.size) (sym log_new) state);
      room = omega (arith, room, owed_new, len_new, capacity);
      owed_is = ap (sum_by owed_by) (set.sessions ∙ mid_is.sessions) ∙ omega (arith, sum, part, owed_old, owed_new);
      each_room = λ j z at. elim (get_set old.sessions.items k j y z (subst (λ ss. slice_get ss j ≡ Some z) (set.sessions ∙ mid_is.sessions) at)) [
        | inl e ↦ subst HasOwnRoom (sym e.1) own
        | inr e ↦ good.each_room j z e.1
      ];
      few = subst (λ n. n ≤ 16) (sym (ap length (set.sessions ∙ mid_is.sessions) ∙ length-set old.sessions.items k y)) good.few;
      low = omega (arith, last_now, low_tran, old_last, old_low, count);
      all_low = subst (λ n. n ≤ 524288) (sym all_new) all_low;
      size_low = subst (λ n. n ≤ 268435456) (sym size_new) size_low;
    }

-- and the turn
pub stepped_turn : (old mid new : State) (k : ℕ) (x y : Session) (after : Image) (item : Record) → IsMid k y after old mid → MayCome (work_of (run_is old) (k + 1) (log_of old)) item →
    IsSettled k (owed_by x) item y mid new → IsTurn (k + 1) old new
stepped_turn old mid new k x y after item mid_is comes set =
    append_turn old new (k + 1) item (run_same old new (set.base ∙ mid_is.base) (set.first ∙ mid_is.first))
    (log_more old new item (set.items ∙ ap (λ is. is ++ item ∷ []) mid_is.items)) comes
