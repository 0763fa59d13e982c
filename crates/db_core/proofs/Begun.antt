-- Sessions that have done nothing, runs one after another, and what contracts see of the core.
use Rattle.std.proofs.Common.{◌≡◌, ℕ, zero, suc, ◌+◌, ◌-◌, ◌<◌, ◌≤◌, true, false, List, [], ◌∷◌, ◌++◌, length, map, reverse, get_or, Option, Some, None, inl, refl, sym, ap, ◌∙◌, subst, arith, vec_len, vec_capacity}
use Rattle.std.specs.Prelude.{if◌then◌else◌, slice_get, sum_by}
use Rattle.std.specs.List.{list_any}
use Rattle.std.proofs.lemmas.Bool.{ne_eqb}
use Rattle.std.proofs.lemmas.List.{reverse-append}
use Rattle.spec_file.specs.Image.{Image}
use Rattle.spec_log.specs.declared.item.Record.{Record}
use Rattle.spec_log.specs.Items.{has_form}
use Rattle.spec_log.specs.Cells.{HasWholePages}
use Rattle.spec_log.specs.Rules.{HaveForm}
use Rattle.spec_log.specs.Images.{final_image}
use Rattle.spec_log.proofs.RulesLaws.{older_forms}
use Rattle.law_undo.proofs.Views.{sound_forms}
use Rattle.spec_script.specs.Lines.{is_statement}
use Rattle.spec_file.specs.Places.{HasShape}
use Rattle.spec_script.specs.declared.statement.Statement.{Statement}
use Rattle.spec_run.specs.Begun.{Setting}
use Rattle.spec_run.specs.Entries.{items_of}
use Rattle.spec_run.specs.Turns.{AreTold, told_to, IsLegal, IsWhole}
use Rattle.spec_run.specs.Progress.{script_of, progress_of, next_of}
use Rattle.law_run.specs.Laws.{IsStart}
use Rattle.law_run.proofs.Legal.{legal_is_sound}
use Rattle.db_core.specs.declared.session.Doing.TheVariants.{Idle}
use Rattle.db_core.specs.declared.session.Session.{Session}
use Rattle.spec_run.specs.Bounds.{TakesTurn, RunWithin}
use Rattle.db_core.specs.Rooms.{owed_by, pending_of, started_of, HasOwnRoom, turns_left, left_of_statement}
use Rattle.db_core.specs.declared.state.State.{State}
use Rattle.db_core.specs.declared.out.TurnOut.{TurnOut}
use Rattle.spec_run.specs.Answers.{is_terminated}
use Rattle.db_core.proofs.Reports.{none_terminated}
use Rattle.spec_run.specs.Schedules.{turns_of, rest_from}
use Rattle.spec_run.specs.Openings.{geometry_said, setting_of}
use Rattle.db_core.specs.Runs.{AreNew, IsNew}
use Rattle.db_core.specs.Replays.{RunsSchedule, EndsSessions}
use Rattle.db_core.specs.States.{Db, left_in, TurnIn, entries_of, run_of, IsAt, IsState}
use Rattle.db_core.specs.Store.{run_is, log_of, db_of, IsGood, IsTurn, SaysOut, Advanced, GoesNearer}
use Rattle.spec_run.specs.OfBytes.{HasPagesOfBytes, AreProper}
use Rattle.db_core.proofs.Good.{get_at, owed_low, sum_low, items_entries}
use Rattle.db_core.proofs.TurnsLeft.{within_then, left_seen, takes_turn}

-- one more session, for one more script
pub new_more : {X : Type 0} (v : X → List Statement) (xs : List X) (x : X) (sessions : List Session) (y : Session) → AreNew (map v xs) sessions → IsNew (v x) y →
    AreNew (map v (xs ++ x ∷ [])) (sessions ++ y ∷ [])
new_more v [] x [] y are new = (new, tt)
new_more v [] x (z ∷ sessions) y are new = absurd are
new_more v (w ∷ xs) x [] y are new = absurd are
new_more v (w ∷ xs) x (z ∷ sessions) y are new = (are.0, new_more v xs x sessions y are.1 new)

-- the sessions have these scripts
pub scripts_new : (scripts : List (List Statement)) (sessions : List Session) → AreNew scripts sessions → map (λ (x : Session). x.script.items) sessions ≡ scripts
scripts_new [] [] are = refl
scripts_new [] (x ∷ sessions) are = absurd are
scripts_new (script ∷ scripts) [] are = absurd are
scripts_new (script ∷ scripts) (x ∷ sessions) are =
    ap (λ l. l ∷ map (λ (y : Session). y.script.items) sessions) are.0.script_is ∙ ap (λ ls. script ∷ ls) (scripts_new scripts sessions are.1)

pub length_new : (scripts : List (List Statement)) (sessions : List Session) → AreNew scripts sessions → length sessions ≡ length scripts
length_new [] [] are = refl
length_new [] (x ∷ sessions) are = absurd are
length_new (script ∷ scripts) [] are = absurd are
length_new (script ∷ scripts) (x ∷ sessions) are = let e = length_new scripts sessions are.1 in omega (arith, e)

-- each session is new, with the script of its place
pub record IsNewAt (scripts : List (List Statement)) (k : ℕ) (x : Session) : Type 0 where
  pub script : List Statement
  pub here : slice_get scripts k ≡ Some script
  pub new : IsNew script x

pub new_at : (scripts : List (List Statement)) (sessions : List Session) (k : ℕ) (x : Session) → AreNew scripts sessions → slice_get sessions k ≡ Some x → IsNewAt scripts k x
new_at [] [] k x are e = absurd (cc)
new_at [] (y ∷ sessions) k x are e = absurd are
new_at (script ∷ scripts) [] k x are e = absurd are
new_at (script ∷ scripts) (y ∷ sessions) zero x are e =
    let same : y ≡ x = cc in
    record { script = script; here = refl; new = subst (IsNew script) same are.0 }
new_at (script ∷ scripts) (y ∷ sessions) (suc k) x are e =
    let n = new_at scripts sessions k x are.1 e in
    record { script = n.script; here = n.here; new = n.new }

-- it has its room
pub room_new : (script : List Statement) (x : Session) → IsNew script x → length script ≤ 65536 → HasOwnRoom x
room_new script x new short =
    let script_is : length x.script.items ≡ length script = ap length new.script_is in
    let replies : length x.replies.items ≡ 0 = ap length new.replies in
    let left : length x.left.items ≡ 0 = ap length new.left in
    let started : started_of x.doing ≡ 0 = ap started_of new.doing in
    let pending : pending_of x.doing ≡ 0 = ap pending_of new.doing in
    let used = new.used in
    let room = new.room in
    record {
      short = omega (arith, script_is, short);
      replies = omega (arith, script_is, room);
      busy = omega (arith, replies, started);
      left = omega (arith, left, pending);
      announced = omega (arith, left, pending);
      used = omega (arith, used);
    }

-- each script is short
abbrev pub AreShort : List (List Statement) → Type 0
AreShort scripts = (k : ℕ) (script : List Statement) → slice_get scripts k ≡ Some script → length script ≤ 65536

pub each_room_new : (scripts : List (List Statement)) (sessions : List Session) → AreNew scripts sessions → AreShort scripts →
    (k : ℕ) (x : Session) → slice_get sessions k ≡ Some x → HasOwnRoom x
each_room_new scripts sessions are short k x e =
    let n = new_at scripts sessions k x are e in
    room_new n.script x n.new (short k n.script n.here)

-- what all owe together is little
pub low_new : (scripts : List (List Statement)) (sessions : List Session) → AreNew scripts sessions → AreShort scripts → length scripts ≤ 16 →
    sum_by owed_by sessions < 9223372036854775808
low_new scripts sessions are short few =
    let sum = sum_low sessions (λ k x e. owed_low x (each_room_new scripts sessions are short k x e)) in
    let count = length_new scripts sessions are in
    omega (arith, sum, few, count)

script_at : (sessions : List Session) (k : ℕ) (x : Session) → slice_get sessions k ≡ Some x → script_of (map (λ (y : Session). y.script.items) sessions) (k + 1) ≡ x.script.items
script_at [] k x e = absurd (cc)
script_at (y ∷ sessions) zero x e = let same : y ≡ x = cc in ap (λ (q : Session). q.script.items) same
script_at (y ∷ sessions) (suc k) x e =
    let rest = map (λ (z : Session). z.script.items) sessions in
    let place : suc k + 1 - 1 ≡ k + 1 = omega arith in
    ap (λ b. if b then y.script.items else script_of rest (suc k + 1 - 1)) (ne_eqb (suc k + 1) 1 (λ h. omega (arith, h)))
    ∙ ap (script_of rest) place ∙ script_at sessions k x e

length_scripts : (sessions : List Session) → length (map (λ (x : Session). x.script.items) sessions) ≡ length sessions
length_scripts [] = refl
length_scripts (y ∷ sessions) = let e = length_scripts sessions in omega (arith, e)

-- the state before the first turn
pub begin_state : (scripts : List (List Statement)) (image : Image) (sessions : List Session) → HasWholePages image → HasShape (geometry_said image) (length image) → HasPagesOfBytes image →
    AreProper (run_of image sessions) → AreNew scripts sessions → IsState (run_of image sessions) [] image sessions 0 0 0
begin_state scripts image sessions whole shape bytes proper are = record {
  start = record { forms = tt; rules = tt; whole = whole; shape = shape; pages = bytes; items = tt; proper = proper };
  legal = tt;
  pages_are = refl;
  few = sym (length_scripts sessions);
  each = λ k x at. let i = (new_at scripts sessions k x are at).new in record {
    script_is = script_at sessions k x at;
    told = subst (AreTold (run_of image sessions).geometry []) (sym i.replies) tt;
    tran_is = sym i.tran;
    doing_is = subst (λ d. IsAt (run_of image sessions) [] (k + 1) (length x.replies.items + 1) x.tran (progress_of (run_of image sessions) (k + 1) []) d) (sym i.doing) refl;
    opens = inl i.tran;
  };
  last_is = refl;
  all_is = refl;
  size_is = refl;
}

-- what holds of each statement at its place holds of each session's
pub scripts_hold : (P : Statement → Type 0) (scripts : List (List Statement)) →
    ((k n : ℕ) (script : List Statement) (st : Statement) → slice_get scripts k ≡ Some script → slice_get script n ≡ Some st → P st) →
    (s n : ℕ) (st : Statement) → slice_get (script_of scripts s) n ≡ Some st → P st
scripts_hold P [] all s n st e = absurd (cc)
scripts_hold P (script ∷ scripts) all zero n st e = scripts_hold P scripts (λ k m sc x a b. all (suc k) m sc x a b) zero n st e
scripts_hold P (script ∷ scripts) all (suc zero) n st e = all 0 n script st refl e
scripts_hold P (script ∷ scripts) all (suc (suc s)) n st e =
    scripts_hold P scripts (λ k m sc x a b. all (suc k) m sc x a b) (suc s) n st (subst (λ l. slice_get l n ≡ Some st) past e)
  where
    past : script_of (script ∷ scripts) (suc (suc s)) ≡ script_of scripts (suc s)
    past = ap (λ b. if b then script else script_of scripts (suc (suc s) - 1)) (ne_eqb (suc (suc s)) 1 (λ h. omega (arith, h)))
        ∙ ap (script_of scripts) (omega arith)

-- a state that has just begun
pub record IsFresh (image : Image) (scripts : List (List Statement)) (st : State) : Type 0 where
  pub whole : HasWholePages image
  pub bytes : HasPagesOfBytes image
  pub shape : HasShape (geometry_said image) (length image)
  pub few : length scripts ≤ 16
  pub short : AreShort scripts
  pub proper : (k n : ℕ) (script : List Statement) (x : Statement) → slice_get scripts k ≡ Some script → slice_get script n ≡ Some x → is_statement x ≡ true
  pub new : AreNew scripts st.sessions.items
  pub base : st.base.value ≡ image
  pub first : st.first.value.items ≡ st.sessions.items
  pub frames : st.frames ≡ image
  pub items : st.items.items ≡ []
  pub room : vec_len st.items + st.owed ≤ vec_capacity st.items
  pub owed : st.owed ≡ sum_by owed_by st.sessions.items
  pub last : st.last ≡ 0
  pub all : st.all ≡ 0
  pub size : st.size ≡ 0

run_fresh : (image : Image) (scripts : List (List Statement)) (st : State) → IsFresh image scripts st → run_is st ≡ run_of image st.sessions.items
run_fresh image scripts st fresh = ap (λ b. run_of b st.first.value.items) fresh.base ∙ ap (run_of image) fresh.first

setting_fresh : (image : Image) (scripts : List (List Statement)) (st : State) → IsFresh image scripts st → run_of image st.sessions.items ≡ setting_of image scripts
setting_fresh image scripts st fresh = ap (setting_of image) (scripts_new scripts st.sessions.items fresh.new)

log_fresh : (image : Image) (scripts : List (List Statement)) (st : State) → IsFresh image scripts st → log_of st ≡ []
log_fresh image scripts st fresh = ap reverse fresh.items

pub good_fresh : (image : Image) (scripts : List (List Statement)) (st : State) → IsFresh image scripts st → IsGood st
good_fresh image scripts st fresh =
    let sessions = st.sessions.items in
    let run = run_of image sessions in
    let shape = fresh.shape in
    let proper : AreProper run = subst AreProper (sym (setting_fresh image scripts st fresh)) (scripts_hold (λ x. is_statement x ≡ true) scripts fresh.proper) in
    let at_first = begin_state scripts image sessions fresh.whole shape fresh.bytes proper fresh.new in
    let count = length_new scripts sessions fresh.new in
    let few = fresh.few in
    let last = fresh.last in
    let all = fresh.all in
    let size = fresh.size in
    let of_run : run_is st ≡ run = run_fresh image scripts st fresh in
    record {
      state = subst (λ r. IsState r (log_of st) st.frames sessions st.last st.all st.size) (sym of_run)
          (subst (λ l. IsState run l st.frames sessions st.last st.all st.size) (sym (log_fresh image scripts st fresh))
          (subst (λ f. IsState run [] f sessions st.last st.all st.size) (sym fresh.frames)
          (subst (λ n. IsState run [] image sessions n st.all st.size) (sym last)
          (subst (λ n. IsState run [] image sessions 0 n st.size) (sym all)
          (subst (λ n. IsState run [] image sessions 0 0 n) (sym size) at_first)))));
      room = fresh.room;
      owed_is = sym fresh.owed;
      each_room = each_room_new scripts sessions fresh.new fresh.short;
      few = omega (arith, count, few);
      low = omega (arith, last);
      all_low = omega (arith, all);
      size_low = omega (arith, size);
    }

-- what contracts see of it
pub seen_fresh : (image : Image) (scripts : List (List Statement)) (st : State) → IsFresh image scripts st →
    (run_is st ≡ setting_of image scripts) × (entries_of (log_of st) ≡ []) × ((s : ℕ) → left_in (db_of st) s ≡ 0) × IsStart (run_is st)
seen_fresh image scripts st fresh = (
  run_fresh image scripts st fresh ∙ setting_fresh image scripts st fresh,
  ap entries_of (log_fresh image scripts st fresh),
  (λ s. left_seen st s ∙ none_left (slice_get st.sessions.items (s - 1)) (λ x here. (new_at scripts st.sessions.items (s - 1) x fresh.new here).new.doing)),
  (good_fresh image scripts st fresh).state.start,
)
  where
    none_left : (o : Option Session) → ((x : Session) → o ≡ Some x → x.doing ≡ Idle) → left_of_statement st.items.items o ≡ 0
    none_left None idle = refl
    none_left (Some x) idle = ap (turns_left st.items.items x) (idle x refl)

-- the items before others have their form where all have it
forms_front : (a b : List Record) → HaveForm (a ++ b) → HaveForm a
forms_front [] b forms = tt
forms_front (x ∷ a) b forms = (forms.0, forms_front a b forms.1)

-- each item of a log has its form, from its items in their order
pub form_at : (items : List Record) (k : ℕ) (x : Record) → HaveForm (reverse items) → slice_get items k ≡ Some x → has_form x ≡ true
form_at [] k x forms e = absurd (cc)
form_at (y ∷ items) zero x forms e =
    let same : y ≡ x = cc in
    subst (λ z. has_form z ≡ true) same (older_forms (reverse items) (y ∷ []) (subst HaveForm (reverse-append (y ∷ []) items) forms)).0
form_at (y ∷ items) (suc k) x forms e = form_at items k x (forms_front (reverse items) (y ∷ []) (subst HaveForm (reverse-append (y ∷ []) items) forms)) e

-- what contracts see of a turn, and of what it answers
pub turn_seen : (old new : State) (db : Db) (at s : ℕ) → db_of old ≡ db → at + 1 ≡ s → IsTurn (at + 1) old new → TurnIn s db (db_of new)
turn_seen old new db at s view place turn =
    subst (λ d. TurnIn s d (db_of new)) view (subst (λ n. IsTurn n old new) place turn)

-- the items of what contracts see
pub log_seen : (st : State) (db : Db) → db_of st ≡ db → log_of st ≡ items_of db.entries
log_seen st db view = sym (items_entries (log_of st)) ∙ ap (λ (d : Db). items_of d.entries) view

pub says_seen : (old new : State) (db : Db) (at s : ℕ) (out : TurnOut) → db_of old ≡ db → at + 1 ≡ s → SaysOut (run_is old) (at + 1) (log_of old) (log_of new) out →
    SaysOut db.run s (items_of db.entries) (items_of (entries_of (log_of new))) out
says_seen old new db at s out view place says =
    subst (λ l. SaysOut db.run s (items_of db.entries) l out) (sym (items_entries (log_of new)))
    (subst (λ l. SaysOut db.run s l (log_of new) out) (log_seen old db view)
    (subst (λ r. SaysOut r s (log_of old) (log_of new) out) (ap (λ (d : Db). d.run) view)
    (subst (λ n. SaysOut (run_is old) n (log_of old) (log_of new) out) place says)))

-- and of how many turns are left
pub bound_seen : (old new : State) (db : Db) (at s : ℕ) (answer : TurnOut) → db_of old ≡ db → at + 1 ≡ s → IsGood old → at < length old.sessions.items → Advanced at old new answer → GoesNearer at old new →
    TakesTurn db.run s db.entries (entries_of (log_of new)) (left_in db) (left_in (db_of new))
bound_seen old new db at s answer view place good inside adv nearer =
    subst (λ (d : Db). TakesTurn d.run s d.entries (entries_of (log_of new)) (left_in d) (left_in (db_of new))) view
    (subst (λ n. TakesTurn (run_is old) n (entries_of (log_of old)) (entries_of (log_of new)) (left_in (db_of old)) (left_in (db_of new))) place (takes_turn old new at answer good inside adv nearer))

-- what a session was told, its items and the pages, as contracts see them
pub told_seen : (st : State) (db : Db) (at s : ℕ) (x : Session) → db_of st ≡ db → at + 1 ≡ s → IsGood st → slice_get st.sessions.items at ≡ Some x →
    AreTold db.run.geometry (told_to db.run s (items_of db.entries)) x.replies.items
told_seen st db at s x view place good here =
    subst (λ l. AreTold db.run.geometry (told_to db.run s l) x.replies.items) (log_seen st db view)
    (subst (λ (r : Setting). AreTold r.geometry (told_to r s (log_of st)) x.replies.items) (ap (λ (d : Db). d.run) view)
    (subst (λ n. AreTold (run_is st).geometry (told_to (run_is st) n (log_of st)) x.replies.items) place (good.state.each at x here).told))

-- the script of a session, as contracts see it
pub script_seen : (st : State) (db : Db) (at s : ℕ) (x : Session) → db_of st ≡ db → at + 1 ≡ s → IsGood st → slice_get st.sessions.items at ≡ Some x →
    x.script.items ≡ script_of db.run.scripts s
script_seen st db at s x view place good here =
    sym (ap (λ (d : Db). script_of d.run.scripts s) (sym view) ∙ ap (λ n. script_of (run_is st).scripts n) (sym place) ∙ (good.state.each at x here).script_is)

-- and of no check without its report
pub reported_seen : (st : State) (db : Db) (at s : ℕ) (x : Session) → db_of st ≡ db → at + 1 ≡ s → IsGood st → slice_get st.sessions.items at ≡ Some x →
    list_any is_terminated x.replies.items ≡ false
reported_seen st db at s x view place good here =
    none_terminated db.run s (items_of db.entries) x.replies.items (ap (λ (d : Db). d.run.opened) (sym view)) (told_seen st db at s x view place good here)

-- a session was told no more than its script has statements
pub few_seen : (st : State) (at : ℕ) (x : Session) → IsGood st → slice_get st.sessions.items at ≡ Some x → length x.replies.items ≤ 65536
few_seen st at x good here =
    let room = good.each_room at x here in
    let short = room.short in let busy = room.busy in
    omega (arith, short, busy)

pub legal_seen : (st : State) (db : Db) → db_of st ≡ db → IsGood st → IsLegal db.run (items_of db.entries)
legal_seen st db view good =
    subst (IsLegal db.run) (log_seen st db view) (subst (λ r. IsLegal r (log_of st)) (ap (λ (d : Db). d.run) view) good.state.legal)

pub forms_seen : (st : State) → IsGood st → (k : ℕ) (x : Record) → slice_get st.items.items k ≡ Some x → has_form x ≡ true
forms_seen st good k x here =
    let run = run_is st in
    let sound = legal_is_sound run (log_of st) good.state.start good.state.legal in
    let forms = sound_forms run.geometry (length run.image) run.opened run.image (log_of st) sound in
    form_at st.items.items k x (forms_front (log_of st) run.opened forms) here

pub frames_seen : (st : State) (db : Db) → db_of st ≡ db → IsGood st → st.frames ≡ final_image db.run.opened (items_of db.entries) db.run.image
frames_seen st db view good =
    good.state.pages_are ∙ ap (λ l. final_image (run_is st).opened l (run_is st).image) (sym (items_entries (log_of st)))
    ∙ ap (λ (d : Db). final_image d.run.opened (items_of d.entries) d.run.image) view

-- how many sessions contracts see
pub count_seen : (st : State) (db : Db) → db_of st ≡ db → IsGood st → length st.sessions.items ≡ length db.run.scripts
count_seen st db view good = good.state.few ∙ ap (λ (d : Db). length d.run.scripts) view

-- session s of those that contracts see
pub stands_seen : (st : State) (db : Db) (s : ℕ) (x : Session) → db_of st ≡ db → IsGood st → 0 < s → s ≤ length db.run.scripts →
    x ≡ get_or st.sessions.items (s - 1) x → slice_get st.sessions.items (s - 1) ≡ Some x
stands_seen st db s x view good above within is =
    let count = count_seen st db view good in
    get_at st.sessions.items (s - 1) x (omega (arith, count, above, within)) is

-- what a replay makes of the history
pub record IsReplayed (schedule : List (ℕ × ℕ)) (old new : Db) : Type 0 where
  pub same : new.run ≡ old.run
  pub counts : List ℕ
  pub all : length counts ≡ length old.run.scripts
  pub run : RunWithin old.run (left_in old) old.entries (turns_of schedule ++ rest_from 1 counts) (left_in new) new.entries
  pub whole : IsWhole new.run new.entries

-- a schedule's turns and then each session's lead to the end of all
pub whole_seen : (old mid new : State) (db : Db) (schedule : List (ℕ × ℕ)) → db_of old ≡ db → RunsSchedule schedule old mid → EndsSessions mid new →
    IsReplayed schedule db (db_of new)
whole_seen old mid new db schedule view first last =
    subst (λ d. IsReplayed schedule d (db_of new)) view (from_states (last.follows.same ∙ first.same))
  where
    from_states : run_is new ≡ run_is old → IsReplayed schedule (db_of old) (db_of new)
    from_states same =
        let mid_run : run_is mid ≡ run_is old = first.same in
        record {
          same = same;
          counts = last.counts;
          all = last.all ∙ first.good.state.few ∙ ap (λ (r : Setting). length r.scripts) mid_run;
          run = within_then (run_is old) (turns_of schedule) (rest_from 1 last.counts) (left_in (db_of old)) (left_in (db_of mid)) (left_in (db_of new))
              (entries_of (log_of old)) (entries_of (log_of mid)) (entries_of (log_of new)) first.run
              (subst (λ r. RunWithin r (left_in (db_of mid)) (entries_of (log_of mid)) (rest_from 1 last.counts) (left_in (db_of new)) (entries_of (log_of new))) mid_run last.follows.run);
          whole = λ s is.
              let count : length mid.sessions.items ≡ length (run_is new).scripts =
              first.good.state.few ∙ ap (λ (r : Setting). length r.scripts) (sym last.follows.same) in
              let inside = is.1 in
              subst (λ r. next_of r s (items_of (entries_of (log_of new))) ≡ None) (sym last.follows.same)
              (subst (λ l. next_of (run_is mid) s l ≡ None) (sym (items_entries (log_of new))) (last.done s is.0 (omega (arith, count, inside))));
        }
