-- The turns of a check keep the core's state good.
use Rattle.spec_run.specs.Openings.{or_small}
use Rattle.spec_file.specs.FileForm.{geometry_of}
use Rattle.spec_tables.specs.Written.{IsCheckOf}
use Rattle.db_core.specs.ViewLaws.{right_of}
use Rattle.std.proofs.Common.{◌≡◌, ℕ, ◌+◌, ◌<◌, ◌≤◌, Bool, true, false, List, [], ◌∷◌, ◌++◌, length, reverse, Some, inl, inr, refl, sym, ap, ◌∙◌, subst, arith, append-nil, vec_len, vec_capacity}
use Rattle.std.specs.Prelude.{slice_get, slice_set, sum_by}
use Rattle.std.proofs.Math.ListN.{length-set}
use Rattle.std.proofs.lemmas.List.{length_push}
use Rattle.spec_file.specs.Image.{Image}
use Rattle.spec_file.specs.Places.{HasShape}
use Rattle.spec_log.specs.declared.item.Record.{Record}
use Rattle.spec_log.specs.declared.item.Record.TheVariants.{Snap, CheckEnd}
use Rattle.spec_plan.specs.Refusals.{out_of_memory}
use Rattle.spec_script.specs.declared.reply.Reply.TheVariants.{Refused}
use Rattle.spec_run.specs.Begun.{Setting, Telling}
use Rattle.spec_run.specs.Progress.{Progress, progress_of, work_of, first_of, MayCome}
use Rattle.spec_run.specs.Turns.{IsLegal, Goes}
use Rattle.law_run.specs.Laws.{IsStart}
use Rattle.db_core.specs.declared.session.Check.{Check}
use Rattle.db_core.specs.declared.session.Doing.TheVariants.{Idle, Checking}
use Rattle.db_core.specs.declared.session.Session.{Session}
use Rattle.db_core.specs.declared.starts.StatementNo.{StatementNo}
use Rattle.db_core.specs.declared.state.State.{State}
use Rattle.db_core.specs.Back.{MayGoBack, GoesBack, steps_left}
use Rattle.db_core.specs.Checks.{BacksIn, Checked, EndsBy, GoesOnBy, MayReadIn, ReadsIn, ReadsPages}
use Rattle.db_core.specs.Reading.{is_back}
use Rattle.db_core.specs.Rooms.{pending_of, started_of, owed_by, HasOwnRoom, turns_left}
use Rattle.db_core.specs.States.{entries_of, Keeps, KeepsRoom, IsAt, IsSession, IsSnapshot, IsState}
use Rattle.db_core.specs.Store.{run_is, log_of, is_snap, told_count, IsGood, Went}
use Rattle.db_core.proofs.Keeps.{get_set, steps_of}
use Rattle.db_core.proofs.Moves.{ends_short, told_so}
use Rattle.db_core.proofs.Next.{busy}
use Rattle.db_core.proofs.Told.{told_step, idle_told, turn_belongs}
use Rattle.db_core.proofs.CheckSteps.{checking_due, check_comes, check_ends, end_opens}
use Rattle.db_core.proofs.Backwards.{going_session, back_keeps, back_falls, read_keeps, read_falls}
use Rattle.db_core.proofs.BackFits.{back_fits}
use Rattle.db_core.proofs.Good.{get_below, get_put, get_same, sum_set, run_same, items_entries, IsMid, IsStep}
use Rattle.db_core.proofs.GoOn.{items_are}
use Rattle.db_core.proofs.Left.{leaves_others}

-- a session that changes without an item
same_log_state : (run : Setting) (log : List Record) (pages : Image) (sessions : List Session) (last all size k : ℕ) (y : Session) → IsState run log pages sessions last all size →
    IsSession run log (k + 1) y → IsState run log pages (slice_set sessions k y) last all size
same_log_state run log pages sessions last all size k y state mine = record {
  start = state.start;
  legal = state.legal;
  pages_are = state.pages_are;
  few = length-set sessions k y ∙ state.few;
  each = λ j z at. elim (get_set sessions k j y z at) [
    | inl e ↦ subst (λ m. IsSession run log (m + 1) z) e.0 (subst (IsSession run log (k + 1)) (sym e.1) mine)
    | inr e ↦ state.each j z e.1
  ];
  last_is = state.last_is;
  all_is = state.all_is;
  size_is = state.size_is;
}

-- a check that has taken everything back may read its pages
pub check_reads : (st : State) (k : ℕ) (x : Session) → IsGood st → slice_get st.sessions.items k ≡ Some x → ((check : Check) → x.doing ≡ Checking check → is_back check.phase ≡ false) → MayReadIn x
check_reads st k x good here behind check doing =
    let d = checking_due (run_is st) (log_of st) (k + 1) x check (good.state.each k x here) doing in record {
      shape = subst (λ g. HasShape g (length check.pages)) (sym (ap (λ bytes. or_small (geometry_of bytes)) d.1.first)) (subst (HasShape (run_is st).geometry) (sym d.1.long) good.state.start.shape);
      behind = behind check doing;
      phase_is = d.1.phase_is;
    }

pub check_fits : (st : State) (k : ℕ) (x : Session) (check : Check) → IsGood st → slice_get st.sessions.items k ≡ Some x → x.doing ≡ Checking check → MayGoBack st.items.items check
check_fits st k x check good here doing =
    subst (λ is. MayGoBack is check) (items_are st)
    (back_fits (run_is st) (log_of st) st.frames st.sessions.items st.last st.all st.size k x check good.state here doing)

pub no_longer : (x : Record) (log : List Record) → log ≡ x ∷ log → ⊥
no_longer x log e = let n = ap length e in omega (arith, n)

-- a turn of a check that goes on by a step which keeps the snapshot
pub goes_good : (Step : Check → Check → Type 0) (old new : State) (k : ℕ) (x y : Session) → IsGood old → slice_get old.sessions.items k ≡ Some x → (b : GoesOnBy Step x y) →
    ((telling : Telling) → IsSnapshot (run_is old) (log_of old) b.before telling → IsSnapshot (run_is old) (log_of old) b.after telling) →
    IsMid k y old.frames old new → new.items ≡ old.items → new.all ≡ old.all → new.size ≡ old.size → Checked k old new
goes_good Step old new k x y good here b keeps mid items all_same size_same =
    let run = run_is old in
    let log = log_of old in
    let run_new : run_is new ≡ run = run_same old new mid.base mid.first in
    let log_new : log_of new ≡ log = ap reverse mid.items in
    let s = b.stays in
    let mine = going_session run log (k + 1) x y b.before b.after (good.state.each k x here) b.was keeps b.is s.kept.script s.replies s.kept.tran s.left s.kept.held s.kept.used in
    let room = good.each_room k x here in
    let script = ap length s.kept.script in
    let replies = ap length s.replies in
    let left = ap length s.left in
    let used = s.kept.used in
    let pending = ap pending_of b.is in
    let pending_old = ap pending_of b.was in
    let started = ap started_of b.is in
    let started_old = ap started_of b.was in
    let a = room.short in let c = room.replies in let d = room.busy in let e = room.left in let f = room.announced in let g = room.used in
    let h = s.room.replies in let i = s.room.left in
    let owed_same : owed_by y ≡ owed_by x = omega (arith, script, replies, left, pending, pending_old, started, started_old) in
    let sum = sum_set owed_by old.sessions.items k x y here in
    let owed_old = good.owed_is in
    let due = checking_due run log (k + 1) x b.before (good.state.each k x here) b.was in
    let state : IsState run log new.frames new.sessions.items new.last new.all new.size =
    subst (λ fr. IsState run log fr new.sessions.items new.last new.all new.size) (sym mid.frames)
    (subst (λ ss. IsState run log old.frames ss new.last new.all new.size) (sym mid.sessions)
    (subst (λ n. IsState run log old.frames (slice_set old.sessions.items k y) n new.all new.size) (sym mid.last)
    (subst (λ n. IsState run log old.frames (slice_set old.sessions.items k y) old.last n new.size) (sym all_same)
    (subst (IsState run log old.frames (slice_set old.sessions.items k y) old.last old.all) (sym size_same)
    (same_log_state run log old.frames old.sessions.items old.last old.all old.size k y good.state mine))))) in
    record {
      good = record {
        state = subst (λ r. IsState r (log_of new) new.frames new.sessions.items new.last new.all new.size) (sym run_new)
            (subst (λ l. IsState run l new.frames new.sessions.items new.last new.all new.size) (sym log_new) state);
        room = subst (λ n. vec_len new.items + n ≤ vec_capacity new.items) (sym mid.owed) (subst (λ v. vec_len v + old.owed ≤ vec_capacity v) (sym items) good.room);
        owed_is = ap (sum_by owed_by) mid.sessions ∙ omega (arith, sum, owed_same, owed_old) ∙ sym mid.owed;
        each_room = λ j z at. elim (get_set old.sessions.items k j y z (subst (λ ss. slice_get ss j ≡ Some z) mid.sessions at)) [
          | inl p ↦ subst HasOwnRoom (sym p.1) (record {
            short = omega (arith, script, a);
            replies = omega (arith, script, c, h);
            busy = omega (arith, script, replies, started, started_old, d);
            left = omega (arith, left, pending, pending_old, e, i);
            announced = omega (arith, left, pending, pending_old, used, f);
            used = omega (arith, used, g);
          })
          | inr p ↦ good.each_room j z p.1
        ];
        few = subst (λ n. n ≤ 16) (sym (ap length mid.sessions ∙ length-set old.sessions.items k y)) good.few;
        low = subst (λ n. n ≤ length new.items.items) (sym mid.last) (subst (λ is. old.last ≤ length is) (sym mid.items) good.low);
        all_low = subst (λ n. n ≤ 524288) (sym all_same) good.all_low;
        size_low = subst (λ n. n ≤ 268435456) (sym size_same) good.size_low;
      };
      turn = (
        run_new,
        Goes (length x.replies.items + 1) (record {
          outcome = 0;
          is_next = subst (λ l. first_of (work_of run (k + 1) l).due ≡ Some (CheckEnd (k + 1) (length x.replies.items + 1) 0)) (sym (items_entries log)) (next_end run log (k + 1) x due.0);
        }) (ap entries_of log_new),
      );
      silent = λ index e. no_longer (Snap (k + 1) index) log (sym log_new ∙ e);
      others = leaves_others old new k y [] good (mid.items ∙ sym (append-nil old.items.items)) mid.sessions;
      told = (let same = ap (told_count run (k + 1)) log_new in (omega (arith, same), omega (arith, same)));
      idle = λ z at e. absurd (let same = get_same new.sessions.items k z y at (ap (λ ss. slice_get ss k) mid.sessions ∙ get_put old.sessions.items k y (get_below old.sessions.items k x here)) in let f : Checking b.after ≡ Idle = sym b.is ∙ ap (λ (q : Session). q.doing) (sym same) ∙ e in cc);
    }
  where
    next_end : (run : Setting) (log : List Record) (s : ℕ) (x : Session) → (progress_of run s log).due ≡ CheckEnd s (length x.replies.items + 1) 0 ∷ [] →
        first_of (work_of run s log).due ≡ Some (CheckEnd s (length x.replies.items + 1) 0)
    next_end run log s x due = ap (λ (q : Progress). first_of q.due) (busy run log s _ [] due) ∙ ap first_of due

-- one step back
pub back_good : (old new : State) (k : ℕ) (x y : Session) → IsGood old → slice_get old.sessions.items k ≡ Some x → BacksIn old.items.items x y → IsMid k y old.frames old new →
    new.items ≡ old.items → new.all ≡ old.all → new.size ≡ old.size → Checked k old new
back_good old new k x y good here b mid items all_same size_same =
    goes_good (GoesBack old.items.items) old new k x y good here b
    (λ telling snap. back_keeps (run_is old) (log_of old) b.before b.after telling (right_of old good).sound snap (subst (λ is. GoesBack is b.before b.after) (sym (items_are old)) b.step)) mid items all_same size_same

-- one turn that reads
pub read_good : (old new : State) (k : ℕ) (x y : Session) → IsGood old → slice_get old.sessions.items k ≡ Some x → ReadsIn x y → IsMid k y old.frames old new →
    new.items ≡ old.items → new.all ≡ old.all → new.size ≡ old.size → Checked k old new
read_good old new k x y good here b mid items all_same size_same =
    goes_good ReadsPages old new k x y good here b (λ telling snap. read_keeps (run_is old) (log_of old) b.before b.after telling snap b.step) mid items all_same size_same

-- a step that leaves fewer turns
pub goes_nearer : (Step : Check → Check → Type 0) (old : State) (k : ℕ) (x y : Session) → k < length old.sessions.items → slice_get old.sessions.items k ≡ Some x → (b : GoesOnBy Step x y) →
    steps_left old.items.items b.after < steps_left old.items.items b.before → (p q : Session) → slice_get old.sessions.items k ≡ Some p → slice_get (slice_set old.sessions.items k y) k ≡ Some q →
    turns_left old.items.items q q.doing < turns_left old.items.items p p.doing
goes_nearer Step old k x y below here b falls p q ep eq =
    let same_x = get_same old.sessions.items k x p here ep in
    let same_y = get_same (slice_set old.sessions.items k y) k y q (get_put old.sessions.items k y below) eq in
    let items = old.items.items in
    let tx : turns_left items x x.doing ≡ steps_left items b.before + 1 = ap (turns_left items x) b.was in
    let ty : turns_left items y y.doing ≡ steps_left items b.after + 1 = ap (turns_left items y) b.is in
    subst (λ z. turns_left items q q.doing < turns_left items z z.doing) same_x (subst (λ z. turns_left items z z.doing < turns_left items x x.doing) same_y (omega (arith, falls, tx, ty)))

pub back_nearer : (old : State) (k : ℕ) (x y : Session) → k < length old.sessions.items → slice_get old.sessions.items k ≡ Some x → BacksIn old.items.items x y →
    ((check : Check) → x.doing ≡ Checking check → is_back check.phase ≡ true) → (p q : Session) → slice_get old.sessions.items k ≡ Some p → slice_get (slice_set old.sessions.items k y) k ≡ Some q →
    turns_left old.items.items q q.doing < turns_left old.items.items p p.doing
back_nearer old k x y below here b back = goes_nearer (GoesBack old.items.items) old k x y below here b (back_falls old.items.items b.before b.after b.step (back b.before b.was))

pub read_nearer : (old : State) (k : ℕ) (x y : Session) → k < length old.sessions.items → slice_get old.sessions.items k ≡ Some x → ReadsIn x y →
    (p q : Session) → slice_get old.sessions.items k ≡ Some p → slice_get (slice_set old.sessions.items k y) k ≡ Some q →
    turns_left old.items.items q q.doing < turns_left old.items.items p p.doing
read_nearer old k x y below here b = goes_nearer ReadsPages old k x y below here b (read_falls old.items.items b.before b.after b.step)

-- a turn that appended an item other than a Snap
pub went_checked : (k : ℕ) (old new : State) → IsGood old → Went k old new → Checked k old new
went_checked k old new good w = record {
  idle = λ y here idle.
      let run = run_is old in
      let belongs = turn_belongs run (log_of old) (k + 1) w.item (entries_of (log_of new)) good.state.start good.state.legal (omega arith) w.turn.1 (ap entries_of w.appended) in
      let mine = subst (λ r. IsSession r (log_of new) (k + 1) y) w.turn.0 (w.good.state.each k y here) in
      let due : (progress_of run (k + 1) (log_of new)).due ≡ [] = subst (IsAt run (log_of new) (k + 1) (length y.replies.items + 1) y.tran (progress_of run (k + 1) (log_of new))) idle mine.doing_is in
      ap (told_count run (k + 1)) w.appended ∙ idle_told run (k + 1) w.item (log_of old) belongs (ap (λ l. (progress_of run (k + 1) l).due) (sym w.appended) ∙ due);
  good = w.good;
  turn = w.turn;
  others = w.others;
  silent = λ index e. differ w.item (Snap (k + 1) index) (log_of old) w.silent refl (sym w.appended ∙ e);
  told = subst (λ l. (told_count (run_is old) (k + 1) (log_of old) ≤ told_count (run_is old) (k + 1) l) × (told_count (run_is old) (k + 1) l ≤ told_count (run_is old) (k + 1) (log_of old) + 1))
      (sym w.appended) (told_step (run_is old) (k + 1) w.item (log_of old));
}
  where
    differ : (x y : Record) (log : List Record) → is_snap x ≡ false → is_snap y ≡ true → x ∷ log ≡ y ∷ log → ⊥
    differ x y log ex ey e = let same : x ≡ y = cc in let b = ap is_snap same in cc

-- what becomes of the room of a session whose check ends
end_room : (old new : Session) (check : Check) (reply : _) → old.doing ≡ Checking check → HasOwnRoom old → Keeps old new → KeepsRoom old new → new.left.items ≡ old.left.items →
    new.replies.items ≡ old.replies.items ++ reply ∷ [] → new.doing ≡ Idle → HasOwnRoom new × (owed_by new + 1 ≤ owed_by old)
    × ((before after : List Record) → turns_left after new new.doing < turns_left before old old.doing)
end_room old new check reply was room kept kept_room left_is replies_are doing =
    let script = ap length kept.script in
    let used = kept.used in
    let replies = ap length replies_are ∙ length_push old.replies.items reply in
    let left = ap length left_is in
    let pending = ap pending_of doing in
    let started = ap started_of doing in
    let pending_old = ap pending_of was in
    let started_old = ap started_of was in
    let a = room.short in let b = room.replies in let d = room.busy in let e = room.left in let f = room.announced in let g = room.used in
    let h = kept_room.replies in let i = kept_room.left in (
      record {
        short = omega (arith, script, a);
        replies = omega (arith, script, b, h);
        busy = omega (arith, script, replies, started, started_old, d);
        left = omega (arith, left, pending, pending_old, e, i);
        announced = omega (arith, left, pending, pending_old, used, f);
        used = omega (arith, used, g);
      },
      omega (arith, script, replies, left, started, started_old, d, pending, pending_old),
      (λ before after. (let turns = ap (turns_left after new) doing in let turns_old = ap (turns_left before old) was in omega (arith, turns, turns_old))),
    )

-- a check that ends for want of memory
check_short : (run : Setting) (log : List Record) (s : ℕ) (old next : Session) (check : Check) → IsStart run → IsLegal run log → 0 < s → IsSession run log s old → old.doing ≡ Checking check →
    next.script.items ≡ old.script.items → next.replies.items ≡ old.replies.items ++ Refused out_of_memory ∷ [] → next.tran ≡ old.tran → next.doing ≡ Idle →
    next.left.items ≡ old.left.items → next.held.items ≡ old.held.items → next.used ≡ old.used →
    MayCome (work_of run s log) (CheckEnd s (length old.replies.items + 1) 3) × IsSession run (CheckEnd s (length old.replies.items + 1) 3 ∷ log) s next
check_short run log s old next check start legal hs mine doing script replies tran doing_next left held used =
    let x = CheckEnd s (length old.replies.items + 1) 3 in
    let d = checking_due run log s old check mine doing in
    let same = busy run log s _ [] d.0 in
    let may : MayCome (work_of run s log) x = inr (ap (λ (q : Progress). q.want) same ∙ d.2) in
    let st = steps_of run log s x start legal hs may in
    (may, ends_short run log s x old next st.belongs refl (told_so run log s old mine) script replies tran doing_next (end_opens run log s (length old.replies.items + 1) 3 old next mine tran left held used))

-- the item that ends a check, and the session behind it
pub end_good : (st : State) (k : ℕ) (place : StatementNo) (x y : Session) (item : Record) → IsGood st → slice_get st.sessions.items k ≡ Some x →
    ((check : Check) → x.doing ≡ Checking check → is_back check.phase ≡ false) → place.session ≡ k + 1 → place.index ≡ length x.replies.items + 1 → EndsBy place x y item →
    IsStep (run_is st) (log_of st) (k + 1) y st.frames st.frames item st.all st.size × HasOwnRoom y × (owed_by y + 1 ≤ owed_by x)
    × ((before after : List Record) → turns_left after y y.doing < turns_left before x x.doing) × (is_snap item ≡ false)
end_good st k place x y item good here behind ps pi e =
    let run = run_is st in
    let log = log_of st in
    let s = k + 1 in
    let mine = good.state.each k x here in
    let named : (o : ℕ) → CheckEnd place.session place.index o ≡ CheckEnd s (length x.replies.items + 1) o = λ o. ap (λ m. CheckEnd m place.index o) ps ∙ ap (λ m. CheckEnd s m o) pi in
    elim e.ends [
      | inl r ↦
          let room = end_room x y e.check _ e.was (good.each_room k x here) e.kept e.room e.left r.3 e.doing in
          let is_item = r.4 ∙ named 0 in (
            subst (λ i. IsStep run log s y st.frames st.frames i st.all st.size) (sym is_item) (record {
              comes = check_comes run log s x e.check mine e.was;
              mine = check_ends run log s x y e.check r.0 good.state.start good.state.legal (omega arith) mine e.was ((checking_due run log s x e.check mine e.was).1.undone (behind e.check e.was))
                  (subst (λ g. IsCheckOf g e.check.pages r.0) (ap (λ bytes. or_small (geometry_of bytes)) (checking_due run log s x e.check mine e.was).1.first) r.2) e.kept.script r.3 e.kept.tran e.doing e.left e.kept.held e.kept.used;
              pages_are = refl;
              all_is = good.state.all_is;
              size_is = good.state.size_is;
            }),
            room.0,
            room.1,
            room.2,
            ap is_snap is_item,
          )
      | inr r ↦
          let room = end_room x y e.check _ e.was (good.each_room k x here) e.kept e.room e.left r.0 e.doing in
          let short = check_short run log s x y e.check good.state.start good.state.legal (omega arith) mine e.was e.kept.script r.0 e.kept.tran e.doing e.left e.kept.held e.kept.used in
          let is_item = r.1 ∙ named 3 in (
            subst (λ i. IsStep run log s y st.frames st.frames i st.all st.size) (sym is_item) (record {
              comes = short.0;
              mine = short.1;
              pages_are = refl;
              all_is = good.state.all_is;
              size_is = good.state.size_is;
            }),
            room.0,
            room.1,
            room.2,
            ap is_snap is_item,
          )
    ]

-- room for a reply of a session whose check is under way
pub replies_room : (x : Session) → (check : Check) × (x.doing ≡ Checking check) → HasOwnRoom x → vec_len x.replies < vec_capacity x.replies
replies_room x checking room =
    let started = ap started_of checking.1 in
    let a = room.replies in
    let b = room.busy in
    let len = x.replies.ok.0 in
    omega (arith, started, a, b, len)

-- what a session's check does
pub phase_of : (x y : Session) (check : Check) {b c : Bool} → x ≡ y → y.doing ≡ Checking check → ((d : Check) → x.doing ≡ Checking d → b ≡ is_back d.phase) → b ≡ c → is_back check.phase ≡ c
phase_of x y check same doing known is = sym (known check (ap (λ (z : Session). z.doing) same ∙ doing)) ∙ is
