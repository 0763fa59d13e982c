-- The turns in which a check begins keep the core's state good.
use Rattle.std.proofs.Common.{◌≡◌, ℕ, ◌+◌, ◌-◌, ◌<◌, ◌≤◌, max, List, [], ◌∷◌, ◌++◌, length, reverse, Some, None, ◌⊎◌, inl, inr, refl, sym, ap, ◌∙◌, subst, arith, vec_len, vec_capacity}
use Rattle.std.specs.Prelude.{slice_get, slice_set, sum_by}
use Rattle.std.proofs.Math.ListN.{length-set}
use Rattle.std.proofs.lemmas.Option.{slice_get_within}
use Rattle.spec_file.specs.Places.{HasShape}
use Rattle.spec_log.specs.declared.item.Record.{Record}
use Rattle.spec_log.specs.declared.item.Record.TheVariants.{Snap, CheckEnd}
use Rattle.spec_log.specs.Items.{tran_of}
use Rattle.spec_log.specs.Images.{committed_image}
use Rattle.std.proofs.lemmas.List.{append_assoc, reverse-append, length_push}
use Rattle.spec_script.specs.declared.statement.Statement.{Statement}
use Rattle.spec_script.specs.declared.statement.Statement.TheVariants as statement
use Rattle.spec_plan.specs.Refusals.{out_of_memory}
use Rattle.spec_script.specs.declared.reply.Reply.TheVariants.{Refused}
use Rattle.spec_run.specs.Begun.{Setting, Reports, by_damage, begun_by}
use Rattle.spec_run.specs.Progress.{Progress, progress_of, work_of, moved_to, MayCome}
use Rattle.spec_run.specs.Turns.{IsLegal, AreTold, EndsAtOnce as AtOnce}
use Rattle.law_run.specs.Laws.{IsStart}
use Rattle.law_run.proofs.Legal.{with_begun, legal_right}
use Rattle.law_run.proofs.Moved.{moved_whole}
use Rattle.db_core.specs.declared.session.Check.{Check}
use Rattle.db_core.specs.declared.session.Doing.TheVariants.{Idle, Checking}
use Rattle.db_core.specs.declared.session.Session.{Session}
use Rattle.db_core.specs.declared.starts.StatementNo.{StatementNo}
use Rattle.db_core.specs.declared.state.State.{State}
use Rattle.spec_run.specs.Bounds.{most_turns}
use Rattle.db_core.specs.Checks.{Begins, Checked, EndsAtOnce, IsFresh, Snapped}
use Rattle.db_core.specs.Rooms.{pending_of, started_of, owed_by, HasOwnRoom, turns_left, left_of_statement}
use Rattle.db_core.specs.States.{whole_log, entries_of, IsAt, IsOpen, IsSession, IsSnapshot, IsState}
use Rattle.db_core.specs.Store.{run_is, log_of, is_snap, told_count, IsGood, IsSettled}
use Rattle.db_core.proofs.Keeps.{get_set, steps_of, own_progress, other_session}
use Rattle.db_core.proofs.Moves.{goes_on, ends_short, IsToldSo, work_told, work_tran}
use Rattle.db_core.proofs.Next.{busy, opens_after, told_count as replies_told}
use Rattle.db_core.proofs.Opens.{open_snap, open_end}
use Rattle.db_core.proofs.Records.{IsBegun, begun_work, begun_comes}
use Rattle.db_core.proofs.CheckSteps.{fresh_snapshot}
use Rattle.db_core.proofs.BeginWord.{ends_room}
use Rattle.db_core.proofs.Good.{count_is, get_below, get_put, get_same, part_of_sum, owed_low, sum_low, sum_set, run_same, items_entries, IsMid, IsStep, log_more, stepped_good, stepped_turn}
use Rattle.db_core.proofs.GoOn.{room_behind}
use Rattle.db_core.proofs.Left.{leaves_others}
use Rattle.db_core.proofs.Stepped.{state_pages}
use Rattle.db_core.proofs.Views.{ongoing_is}

-- the snapshot of a check that begins
fresh_is : (st : State) (k i : ℕ) (check : Check) → IsGood st → IsFresh (length st.items.items + 1) st.frames st.sessions.items check →
    IsSnapshot (run_is st) (Snap (k + 1) i ∷ log_of st) check (Reports (length (whole_log (run_is st) (log_of st)) + 1) (committed_image (run_is st).opened (log_of st) (run_is st).image))
fresh_is st k i check good f =
    let size = count_is st in
    let point = f.point_is in
    let place = f.place in
    fresh_snapshot (run_is st) (log_of st) (k + 1) i check good.state.start good.state.legal (omega (arith, point, size)) (omega (arith, place, size))
    (f.pages_are ∙ good.state.pages_are) (ap length f.pages_are ∙ state_pages (run_is st) (log_of st) st.frames st.sessions.items st.last st.all st.size good.state)
    (ongoing_is st check.ongoing.items good f.ongoing) f.phase

-- the record of a check
check_begun : (st : State) (k workers : ℕ) (x : Session) → IsGood st → slice_get st.sessions.items k ≡ Some x → x.doing ≡ Idle →
    slice_get x.script.items (length x.replies.items) ≡ Some (statement.Check workers) →
    IsBegun (run_is st) (log_of st) (k + 1) x (statement.Check workers) (begun_by (k + 1) (length x.replies.items + 1) x.tran (by_damage (run_is st) (log_of st) None))
check_begun st k workers x good here idle next = record {
  start = good.state.start;
  legal = good.state.legal;
  above = omega arith;
  mine = good.state.each k x here;
  idle = idle;
  next = next;
  is_begun = refl;
}

-- what stays of the session's transaction
snap_opens : (run : Setting) (log : List Record) (s i : ℕ) (old next : Session) → IsSession run log s old → next.tran ≡ old.tran →
    next.left.items ≡ old.left.items → next.held.items ≡ old.held.items → next.used ≡ old.used →
    (next.tran ≡ 0) ⊎ IsOpen (Snap s i ∷ whole_log run log) next.tran next.left.items next.held.items next.used
snap_opens run log s i old next mine tran left held used =
    let x = Snap s i in
    opens_after run log x old.tran old next refl tran mine.opens (λ p.
    subst (λ l. IsOpen (x ∷ whole_log run log) old.tran l next.held.items next.used) (sym left)
    (subst (λ h. IsOpen (x ∷ whole_log run log) old.tran old.left.items h next.used) (sym held)
    (subst (IsOpen (x ∷ whole_log run log) old.tran old.left.items old.held.items) (sym used)
    (open_snap (whole_log run log) old.tran s i old.left.items old.held.items old.used p))))

-- the Snap of a check that goes on, and the session behind it
pub snap_good : (st : State) (k workers : ℕ) (place : StatementNo) (check : Check) (x y : Session) (item : Record) → IsGood st → slice_get st.sessions.items k ≡ Some x → x.doing ≡ Idle →
    slice_get x.script.items (length x.replies.items) ≡ Some (statement.Check workers) → IsFresh (length st.items.items + 1) st.frames st.sessions.items check →
    place.session ≡ k + 1 → place.index ≡ length x.replies.items + 1 → Begins place check x y item →
    IsStep (run_is st) (log_of st) (k + 1) y st.frames st.frames item st.all st.size × HasOwnRoom y × (owed_by y + 1 ≤ owed_by x) × (item ≡ Snap (k + 1) (length x.replies.items + 1))
snap_good st k workers place check x y item good here idle next fresh ps pi b =
    let run = run_is st in
    let log = log_of st in
    let s = k + 1 in
    let i = length x.replies.items + 1 in
    let is_item : item ≡ Snap s i = b.item ∙ ap (λ m. Snap m place.index) ps ∙ ap (λ m. Snap s m) pi in
    let h = check_begun st k workers x good here idle next in
    let w = begun_work run log s x (statement.Check workers) _ h in
    let mine = goes_on run log s (Snap s i) (CheckEnd s i 0) [] x y refl (ap (λ (q : Progress). q.due) w) refl h.mine b.kept.script b.replies b.kept.tran
    (subst (IsAt run (Snap s i ∷ log) s i y.tran (moved_to (work_of run s log) (Snap s i) (CheckEnd s i 0 ∷ []))) (sym b.doing) (
      refl,
      subst (IsSnapshot run (Snap s i ∷ log) check) (sym (ap (λ (q : Progress). q.telling) w)) (fresh_is st k i check good fresh),
      refl,
    ))
    (snap_opens run log s i x y h.mine b.kept.tran b.left b.kept.held b.kept.used) in
    let room = good.each_room k x here in
    let more = slice_get_within x.script.items (length x.replies.items) (statement.Check workers) next in
    let script = ap length b.kept.script in
    let used = b.kept.used in
    let replies = ap length b.replies in
    let left = ap length b.left in
    let pending = ap pending_of b.doing in
    let started = ap started_of b.doing in
    let pending_old = ap pending_of idle in
    let started_old = ap started_of idle in
    let a = room.short in let c = room.replies in let e = room.left in let f = room.announced in let g = room.used in
    let p = b.room.replies in let q = b.room.left in (
      subst (λ m. IsStep run log s y st.frames st.frames m st.all st.size) (sym is_item) (record {
        comes = begun_comes run log s x (statement.Check workers) _ (Snap s i) (CheckEnd s i 0 ∷ []) h refl;
        mine = mine;
        pages_are = refl;
        all_is = good.state.all_is;
        size_is = good.state.size_is;
      }),
      record {
        short = omega (arith, script, a);
        replies = omega (arith, script, c, p);
        busy = omega (arith, script, replies, started, more);
        left = omega (arith, left, pending, pending_old, e, q);
        announced = omega (arith, left, used, pending, pending_old, f);
        used = omega (arith, used, g);
      },
      omega (arith, script, replies, started, started_old, more, left, pending, pending_old),
      is_item,
    )

-- the session behind a check that finds no memory, the history, and the other sessions
short_session : (run : Setting) (log : List Record) (s i : ℕ) (x y : Session) → IsStart run → IsLegal run log → 0 < s → s ≤ length run.scripts → IsSession run log s x →
    work_of run s log ≡ with_begun (progress_of run s log) (begun_by s i x.tran (by_damage run log None)) → MayCome (work_of run s log) (Snap s i) →
    y.script.items ≡ x.script.items → y.replies.items ≡ x.replies.items ++ Refused out_of_memory ∷ [] → y.tran ≡ x.tran → y.doing ≡ Idle →
    y.left.items ≡ x.left.items → y.held.items ≡ x.held.items → y.used ≡ x.used →
    IsSession run (CheckEnd s i 3 ∷ (Snap s i ∷ log)) s y × IsLegal run (CheckEnd s i 3 ∷ (Snap s i ∷ log))
    × ((j : ℕ) (z : Session) → (s ≡ j + 1 → ⊥) → IsSession run log (j + 1) z → IsSession run (CheckEnd s i 3 ∷ (Snap s i ∷ log)) (j + 1) z)
short_session run log s i x y start legal above inside mine work may script replies tran doing left held used =
    let snap = Snap s i in
    let more = snap ∷ log in
    let last = CheckEnd s i 3 in
    let legal_one : IsLegal run more = ((s, (above, inside), may), legal) in
    let now : progress_of run s more ≡ moved_to (work_of run s log) snap (CheckEnd s i 0 ∷ []) =
    own_progress run log s snap refl ∙ moved_whole (work_of run s log) snap (CheckEnd s i 0 ∷ []) refl (ap (λ (q : Progress). q.due) work) in
    let same = busy run more s (CheckEnd s i 0) [] (ap (λ (q : Progress). q.due) now) in
    let may_last : MayCome (work_of run s more) last = inr (ap (λ (q : Progress). q.want) (same ∙ now)) in
    let legal_two : IsLegal run (last ∷ more) = ((s, (above, inside), may_last), legal_one) in
    let st_one = steps_of run log s snap start legal above may in
    let st_two = steps_of run more s last start legal_one above may_last in
    let right_one = legal_right run log start legal in
    let right_two = legal_right run more start legal_one in
    let told : IsToldSo run more s x = record {
      script_is = mine.script_is;
      told = subst (λ (q : Progress). AreTold run.geometry (reverse q.told) x.replies.items) (sym now)
          (subst (λ ts. AreTold run.geometry (reverse ts) x.replies.items) (sym (work_told run log s)) mine.told);
      tran_is = ap (λ (q : Progress). q.tran) now ∙ work_tran run log s ∙ mine.tran_is;
    } in
    let opens_one = snap_opens run log s i x y mine tran left held used in
    let opens_two : (y.tran ≡ 0) ⊎ IsOpen (last ∷ whole_log run more) y.tran y.left.items y.held.items y.used = elim opens_one [
      | inl none ↦ inl none
      | inr o ↦ inr (open_end (whole_log run more) y.tran s i 3 y.left.items y.held.items y.used o)
    ] in (
      ends_short run more s last x y refl refl told script replies tran doing opens_two,
      legal_two,
      (λ j z differ theirs. other_session run more last s (j + 1) z right_two st_two differ (other_session run log snap s (j + 1) z right_one st_one differ theirs)),
    )

-- a check that finds no memory: its Snap and its end
pub short_good : (st one mid two : State) (k before workers : ℕ) (place : StatementNo) (x y : Session) (snap last : Record) → IsGood st → slice_get st.sessions.items k ≡ Some x → x.doing ≡ Idle →
    slice_get x.script.items (length x.replies.items) ≡ Some (statement.Check workers) → place.session ≡ k + 1 → place.index ≡ length x.replies.items + 1 →
    snap ≡ Snap place.session place.index → before ≡ owed_by x → IsSettled k before snap x st one → EndsAtOnce place x y last → IsMid k y one.frames one mid →
    mid.items ≡ one.items → mid.all ≡ one.all → mid.size ≡ one.size → IsSettled k before last y mid two → Checked k st two
short_good st one mid two k before workers place x y snap last good here idle next ps pi is_snap owed set_one e is_mid same_items same_all same_size set_two =
    let run = run_is st in
    let log = log_of st in
    let g = whole_log run log in
    let s = k + 1 in
    let i = length x.replies.items + 1 in
    let snap_is : snap ≡ Snap s i = is_snap ∙ ap (λ m. Snap m place.index) ps ∙ ap (λ m. Snap s m) pi in
    let last_is : last ≡ CheckEnd s i 3 = e.item ∙ ap (λ m. CheckEnd m place.index 3) ps ∙ ap (λ m. CheckEnd s m 3) pi in
    let below = get_below st.sessions.items k x here in
    let few = good.state.few in
    let h = check_begun st k workers x good here idle next in
    let w = begun_work run log s x (statement.Check workers) _ h in
    let may_snap = begun_comes run log s x (statement.Check workers) _ (Snap s i) (CheckEnd s i 0 ∷ []) h refl in
    let short = short_session run log s i x y good.state.start good.state.legal (omega arith) (omega (arith, below, few)) h.mine w may_snap e.kept.script e.replies e.kept.tran e.doing e.left e.kept.held e.kept.used in
    let sessions_are : two.sessions.items ≡ slice_set st.sessions.items k y = set_two.sessions ∙ is_mid.sessions ∙ ap (λ ss. slice_set ss k y) set_one.sessions in
    let items_are_now : two.items.items ≡ (st.items.items ++ snap ∷ []) ++ last ∷ [] = set_two.items ∙ ap (λ is. is ++ last ∷ []) (is_mid.items ∙ set_one.items) in
    let log_new : log_of two ≡ CheckEnd s i 3 ∷ (Snap s i ∷ log) =
    ap reverse items_are_now ∙ reverse-append (st.items.items ++ snap ∷ []) (last ∷ []) ∙ ap (λ l. last ∷ l) (reverse-append st.items.items (snap ∷ []))
    ∙ ap (λ m. m ∷ (snap ∷ log)) last_is ∙ ap (λ m. CheckEnd s i 3 ∷ (m ∷ log)) snap_is in
    let run_new : run_is two ≡ run = run_same st two (set_two.base ∙ is_mid.base ∙ set_one.base) (set_two.first ∙ is_mid.first ∙ set_one.first) in
    let last_one : one.last ≡ max 0 st.last = set_one.last ∙ ap (λ m. max (tran_of m) st.last) snap_is in
    let last_two : two.last ≡ max 0 (max 0 st.last) = set_two.last ∙ ap (λ m. max (tran_of m) mid.last) last_is ∙ ap (max 0) (is_mid.last ∙ last_one) in
    let last_same : two.last ≡ st.last = omega (arith, last_two) in
    let all_two : two.all ≡ st.all = set_two.all_is ∙ same_all ∙ set_one.all_is in
    let size_two : two.size ≡ st.size = set_two.size_is ∙ same_size ∙ set_one.size_is in
    let part = part_of_sum owed_by st.sessions.items k x here in
    let sum = sum_set owed_by st.sessions.items k x y here in
    let owed_old = good.owed_is in
    let owed_one = set_one.owed in
    let owed_mid = is_mid.owed in
    let owed_two = set_two.owed in
    let owed_now : two.owed ≡ st.owed - owed_by x + owed_by y = omega (arith, owed, part, owed_old, owed_one, owed_mid, owed_two) in
    let len_two : vec_len two.items ≡ vec_len st.items + 2 = (let a = set_one.len in let b = ap vec_len same_items in let c = set_two.len in omega (arith, a, b, c)) in
    let capacity : vec_capacity st.items ≤ vec_capacity two.items = (let a = set_one.capacity in let b = ap vec_capacity same_items in let c = set_two.capacity in omega (arith, a, b, c)) in
    let room_x = good.each_room k x here in
    let more = slice_get_within x.script.items (length x.replies.items) (statement.Check workers) next in
    let room_y = ends_room x y _ idle more room_x e.room e.kept.script (let l = ap length e.left in omega (arith, l)) (let l = ap length e.left in let u = e.kept.used in let f = room_x.announced in omega (arith, l, u, f))
    (let u = e.kept.used in let f = room_x.used in omega (arith, u, f)) e.replies e.doing in
    let less : owed_by y + 2 ≤ owed_by x =
    (let script = ap length e.kept.script in let replies = ap length e.replies ∙ length_push x.replies.items _ in let left = ap length e.left in let pending = ap pending_of e.doing in
    let started = ap started_of e.doing in let pending_old = ap pending_of idle in let started_old = ap started_of idle in omega (arith, script, replies, left, pending, started, pending_old, started_old, more)) in
    let room_old = good.room in
    let state : IsState run (CheckEnd s i 3 ∷ (Snap s i ∷ log)) two.frames two.sessions.items two.last two.all two.size = record {
      start = good.state.start;
      legal = short.1;
      pages_are = set_two.frames ∙ is_mid.frames ∙ set_one.frames ∙ good.state.pages_are;
      few = ap length sessions_are ∙ length-set st.sessions.items k y ∙ good.state.few;
      each = λ j z at. elim (get_set st.sessions.items k j y z (subst (λ ss. slice_get ss j ≡ Some z) sessions_are at)) [
        | inl p ↦ subst (λ m. IsSession run (CheckEnd s i 3 ∷ (Snap s i ∷ log)) (m + 1) z) p.0 (subst (IsSession run (CheckEnd s i 3 ∷ (Snap s i ∷ log)) s) (sym p.1) short.0)
        | inr p ↦ short.2 j z (λ same. p.0 (omega (arith, same))) (good.state.each j z p.1)
      ];
      last_is = last_two ∙ ap (λ n. max 0 (max 0 n)) good.state.last_is;
      all_is = all_two ∙ good.state.all_is;
      size_is = size_two ∙ good.state.size_is;
    } in
    record {
      good = record {
        state = subst (λ r. IsState r (log_of two) two.frames two.sessions.items two.last two.all two.size) (sym run_new)
            (subst (λ l. IsState run l two.frames two.sessions.items two.last two.all two.size) (sym log_new) state);
        room = omega (arith, room_old, less, part, owed_old, owed_now, len_two, capacity);
        owed_is = ap (sum_by owed_by) sessions_are ∙ omega (arith, sum, part, owed_old, owed_now);
        each_room = λ j z at. elim (get_set st.sessions.items k j y z (subst (λ ss. slice_get ss j ≡ Some z) sessions_are at)) [
          | inl p ↦ subst HasOwnRoom (sym p.1) room_y.own
          | inr p ↦ good.each_room j z p.1
        ];
        few = subst (λ n. n ≤ 16) (sym (ap length sessions_are ∙ length-set st.sessions.items k y)) good.few;
        low = (let a = good.low in let b = ap length items_are_now ∙ length_push (st.items.items ++ snap ∷ []) last in let c = length_push st.items.items snap in omega (arith, a, b, c, last_same));
        all_low = subst (λ n. n ≤ 524288) (sym all_two) good.all_low;
        size_low = subst (λ n. n ≤ 268435456) (sym size_two) good.size_low;
      };
      turn = (run_new, AtOnce i (subst (λ l. MayCome (work_of run s l) (Snap s i)) (sym (items_entries log)) may_snap) (ap entries_of log_new));
      others = leaves_others st two k y (snap ∷ (last ∷ [])) good (items_are_now ∙ append_assoc st.items.items (snap ∷ []) (last ∷ [])) sessions_are;
      silent = λ index eq. longer (CheckEnd s i 3) (Snap s i) (Snap s index) log (sym log_new ∙ eq);
      idle = λ z at is_idle. ap (told_count run s) log_new
          ∙ (let a = replies_told run (CheckEnd s i 3 ∷ (Snap s i ∷ log)) s y short.0 in let b = replies_told run log s x h.mine in let c = ap length e.replies ∙ length_push x.replies.items _ in omega (arith, a, b, c));
      told = subst (λ l. (told_count run s log ≤ told_count run s l) × (told_count run s l ≤ told_count run s log + 1)) (sym log_new)
          (let a = replies_told run (CheckEnd s i 3 ∷ (Snap s i ∷ log)) s y short.0 in let b = replies_told run log s x h.mine in let c = ap length e.replies ∙ length_push x.replies.items _ in (omega (arith, a, b, c), omega (arith, a, b, c)));
    }
  where
    longer : (a b c : Record) (l : List Record) → a ∷ (b ∷ l) ≡ c ∷ l → ⊥
    longer a b c l e = let n = ap length e in omega (arith, n)

-- the turn of a Snap
pub snapped : (old mid new : State) (k before i : ℕ) (x y : Session) (item : Record) → IsGood old → slice_get old.sessions.items k ≡ Some x → IsMid k y old.frames old mid →
    mid.items ≡ old.items → mid.all ≡ old.all → mid.size ≡ old.size →
    IsStep (run_is old) (log_of old) (k + 1) y old.frames old.frames item old.all old.size → HasOwnRoom y → owed_by y + 1 ≤ owed_by x → item ≡ Snap (k + 1) i → y.replies.items ≡ x.replies.items → (y.doing ≡ Idle → ⊥) →
    turns_left (old.items.items ++ item ∷ []) y y.doing ≤ most_turns (run_is old) (log_of old) → before ≡ owed_by x → IsSettled k before item y mid new → Snapped k old new
snapped old mid new k before i x y item good here is_mid same_items same_all same_size step own less snap replies busy few owed set =
    let there : slice_get new.sessions.items k ≡ Some y = ap (λ ss. slice_get ss k) (set.sessions ∙ is_mid.sessions) ∙ get_put old.sessions.items k y (get_below old.sessions.items k x here) in
    let items : new.items.items ≡ old.items.items ++ item ∷ [] = set.items ∙ ap (λ is. is ++ item ∷ []) is_mid.items in record {
      busy = λ z at e. busy (let same = get_same new.sessions.items k z y at there in ap (λ (q : Session). q.doing) (sym same) ∙ e);
      few = subst (λ o. left_of_statement new.items.items o ≤ most_turns (run_is old) (log_of old)) (sym there) (subst (λ is. turns_left is y y.doing ≤ most_turns (run_is old) (log_of old)) (sym items) few);
      others = leaves_others old new k y (item ∷ []) good items (set.sessions ∙ is_mid.sessions);
      good = stepped_good old mid new k x y old.frames item good here is_mid
          (subst (λ n. IsStep (run_is old) (log_of old) (k + 1) y old.frames old.frames item n mid.size) (sym same_all)
          (subst (IsStep (run_is old) (log_of old) (k + 1) y old.frames old.frames item old.all) (sym same_size) step))
          (subst (λ n. n ≤ 524288) (sym same_all) good.all_low) (subst (λ n. n ≤ 268435456) (sym same_size) good.size_low)
          (subst (λ n. IsSettled k n item y mid new) owed set) own
          (subst (λ v. vec_len old.items + 1 + (old.owed - owed_by x + owed_by y) ≤ vec_capacity v) (sym same_items) (room_behind old k x y good here less));
      turn = stepped_turn old mid new k x y old.frames item is_mid step.comes (subst (λ n. IsSettled k n item y mid new) owed set);
      index = i;
      snap = log_more old new item (set.items ∙ ap (λ is. is ++ item ∷ []) is_mid.items) ∙ ap (λ m. m ∷ log_of old) snap;
      told = ap (told_count (run_is old) (k + 1)) (log_more old new item (set.items ∙ ap (λ is. is ++ item ∷ []) is_mid.items))
          ∙ replies_told (run_is old) (item ∷ log_of old) (k + 1) y step.mine ∙ ap length replies ∙ sym (replies_told (run_is old) (log_of old) (k + 1) x (good.state.each k x here));
    }

-- the state between the Snap of a check that finds no memory and its end
pub record ShortStart (st one : State) (k before : ℕ) (x : Session) : Type 0 where
  pub sessions : one.sessions.items ≡ st.sessions.items
  pub room : vec_len one.items < vec_capacity one.items
  pub owed : one.owed ≡ st.owed
  pub before_is : before ≤ one.owed
  pub replies : vec_len x.replies < vec_capacity x.replies

-- an idle session with a next statement owes room for two items and more
pub owes_two : (st : State) (k : ℕ) (x : Session) (next : Statement) → IsGood st → slice_get st.sessions.items k ≡ Some x → x.doing ≡ Idle → slice_get x.script.items (length x.replies.items) ≡ Some next →
    4 ≤ owed_by x × (vec_len x.replies < vec_capacity x.replies)
owes_two st k x next good here idle is_next =
    let more = slice_get_within x.script.items (length x.replies.items) next is_next in
    let pending = ap pending_of idle in
    let started = ap started_of idle in
    let room = good.each_room k x here in
    let a = room.replies in
    let len = x.replies.ok.0 in
    (omega (arith, more, pending, started), omega (arith, more, a, len))

pub short_start : (st one : State) (k before workers : ℕ) (x : Session) (snap : Record) → IsGood st → slice_get st.sessions.items k ≡ Some x → x.doing ≡ Idle →
    slice_get x.script.items (length x.replies.items) ≡ Some (statement.Check workers) → before ≡ owed_by x → IsSettled k before snap x st one → ShortStart st one k before x
short_start st one k before workers x snap good here idle next owed set =
    let two = owes_two st k x (statement.Check workers) good here idle next in
    let four = two.0 in
    let part = part_of_sum owed_by st.sessions.items k x here in
    let owed_old = good.owed_is in
    let owed_one = set.owed in
    let len = set.len in
    let capacity = set.capacity in
    let room = good.room in
    let same : one.owed ≡ st.owed = omega (arith, owed, part, owed_old, owed_one) in
    record {
      sessions = set.sessions;
      room = omega (arith, four, part, owed_old, len, capacity, room);
      owed = same;
      before_is = omega (arith, owed, part, owed_old, same);
      replies = two.1;
    }

pub short_own : (st : State) (k workers : ℕ) (place : StatementNo) (x y : Session) (last : Record) → IsGood st → slice_get st.sessions.items k ≡ Some x → x.doing ≡ Idle →
    slice_get x.script.items (length x.replies.items) ≡ Some (statement.Check workers) → EndsAtOnce place x y last → HasOwnRoom y
short_own st k workers place x y last good here idle next e =
    let room = good.each_room k x here in
    let more = slice_get_within x.script.items (length x.replies.items) (statement.Check workers) next in
    let left = ap length e.left in
    let used = e.kept.used in
    let f = room.announced in
    let g = room.used in
    (ends_room x y _ idle more room e.room e.kept.script (omega (arith, left)) (omega (arith, left, used, f)) (omega (arith, used, g)) e.replies e.doing).own

-- all sessions together owe room for few items
pub low_owed : (st : State) → IsGood st → st.owed < 9223372036854775808
low_owed st good =
    let sum = sum_low st.sessions.items (λ k x here. owed_low x (good.each_room k x here)) in
    let few = good.few in
    let owed = good.owed_is in
    omega (arith, sum, few, owed)

-- a session that has begun a check is in the middle of it
pub is_busy : (place : StatementNo) (check : Check) (x y : Session) (item : Record) → Begins place check x y item → y.doing ≡ Idle → ⊥
is_busy place check x y item b e = let f : Checking check ≡ Idle = sym b.doing ∙ e in cc
