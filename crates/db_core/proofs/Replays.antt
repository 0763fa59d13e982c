-- Runs of turns, one after another.
use Rattle.std.proofs.Common.{◌≡◌, ℕ, zero, suc, ◌+◌, ◌-◌, ◌<◌, ◌≤◌, get_or, List, [], ◌∷◌, ◌++◌, length, Some, None, ◌⊎◌, inl, inr, refl, sym, ap, ◌∙◌, subst, arith, append-nil}
use Rattle.std.specs.Prelude.{slice_get, replicate, take}
use Rattle.std.proofs.lemmas.List.{append_assoc, length_push}
use Rattle.spec_log.specs.declared.item.Record.{Record}
use Rattle.spec_log.specs.declared.item.Record.TheVariants.{Snap, CheckEnd}
use Rattle.spec_run.specs.Entries.{Entry, items_of}
use Rattle.spec_run.specs.Begun.{Setting}
use Rattle.spec_run.specs.Progress.{Progress, progress_of, script_of, next_of}
use Rattle.spec_run.specs.Bounds.{RunWithin}
use Rattle.spec_run.specs.Turns.{IsLegal, Turn, Rests, Appends, EndsAtOnce, Goes, Marks, Run}
use Rattle.law_run.specs.Laws.{IsStart}
use Rattle.law_run.proofs.Keeps.{progress_other}
use Rattle.db_core.specs.declared.session.Doing.{Doing}
use Rattle.db_core.specs.declared.session.Doing.TheVariants.{Idle, Changing, Ending, Undoing, Checking}
use Rattle.db_core.specs.declared.session.Session.{Session}
use Rattle.db_core.specs.declared.state.State.{State}
use Rattle.db_core.specs.declared.out.TurnOut.{TurnOut}
use Rattle.db_core.specs.declared.out.TurnOut.TheVariants as out
use Rattle.db_core.specs.Rooms.{started_of}
use Rattle.spec_run.specs.Schedules.{turns_of, rest_from}
use Rattle.db_core.specs.States.{entries_of, left_in, IsAt}
use Rattle.db_core.specs.Store.{run_is, log_of, db_of, told_count, SaysOut, IsGood, Advanced, GoesNearer}
use Rattle.db_core.specs.Replays.{Follows, RunsTurns, RunsSchedule, IsDoneSession, MayGoOn, IsDone, EndsSession, EndsStatement, EndsFirst, GoesOn, unanswered}
use Rattle.db_core.proofs.Keeps.{steps_of}
use Rattle.db_core.proofs.Good.{get_same, items_entries}
use Rattle.db_core.proofs.Next.{told_count as replies_told}
use Rattle.db_core.proofs.Advances.{told_now}
use Rattle.db_core.proofs.TurnsLeft.{within_run, within_then, rests, takes_turn}

replicate_more : (n s : ℕ) → replicate n s ++ s ∷ [] ≡ replicate (n + 1) s
replicate_more zero s = refl
replicate_more (suc n) s = let e : suc n + 1 ≡ suc (n + 1) = omega arith in ap (λ xs. s ∷ xs) (replicate_more n s) ∙ ap (λ m. replicate m s) (sym e)

replicate_then : (n m s : ℕ) → replicate n s ++ replicate m s ≡ replicate (n + m) s
replicate_then zero m s = let e : 0 + m ≡ m = omega arith in ap (λ k. replicate k s) (sym e)
replicate_then (suc n) m s = let e : suc n + m ≡ suc (n + m) = omega arith in ap (λ xs. s ∷ xs) (replicate_then n m s) ∙ ap (λ k. replicate k s) (sym e)

pub follows_then : (xs ys : List ℕ) (a b c : State) → Follows xs a b → Follows ys b c → Follows (xs ++ ys) a c
follows_then xs ys a b c f g = record {
  good = g.good;
  same = g.same ∙ f.same;
  run = within_then (run_is a) xs ys (left_in (db_of a)) (left_in (db_of b)) (left_in (db_of c)) (entries_of (log_of a)) (entries_of (log_of b)) (entries_of (log_of c)) f.run
      (subst (λ r. RunWithin r (left_in (db_of b)) (entries_of (log_of b)) ys (left_in (db_of c)) (entries_of (log_of c))) f.same g.run);
}

-- one turn
pub follows_one : (old new : State) (at : ℕ) (answer : TurnOut) → IsGood old → at < length old.sessions.items → Advanced at old new answer → GoesNearer at old new → Follows (replicate 1 (at + 1)) old new
follows_one old new at answer good inside adv nearer = record {
  good = adv.good;
  same = adv.turn.0;
  run = (entries_of (log_of new), left_in (db_of new), adv.turn.1, takes_turn old new at answer good inside adv nearer, (refl, refl));
}

pub follows_turn : (n at : ℕ) (answer : TurnOut) (a b c : State) → Follows (replicate n (at + 1)) a b → at < length b.sessions.items → Advanced at b c answer → GoesNearer at b c → Follows (replicate (n + 1) (at + 1)) a c
follows_turn n at answer a b c f inside adv nearer =
    subst (λ xs. Follows xs a c) (replicate_more n (at + 1)) (follows_then (replicate n (at + 1)) ((at + 1) ∷ []) a b c f (follows_one b c at answer f.good inside adv nearer))

-- as many sessions as before
pub many_now : (turns : List ℕ) (old new : State) → IsGood old → Follows turns old new → length new.sessions.items ≡ length old.sessions.items
many_now turns old new good f =
    let a = good.state.few in
    let b = f.good.state.few in
    let c = ap (λ (r : Setting). length r.scripts) f.same in
    omega (arith, a, b, c)

none_past : {A : Type 0} (xs : List A) (i : ℕ) → slice_get xs i ≡ None → i < length xs → ⊥
none_past [] i e lt = omega (arith, lt)
none_past (x ∷ xs) zero e lt = cc
none_past (x ∷ xs) (suc i) e lt = none_past xs i e (omega (arith, lt))

-- the first turn of a session that may go on
pub first_goes : (old new : State) (at : ℕ) (answer : TurnOut) (x : Session) → IsGood old → at < length old.sessions.items → slice_get old.sessions.items at ≡ Some x → MayGoOn x → Advanced at old new answer →
    GoesNearer at old new → GoesOn at old new
first_goes old new at answer x good inside here more adv nearer = record {
  count = 1;
  follows = follows_one old new at answer good inside adv nearer;
  told = adv.told;
  more = λ y there idle. elim (adv.idle y there idle) [
    | inl e ↦ (let done = adv.rests x here e in absurd (none_past x.script.items (length x.replies.items) done.1 (more done.0)))
    | inr e ↦ omega (arith, e)
  ];
}

-- the next ones
pub next_goes : (old mid new : State) (at : ℕ) (answer : TurnOut) (x : Session) → slice_get mid.sessions.items at ≡ Some x → (x.doing ≡ Idle → ⊥) → GoesOn at old mid → at < length mid.sessions.items →
    Advanced at mid new answer → GoesNearer at mid new → GoesOn at old new
next_goes old mid new at answer x here busy g inside adv nearer =
    let same = g.follows.same in
    let told : told_count (run_is old) (at + 1) (log_of mid) ≤ told_count (run_is old) (at + 1) (log_of new) =
    subst (λ r. told_count r (at + 1) (log_of mid) ≤ told_count r (at + 1) (log_of new)) same adv.told in
    let before = g.told in
    record {
      count = g.count + 1;
      follows = follows_turn g.count at answer old mid new g.follows inside adv nearer;
      told = omega (arith, told, before);
      more = λ y there idle. elim (adv.idle y there idle) [
        | inl e ↦ absurd (busy (adv.rests x here e).0)
        | inr e ↦ (let f : told_count (run_is old) (at + 1) (log_of new) ≡ told_count (run_is old) (at + 1) (log_of mid) + 1 =
            subst (λ r. told_count r (at + 1) (log_of new) ≡ told_count r (at + 1) (log_of mid) + 1) same e in omega (arith, f, before))
      ];
    }

pub statement_ends : (old new : State) (at : ℕ) (x : Session) → slice_get new.sessions.items at ≡ Some x → x.doing ≡ Idle → GoesOn at old new → EndsStatement at old new
statement_ends old new at x here idle g = record {
  count = g.count;
  follows = g.follows;
  told = g.more x here idle;
  idle = λ y there. (let same = get_same new.sessions.items at x y here there in subst (λ (z : Session). z.doing ≡ Idle) same idle);
}

idle_or : (d : Doing) → (d ≡ Idle) ⊎ (started_of d ≡ 1)
idle_or Idle = inl refl
idle_or (Changing next later own reply) = inr refl
idle_or (Ending reply) = inr refl
idle_or Undoing = inr refl
idle_or (Checking check) = inr refl

-- fewer statements are left
pub less_unanswered : (mid new : State) (at : ℕ) (x y : Session) → IsGood mid → slice_get mid.sessions.items at ≡ Some x → slice_get new.sessions.items at ≡ Some y → MayGoOn x → EndsStatement at mid new →
    unanswered (slice_get new.sessions.items at) < unanswered (slice_get mid.sessions.items at)
less_unanswered mid new at x y good here there more e =
    let a = ap unanswered here in
    let b = ap unanswered there in
    let mine = good.state.each at x here in
    let now = e.follows.good.state.each at y there in
    let script : y.script.items ≡ x.script.items = sym now.script_is ∙ ap (λ (r : Setting). script_of r.scripts (at + 1)) e.follows.same ∙ mine.script_is in
    let size = ap length script in
    let told_x = replies_told (run_is mid) (log_of mid) (at + 1) x mine in
    let told_y = told_now mid new at y e.follows.good e.follows.same there in
    let told = e.told in
    let room = (good.each_room at x here).busy in
    let less : length x.replies.items < length x.script.items = elim (idle_or x.doing) [ inl idle ↦ more idle | inr started ↦ omega (arith, room, started) ] in
    omega (arith, a, b, size, told_x, told_y, told, less)

pub statements_follow : (old mid new : State) (at n : ℕ) → Follows (replicate n (at + 1)) old mid → EndsStatement at mid new → (m : ℕ) × Follows (replicate m (at + 1)) old new
statements_follow old mid new at n f e = (n + e.count, subst (λ xs. Follows xs old new) (replicate_then n e.count (at + 1)) (follows_then (replicate n (at + 1)) (replicate e.count (at + 1)) old mid new f e.follows))

-- a session whose script is done
pub session_done : (st : State) (at : ℕ) (x : Session) → IsGood st → slice_get st.sessions.items at ≡ Some x → IsDoneSession x → IsDone (run_is st) (at + 1) (log_of st)
session_done st at x good here done =
    let run = run_is st in
    let log = log_of st in
    let mine = good.state.each at x here in (
      subst (IsAt run log (at + 1) (length x.replies.items + 1) x.tran (progress_of run (at + 1) log)) done.0 mine.doing_is,
      ap (λ script. slice_get script (told_count run (at + 1) log)) mine.script_is ∙ ap (slice_get x.script.items) (replies_told run log (at + 1) x mine) ∙ done.1,
    )

pub session_ends : (old new : State) (at n : ℕ) (x : Session) → Follows (replicate n (at + 1)) old new → slice_get new.sessions.items at ≡ Some x → IsDoneSession x → EndsSession at old new
session_ends old new at n x f here done = record {
  count = n;
  follows = f;
  done = subst (λ r. IsDone r (at + 1) (log_of new)) f.same (session_done new at x f.good here done);
}

-- what a turn leaves of legality, read backwards
legal_before : (run : Setting) (s : ℕ) (old new : List Entry) → Turn run s old new → IsLegal run (items_of new) → IsLegal run (items_of old)
legal_before run s old new (Rests none e) legal = subst (λ l. IsLegal run (items_of l)) e legal
legal_before run s old new (Appends x may e) legal = (subst (λ l. IsLegal run (items_of l)) e legal).1
legal_before run s old new (EndsAtOnce index may e) legal = (subst (λ l. IsLegal run (items_of l)) e legal).1.1
legal_before run s old new (Goes index checking e) legal = subst (λ l. IsLegal run (items_of l)) e legal
legal_before run s old new (Marks index checking first e) legal = subst (λ l. IsLegal run (items_of l)) e legal

run_legal : (run : Setting) (turns : List ℕ) (old new : List Entry) → Run run old turns new → IsLegal run (items_of new) → IsLegal run (items_of old)
run_legal run [] old new e legal = subst (λ l. IsLegal run (items_of l)) e legal
run_legal run (s ∷ turns) old new h legal = legal_before run s old h.0 h.1 (run_legal run turns h.0 new h.2 legal)

-- a turn of one session leaves another where it stands
turn_other : (run : Setting) (s t : ℕ) (old new : List Entry) → IsStart run → 0 < s → (s ≡ t → ⊥) → IsLegal run (items_of old) → Turn run s old new →
    progress_of run t (items_of new) ≡ progress_of run t (items_of old)
turn_other run s t old new start above differ legal (Rests none e) = ap (λ l. progress_of run t (items_of l)) e
turn_other run s t old new start above differ legal (Appends x may e) =
    ap (λ l. progress_of run t (items_of l)) e ∙ progress_other run (items_of old) s t x (steps_of run (items_of old) s x start legal above may).belongs differ
turn_other run s t old new start above differ legal (EndsAtOnce index may e) =
    ap (λ l. progress_of run t (items_of l)) e ∙ progress_other run (snap index ∷ items_of old) s t (ended index) refl differ ∙ progress_other run (items_of old) s t (snap index) refl differ
  where
    snap : ℕ → Record
    snap index = Snap s index

    ended : ℕ → Record
    ended index = CheckEnd s index 3
turn_other run s t old new start above differ legal (Goes index checking e) = ap (λ l. progress_of run t (items_of l)) e
turn_other run s t old new start above differ legal (Marks index checking first e) = ap (λ l. progress_of run t (items_of l)) e

run_other : (run : Setting) (n s t : ℕ) (old new : List Entry) → IsStart run → 0 < s → (s ≡ t → ⊥) → IsLegal run (items_of new) → Run run old (replicate n s) new →
    progress_of run t (items_of new) ≡ progress_of run t (items_of old)
run_other run zero s t old new start above differ legal e = ap (λ l. progress_of run t (items_of l)) e
run_other run (suc n) s t old new start above differ legal h =
    let mid = run_legal run (replicate n s) h.0 new h.2 legal in
    run_other run n s t h.0 new start above differ legal h.2 ∙ turn_other run s t old h.0 start above differ (legal_before run s old h.0 h.1 mid) h.1

done_stays : (run : Setting) (s : ℕ) (log more : List Record) → progress_of run s more ≡ progress_of run s log → IsDone run s log → IsDone run s more
done_stays run s log more same done = (
  ap (λ (p : Progress). p.due) same ∙ done.0,
  ap (λ (p : Progress). slice_get (script_of run.scripts s) (length p.told)) same ∙ done.1,
)

rest_more : (s n : ℕ) (counts : List ℕ) → rest_from s (counts ++ n ∷ []) ≡ rest_from s counts ++ replicate n (s + length counts)
rest_more s n [] = append-nil (replicate n s) ∙ ap (replicate n) (omega arith)
rest_more s n (c ∷ counts) =
    let e : s + 1 + length counts ≡ s + length (c ∷ counts) = omega arith in
    ap (λ xs. replicate c s ++ xs) (rest_more (s + 1) n counts ∙ ap (λ m. rest_from (s + 1) counts ++ replicate n m) e)
    ∙ sym (append_assoc (replicate c s) (rest_from (s + 1) counts) (replicate n (s + length (c ∷ counts))))

-- one session more is at its end
pub more_end : (old mid new : State) (at : ℕ) → IsGood old → EndsFirst at old mid → EndsSession at mid new → EndsFirst (at + 1) old new
more_end old mid new at good f e =
    let run = run_is old in
    let place : 1 + length f.counts ≡ at + 1 = (let a = f.all in omega (arith, a)) in
    let follows : Follows (rest_from 1 (f.counts ++ e.count ∷ [])) old new =
    subst (λ xs. Follows xs old new) (sym (rest_more 1 e.count f.counts ∙ ap (λ m. rest_from 1 f.counts ++ replicate e.count m) place))
    (follows_then (rest_from 1 f.counts) (replicate e.count (at + 1)) old mid new f.follows e.follows) in
    let part : Run run (entries_of (log_of mid)) (replicate e.count (at + 1)) (entries_of (log_of new)) =
    subst (λ r. Run r (entries_of (log_of mid)) (replicate e.count (at + 1)) (entries_of (log_of new))) f.follows.same
    (within_run (run_is mid) (left_in (db_of mid)) (entries_of (log_of mid)) (replicate e.count (at + 1)) (left_in (db_of new)) (entries_of (log_of new)) e.follows.run) in
    let legal : IsLegal run (items_of (entries_of (log_of new))) =
    subst (IsLegal run) (sym (items_entries (log_of new))) (subst (λ r. IsLegal r (log_of new)) follows.same follows.good.state.legal) in
    record {
      counts = f.counts ++ e.count ∷ [];
      all = length_push f.counts e.count ∙ ap (λ n. n + 1) f.all;
      follows = follows;
      done = λ s above le. elim (last_or s at le) [
        | inl low ↦
            let differ : at + 1 ≡ s → ⊥ = λ same. omega (arith, same, low) in
            let other = run_other run e.count (at + 1) s (entries_of (log_of mid)) (entries_of (log_of new)) good.state.start (omega arith) differ legal part in
            done_stays run s (log_of mid) (log_of new) (ap (progress_of run s) (sym (items_entries (log_of new))) ∙ other ∙ ap (progress_of run s) (items_entries (log_of mid))) (f.done s above low)
        | inr same ↦ subst (λ m. IsDone run m (log_of new)) (sym same) (subst (λ r. IsDone r (at + 1) (log_of new)) f.follows.same e.done)
      ];
    }
  where
    last_or : (s n : ℕ) → s ≤ n + 1 → (s ≤ n) ⊎ (s ≡ n + 1)
    last_or zero n le = inl (omega arith)
    last_or (suc m) zero le = inr (omega (arith, le))
    last_or (suc m) (suc n) le = elim (last_or m n (omega (arith, le))) [ inl a ↦ inl (omega (arith, a)) | inr e ↦ inr (omega (arith, e)) ]

-- the script is done, and all turns that are left rest
pub rest_turns : (old mid new : State) (at n count : ℕ) (answer : TurnOut) → Follows (replicate n (at + 1)) old mid → at < length mid.sessions.items → Advanced at mid new answer →
    GoesNearer at mid new → answer ≡ out.Finished → n < count → RunsTurns at count old new
rest_turns old mid new at n count answer f inside adv nearer finished low =
    let says = by_answer answer finished adv.says in
    let now = follows_turn n at answer old mid new f inside adv nearer in
    let none : next_of (run_is old) (at + 1) (items_of (entries_of (log_of new))) ≡ None =
    ap (next_of (run_is old) (at + 1)) (items_entries (log_of new) ∙ says.1) ∙ subst (λ r. next_of r (at + 1) (log_of mid) ≡ None) f.same says.0 in
    let rest : count - (n + 1) + (n + 1) ≡ count = omega (arith, low) in
    let total : n + 1 + (count - (n + 1)) ≡ count = omega (arith, low) in
    subst (λ m. RunsTurns at m old new) total
    (subst (λ xs. Follows xs old new) (replicate_then (n + 1) (count - (n + 1)) (at + 1)) (record {
      good = now.good;
      same = now.same;
      run = within_then (run_is old) (replicate (n + 1) (at + 1)) (replicate (count - (n + 1)) (at + 1)) (left_in (db_of old)) (left_in (db_of new)) (left_in (db_of new))
          (entries_of (log_of old)) (entries_of (log_of new)) (entries_of (log_of new)) now.run (rests (run_is old) (count - (n + 1)) (at + 1) (left_in (db_of new)) (entries_of (log_of new)) none);
    }))
  where
    by_answer : (a : TurnOut) → a ≡ out.Finished → SaysOut (run_is mid) (at + 1) (log_of mid) (log_of new) a → (next_of (run_is mid) (at + 1) (log_of mid) ≡ None) × (log_of new ≡ log_of mid)
    by_answer out.Finished e says = says
    by_answer (out.Answered index) e says = absurd (cc)
    by_answer out.Checking e says = absurd (cc)
    by_answer out.Moved e says = absurd (cc)

-- one line of a schedule more
pub line_follows : (old mid new : State) (k : ℕ) (schedule : List (ℕ × ℕ)) (p : ℕ × ℕ) → slice_get schedule k ≡ Some p → 0 < p.0 → RunsSchedule (take k schedule) old mid → RunsTurns (p.0 - 1) p.1 mid new →
    RunsSchedule (take (k + 1) schedule) old new
line_follows old mid new k schedule p here above f g =
    let s : p.0 - 1 + 1 ≡ p.0 = omega (arith, above) in
    subst (λ xs. Follows xs old new) (sym (turns_more k schedule p here))
    (follows_then (turns_of (take k schedule)) (replicate p.1 p.0) old mid new f (subst (λ m. Follows (replicate p.1 m) mid new) s g))
  where
    turns_more : (k : ℕ) (schedule : List (ℕ × ℕ)) (p : ℕ × ℕ) → slice_get schedule k ≡ Some p → turns_of (take (k + 1) schedule) ≡ turns_of (take k schedule) ++ replicate p.1 p.0
    turns_more k [] p e = absurd (cc)
    turns_more zero (q ∷ schedule) p e = (let same : q ≡ p = cc in append-nil (replicate q.1 q.0) ∙ ap (λ (r : ℕ × ℕ). replicate r.1 r.0) same)
    turns_more (suc k) (q ∷ schedule) p e =
        let c : suc k + 1 ≡ suc (k + 1) = omega arith in
        ap (λ m. turns_of (take m (q ∷ schedule))) c ∙ ap (λ xs. replicate q.1 q.0 ++ xs) (turns_more k schedule p e)
        ∙ sym (append_assoc (replicate q.1 q.0) (turns_of (take k schedule)) (replicate p.1 p.0))

pub get_pair : (xs : List (ℕ × ℕ)) (k : ℕ) (d : ℕ × ℕ) → k < length xs → slice_get xs k ≡ Some (get_or xs k d)
get_pair [] k d lt = absurd (omega (arith, lt))
get_pair (x ∷ xs) zero d lt = refl
get_pair (x ∷ xs) (suc k) d lt = get_pair xs k d (omega (arith, lt))
