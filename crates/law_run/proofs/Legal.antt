-- A legal history is sound, and each session is in the middle of a statement or of none.
use Rattle.std.proofs.Common.{◌≡◌, ℕ, ◌+◌, ◌<◌, true, false, eqb, List, [], ◌∷◌, ◌++◌, length, Option, Some, None, inl, inr, refl, sym, ap, ◌∙◌, subst, arith, ◌⊎◌}
use Rattle.std.specs.Prelude.{if◌then◌else◌, slice_get}
use Rattle.std.proofs.lemmas.Bool.{cond_both, eqb-false, cases_eq, eq-eqb}
use Rattle.spec_file.specs.declared.data.Resource.{Resource}
use Rattle.spec_log.specs.declared.item.Record.{Record}
use Rattle.spec_log.specs.declared.item.Record.TheVariants.{Start, Undo, Commit, Abort, CheckEnd}
use Rattle.spec_log.specs.Log.{has_undone, greatest_of, left_of}
use Rattle.spec_log.specs.Limits.{passes_limit}
use Rattle.spec_log.specs.Images.{damaged_page}
use Rattle.spec_script.specs.declared.statement.Statement.{Statement}
use Rattle.spec_script.specs.declared.reply.Reply.{Reply}
use Rattle.spec_script.specs.Lines.{is_statement}
use Rattle.spec_plan.specs.declared.plan.Planned.{Planned}
use Rattle.spec_plan.specs.Planned.{planned_size}
use Rattle.spec_plan.specs.Refusals.{is_open, nothing_to_commit, nothing_to_undo, log_full}
use Rattle.spec_words.specs.Takes.{takes_at, changes_at}
use Rattle.spec_words.specs.Views.{End, Gives, Stops}
use Rattle.spec_statements.specs.Statements.{TransactionWord, Begins, Commits, RollsBack, StatementKind, Transacts, Plans, Checks, kind_of}
use Rattle.spec_run.specs.OfBytes.{AllPutBytes}
use Rattle.spec_run.specs.Shapes.{Refused as Refusing, Opening, Reading, Writing, Committing, RollingBack, plain_start, change_item, tran_to_write}
use Rattle.spec_run.specs.Sessions.{session_of}
use Rattle.spec_run.specs.Begun.{Setting, Begun, Becoming, shape_of, view_at, surely, with_memory, refused, by_word, by_changes, by_taken, by_end, by_damage, by_kind, begun_by, begun}
use Rattle.spec_script.specs.declared.reply.Reply.TheVariants.{Done, Refused}
use Rattle.spec_run.specs.Progress.{Progress, progress_of, at_work, with_statement, script_of, moved, work_of, first_of, MayCome}
use Rattle.spec_run.specs.Turns.{IsLegal}
use Rattle.law_run.specs.Laws.{IsStart, LegalIsSound, LegalPutsBytes, NextBelongs}
use Rattle.law_run.specs.Doing.{change_items, abort_items}
use Rattle.law_run.proofs.Doing.{Idle, Changing, Undoing, Checking}
use Rattle.law_run.proofs.Doing.{Owns, Opens, IsDoing, StepsTo}
use Rattle.law_run.proofs.Keeps.{other_session}
use Rattle.law_run.proofs.Steps.{IsSoundIn, change_steps, commit_steps, abort_steps, undo_steps, end_steps}
use Rattle.law_run.proofs.Begins.{Begins as MayBegin, opens_begins, single_steps, committing_steps, rolling_steps, writing_steps, snap_steps}
use Rattle.law_net.specs.GoodViews.{IfGives}
use Rattle.law_run.proofs.Planned.{EndsGood, KindEndsGood, statement_ends_good}
use Rattle.law_run.proofs.Written.{IsWritable, end_is_writable, writes_for, few_changes, is_written}

some_same : (x y : Record) → Some x ≡ Some y → x ≡ y
some_same x y e = cc

none_some : (x : Record) → None ≡ Some x → ⊥
none_some x e = cc

-- a session with a statement begun
abbrev pub with_begun : Progress → Begun → Progress
with_begun p b = record { told = p.told; due = b.items; telling = b.telling; want = b.want; tran = p.tran }

-- whatever comes of the statement leaves the session right
abbrev pub BeginSteps : Setting → List Record → ℕ → Progress → Begun → Type 0
BeginSteps run log s p b = (x : Record) → MayCome (with_begun p b) x → StepsTo run log s (with_begun p b) x

abbrev pub BeginsTo : Setting → List Record → ℕ → ℕ → Progress → Becoming → Type 0
BeginsTo run log s i p b = BeginSteps run log s p (begun_by s i p.tran b)

-- the first of some items, or nothing else
surely_steps : (run : Setting) (log : List Record) (s : ℕ) (w : Progress) (y : Record) (rest : List Record) → w.due ≡ y ∷ rest → w.want ≡ None → StepsTo run log s w y →
    (x : Record) → MayCome w x → StepsTo run log s w x
surely_steps run log s w y rest due want st x (inl e) =
    subst (StepsTo run log s w) (some_same y x (sym (ap first_of due) ∙ e)) st
surely_steps run log s w y rest due want st x (inr e) = absurd (none_some x (sym want ∙ e))

either_steps : (run : Setting) (log : List Record) (s : ℕ) (w : Progress) (y z : Record) (rest : List Record) → w.due ≡ y ∷ rest → w.want ≡ Some z → StepsTo run log s w y → StepsTo run log s w z →
    (x : Record) → MayCome w x → StepsTo run log s w x
either_steps run log s w y z rest due want st short x (inl e) =
    subst (StepsTo run log s w) (some_same y x (sym (ap first_of due) ∙ e)) st
either_steps run log s w y z rest due want st short x (inr e) = subst (StepsTo run log s w) (some_same z x (sym want ∙ e)) short

-- one Start, surely or where memory doesn't run out
one_start : (run : Setting) (log : List Record) (s i u number : ℕ) (p : Progress) (b : Begun) → 0 < s → 0 < i → MayBegin run log s u →
    b.items ≡ plain_start s i u number ∷ [] → b.want ≡ None → BeginSteps run log s p b
one_start run log s i u number p b hs hi begins items want =
    surely_steps run log s (with_begun p b) (plain_start s i u number) [] items want (single_steps run log s i u number (with_begun p b) hs hi begins (inl items))

start_or_short : (run : Setting) (log : List Record) (s i u number : ℕ) (p : Progress) (b : Begun) → 0 < s → 0 < i → MayBegin run log s u →
    b.items ≡ plain_start s i u number ∷ [] → b.want ≡ Some (plain_start s i u 701) → BeginSteps run log s p b
start_or_short run log s i u number p b hs hi begins items want =
    either_steps run log s (with_begun p b) (plain_start s i u number) (plain_start s i u 701) [] items want
    (single_steps run log s i u number (with_begun p b) hs hi begins (inl items))
    (single_steps run log s i u 701 (with_begun p b) hs hi begins (inr refl))

owned : (run : Setting) (log : List Record) (s t : ℕ) → Opens run log s t → (t ≡ 0 → ⊥) → Owns run log s t × (has_undone log t ≡ false)
owned run log s t (inl none) n = absurd (n none)
owned run log s t (inr o) n = o

-- a statement that writes
changes_steps : (run : Setting) (log : List Record) (s i : ℕ) (p : Progress) (reply : Reply) (takes : List Resource) (changes : List Planned) → IsSoundIn run log →
    Opens run log s p.tran → 0 < s → 0 < i → IsWritable run log p.tran takes changes → BeginsTo run log s i p (by_changes (log ++ run.opened) p.tran reply takes changes)
changes_steps run log s i p reply takes changes sound opens hs hi writable =
    let g = log ++ run.opened in
    let t = p.tran in
    let u = tran_to_write g t in
    let whole = with_memory (Writing u takes changes (eqb t 0)) reply in
    cond_both (passes_limit g u (length changes) (planned_size changes)) (refused t log_full) whole (BeginsTo run log s i p)
    (λ e. start_or_short run log s i t 9002 p (begun_by s i t (refused t log_full)) hs hi (opens_begins run log s t opens) refl refl)
    (λ e.
    let few = few_changes g u (length changes) (planned_size changes) e in
    let written = is_written run log s i t u takes changes sound opens (writes_for g t) hs hi few writable in
    let x = Start s i (record { 0 = u }) 0 (length changes) (planned_size changes) takes in
    either_steps run log s (with_begun p (begun_by s i t whole)) x (plain_start s i t 701) (change_items u changes (eqb t 0)) refl refl
    (writing_steps run log s i u (planned_size changes) takes changes (eqb t 0) (with_begun p (begun_by s i t whole)) written.started written.above written.form written.planned refl)
    (single_steps run log s i t 701 (with_begun p (begun_by s i t whole)) hs hi (opens_begins run log s t opens) (inr refl)))

-- by the end of its plan
end_steps_of : (run : Setting) (log : List Record) (s i : ℕ) (p : Progress) (e : End Reply) → IsSoundIn run log → Opens run log s p.tran → 0 < s → 0 < i →
    IfGives (EndsGood run log p.tran) e → BeginsTo run log s i p (by_end (log ++ run.opened) p.tran e)
end_steps_of run log s i p (Stops refusal) sound opens hs hi good =
    start_or_short run log s i p.tran refusal.number p (begun_by s i p.tran (refused p.tran refusal)) hs hi (opens_begins run log s p.tran opens) refl refl
end_steps_of run log s i p (Gives reply view) sound opens hs hi good = by_list view.taken
  where
    by_list : (taken : List Resource) → BeginsTo run log s i p (by_taken (log ++ run.opened) p.tran reply view taken)
    by_list [] =
        start_or_short run log s i p.tran 0 p (begun_by s i p.tran (with_memory (Reading p.tran) reply)) hs hi (opens_begins run log s p.tran opens) refl refl
    by_list (r ∷ taken) =
        changes_steps run log s i p reply (takes_at view) (changes_at view) sound opens hs hi (end_is_writable run log p.tran view good.0 good.1)

damage_steps : (run : Setting) (log : List Record) (s i : ℕ) (p : Progress) (damage : Option ℕ) → Opens run log s p.tran → 0 < s → 0 < i →
    BeginsTo run log s i p (by_damage run log damage)
damage_steps run log s i p None opens hs hi =
    surely_steps run log s (with_begun p (begun_by s i p.tran (by_damage run log None))) _ _ refl refl
    (snap_steps run log s i 0 (with_begun p (begun_by s i p.tran (by_damage run log None))) hs hi (omega arith) opens refl)
damage_steps run log s i p (Some q) opens hs hi =
    surely_steps run log s (with_begun p (begun_by s i p.tran (by_damage run log (Some q)))) _ _ refl refl
    (snap_steps run log s i 2 (with_begun p (begun_by s i p.tran (by_damage run log (Some q)))) hs hi (omega arith) opens refl)

word_steps : (run : Setting) (log : List Record) (s i : ℕ) (p : Progress) (word : TransactionWord) → Opens run log s p.tran → 0 < s → 0 < i →
    BeginsTo run log s i p (by_word (log ++ run.opened) p.tran word)
word_steps run log s i p Begins opens hs hi =
    let fresh = greatest_of (log ++ run.opened) + 1 in
    cond_both (eqb p.tran 0) (surely (Opening fresh) Done) (surely (Refusing p.tran 60001) (Refused is_open)) (BeginsTo run log s i p)
    (λ e. one_start run log s i fresh 0 p (begun_by s i p.tran (surely (Opening fresh) Done)) hs hi (inr (inr refl)) refl refl)
    (λ e. one_start run log s i p.tran 60001 p (begun_by s i p.tran (surely (Refusing p.tran 60001) (Refused is_open))) hs hi (opens_begins run log s p.tran opens) refl refl)
word_steps run log s i p Commits opens hs hi =
    cond_both (eqb p.tran 0) (surely (Refusing p.tran 3902) (Refused nothing_to_commit)) (surely (Committing p.tran) Done) (BeginsTo run log s i p)
    (λ e. one_start run log s i p.tran 3902 p (begun_by s i p.tran (surely (Refusing p.tran 3902) (Refused nothing_to_commit))) hs hi (opens_begins run log s p.tran opens) refl refl)
    (λ e.
    let o = owned run log s p.tran opens (eqb-false p.tran 0 e) in
    let w = with_begun p (begun_by s i p.tran (surely (Committing p.tran) Done)) in
    surely_steps run log s w (plain_start s i p.tran 0) (change_items p.tran [] true) refl refl
    (committing_steps run log s i p.tran w hs hi o.0 o.1 refl))
word_steps run log s i p RollsBack opens hs hi =
    let left = left_of p.tran (log ++ run.opened) in
    cond_both (eqb p.tran 0) (surely (Refusing p.tran 3903) (Refused nothing_to_undo)) (surely (RollingBack p.tran left) Done) (BeginsTo run log s i p)
    (λ e. one_start run log s i p.tran 3903 p (begun_by s i p.tran (surely (Refusing p.tran 3903) (Refused nothing_to_undo))) hs hi (opens_begins run log s p.tran opens) refl refl)
    (λ e.
    let o = owned run log s p.tran opens (eqb-false p.tran 0 e) in
    let w = with_begun p (begun_by s i p.tran (surely (RollingBack p.tran left) Done)) in
    surely_steps run log s w (plain_start s i p.tran 0) (abort_items p.tran left) refl refl
    (rolling_steps run log s i p.tran w hs hi o.0 o.1 refl))

kind_steps : (run : Setting) (log : List Record) (s i : ℕ) (p : Progress) (kind : StatementKind) → IsSoundIn run log → Opens run log s p.tran → 0 < s → 0 < i →
    KindEndsGood run log p.tran kind → BeginsTo run log s i p (by_kind run log p.tran kind)
kind_steps run log s i p (Transacts word) sound opens hs hi good = word_steps run log s i p word opens hs hi
kind_steps run log s i p (Plans plan) sound opens hs hi good = end_steps_of run log s i p (plan (view_at run log p.tran)).ending sound opens hs hi good
kind_steps run log s i p Checks sound opens hs hi good = damage_steps run log s i p (damaged_page run.opened run.image) opens hs hi

pub begun_steps : (run : Setting) (log : List Record) (s i : ℕ) (p : Progress) (st : Statement) → IsStart run → IsSoundIn run log → AllPutBytes (log ++ run.opened) →
    is_statement st ≡ true → Opens run log s p.tran → 0 < s → 0 < i → BeginSteps run log s p (begun run log s i p.tran st)
begun_steps run log s i p st start sound puts proper opens hs hi =
    kind_steps run log s i p (kind_of (shape_of run) st) sound opens hs hi (statement_ends_good run log p.tran st start sound puts proper)

-- an idle session goes on with its next statement, if it has one
idle_steps : (run : Setting) (log : List Record) (s : ℕ) (p : Progress) → IsStart run → IsSoundIn run log → AllPutBytes (log ++ run.opened) → 0 < s → p.due ≡ [] → p.want ≡ None → Opens run log s p.tran →
    (x : Record) → MayCome (at_work run log s p p.due) x → StepsTo run log s (at_work run log s p p.due) x
idle_steps run log s p start sound puts hs due want opens x may =
    subst (λ d. MayCome (at_work run log s p d) x → StepsTo run log s (at_work run log s p d) x) (sym due) (by_statement (slice_get (script_of run.scripts s) (length p.told)) refl) may
  where
    by_statement : (o : Option Statement) → slice_get (script_of run.scripts s) (length p.told) ≡ o → MayCome (with_statement run log s p o) x →
        StepsTo run log s (with_statement run log s p o) x
    by_statement None is (inl e) = absurd (none_some x (sym (ap first_of due) ∙ e))
    by_statement None is (inr e) = absurd (none_some x (sym want ∙ e))
    by_statement (Some st) is m = begun_steps run log s (length p.told + 1) p st start sound puts (start.proper s (length p.told) st is) opens hs (omega arith) x m

-- a session that owes items works at these
busy_steps : (run : Setting) (log : List Record) (s : ℕ) (p : Progress) (y : Record) (rest : List Record) → p.due ≡ y ∷ rest →
    ((x : Record) → MayCome p x → StepsTo run log s p x) → (x : Record) → MayCome (at_work run log s p p.due) x → StepsTo run log s (at_work run log s p p.due) x
busy_steps run log s p y rest due all x may =
    subst (λ d. MayCome (at_work run log s p d) x → StepsTo run log s (at_work run log s p d) x) (sym due) (all x) may

pub comes_steps : (run : Setting) (log : List Record) (s : ℕ) (p : Progress) → IsStart run → IsSoundIn run log → AllPutBytes (log ++ run.opened) → 0 < s → IsDoing run log s p →
    (x : Record) → MayCome (at_work run log s p p.due) x → StepsTo run log s (at_work run log s p p.due) x
comes_steps run log s p start sound puts hs (Idle due want opens) = idle_steps run log s p start sound puts hs due want opens
comes_steps run log s p start sound puts hs (Changing [] false due want owns still planned) = idle_steps run log s p start sound puts hs due want (inr (owns, still))
comes_steps run log s p start sound puts hs (Changing [] true due want owns still planned) =
    busy_steps run log s p (Commit (record { 0 = p.tran })) [] due
    (surely_steps run log s p (Commit (record { 0 = p.tran })) [] due want (commit_steps run log s p due owns still))
comes_steps run log s p start sound puts hs (Changing (c ∷ changes) own due want owns still planned) =
    busy_steps run log s p (change_item p.tran c) (change_items p.tran changes own) due
    (surely_steps run log s p (change_item p.tran c) (change_items p.tran changes own) due want (change_steps run log s p c changes own sound due owns still planned))
comes_steps run log s p start sound puts hs (Undoing due want owns) = by_left (left_of p.tran (log ++ run.opened)) refl
  where
    by_left : (left : List (ℕ × Record)) → left_of p.tran (log ++ run.opened) ≡ left →
        (x : Record) → MayCome (at_work run log s p p.due) x → StepsTo run log s (at_work run log s p p.due) x
    by_left [] e =
        let now : p.due ≡ abort_items p.tran [] = due ∙ ap (abort_items p.tran) e in
        busy_steps run log s p (Abort (record { 0 = p.tran })) [] now
        (surely_steps run log s p (Abort (record { 0 = p.tran })) [] now want (abort_steps run log s p now owns e))
    by_left (q ∷ others) e =
        let now : p.due ≡ abort_items p.tran (q ∷ others) = due ∙ ap (abort_items p.tran) e in
        busy_steps run log s p (Undo (record { 0 = p.tran }) (record { 0 = q.0 })) (abort_items p.tran others) now
        (surely_steps run log s p (Undo (record { 0 = p.tran }) (record { 0 = q.0 })) (abort_items p.tran others) now want (undo_steps run log s p q others now owns e))
comes_steps run log s p start sound puts hs (Checking index outcome due want forms opens) =
    busy_steps run log s p (CheckEnd s index outcome) [] due
    (either_steps run log s p (CheckEnd s index outcome) (CheckEnd s index 3) [] due want
    (end_steps run log s p index outcome forms.0 (inl due) opens)
    (end_steps run log s p index 3 forms.1 (inr refl) opens))

-- a legal history's log is sound and puts bytes, and every session is doing something
pub record IsRight (run : Setting) (log : List Record) : Type 0 where
  pub sound : IsSoundIn run log
  pub puts : AllPutBytes (log ++ run.opened)
  pub doing : (s : ℕ) → IsDoing run log s (progress_of run s log)

pub right_at_first : (run : Setting) → IsStart run → IsRight run []
right_at_first run start = record { sound = (start.forms, start.rules); puts = start.items; doing = λ s. Idle refl refl (inl refl) }

pub right_after : (run : Setting) (log : List Record) (s : ℕ) (x : Record) → IsStart run → IsRight run log → 0 < s → MayCome (work_of run s log) x → IsRight run (x ∷ log)
right_after run log s x start right hs may =
    let p = progress_of run s log in
    let st = comes_steps run log s p start right.sound right.puts hs (right.doing s) x may in
    let own : progress_of run s (x ∷ log) ≡ moved (at_work run log s p p.due) x =
    ap (λ b. if b then moved (at_work run log s p p.due) x else p) (eq-eqb (session_of log x) s st.belongs) in
    record {
      sound = (st.form, st.follows, st.fits, right.sound);
      puts = (st.puts, right.puts);
      doing = λ other. elim (cases_eq s other) [
        | inl e ↦ subst (λ o. IsDoing run (x ∷ log) o (progress_of run o (x ∷ log))) e (subst (IsDoing run (x ∷ log) s) (sym own) st.after)
        | inr differ ↦ other_session run log x s other right.sound st.form st.follows st.belongs st.own differ (right.doing other)
      ];
    }

pub legal_right : (run : Setting) (log : List Record) → IsStart run → IsLegal run log → IsRight run log
legal_right run [] start legal = right_at_first run start
legal_right run (x ∷ log) start legal = right_after run log legal.0.0 x start (legal_right run log start legal.1) legal.0.1.0 legal.0.2

pub legal_is_sound : LegalIsSound
legal_is_sound run log start legal = (legal_right run log start legal).sound

pub legal_puts_bytes : LegalPutsBytes
legal_puts_bytes run log start legal = (legal_right run log start legal).puts

pub next_belongs : NextBelongs
next_belongs run log s x start legal hs may =
    let right = legal_right run log start legal in
    (comes_steps run log s (progress_of run s log) start right.sound right.puts hs (right.doing s) x may).belongs

-- the open transaction of a session
pub doing_opens : (run : Setting) (log : List Record) (s : ℕ) (p : Progress) → IsDoing run log s p → (p.tran ≡ 0) ⊎ Owns run log s p.tran
doing_opens run log s p (Idle due want (inl none)) = inl none
doing_opens run log s p (Idle due want (inr o)) = inr o.0
doing_opens run log s p (Changing changes own due want owns still planned) = inr owns
doing_opens run log s p (Undoing due want owns) = inr owns
doing_opens run log s p (Checking index outcome due want forms (inl none)) = inl none
doing_opens run log s p (Checking index outcome due want forms (inr o)) = inr o.0
