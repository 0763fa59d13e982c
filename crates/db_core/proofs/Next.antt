-- The next item of a session, and what the core keeps of the session behind it.
use Rattle.std.proofs.Common.{◌≡◌, ℕ, ◌+◌, ◌<◌, Bool, false, List, [], ◌∷◌, ◌++◌, length, map, reverse, Some, ◌⊎◌, inl, inr, refl, sym, ap, ◌∙◌, subst, arith}
use Rattle.std.specs.Prelude.{if◌then◌else◌, slice_get}
use Rattle.std.proofs.lemmas.Bool.{eq-eqb}
use Rattle.std.proofs.lemmas.List.{reverse-append, length-reverse}
use Rattle.spec_file.specs.declared.geometry.Geometry.{Geometry}
use Rattle.spec_log.specs.declared.item.Record.{Record}
use Rattle.spec_log.specs.declared.item.Record.TheVariants.{Undo, Commit, Abort}
use Rattle.spec_log.specs.Log.{left_of, rest_of}
use Rattle.spec_script.specs.declared.reply.Reply.{Reply}
use Rattle.spec_script.specs.declared.reply.Reply.TheVariants.{Done}
use Rattle.spec_script.specs.declared.statement.Statement.{Statement}
use Rattle.spec_plan.specs.declared.plan.Planned.{Planned}
use Rattle.spec_run.specs.Shapes.{change_item}
use Rattle.spec_run.specs.Sessions.{session_of, open_after}
use Rattle.spec_run.specs.Begun.{Setting, Telling, Answers, Tells, begun}
use Rattle.spec_run.specs.Progress.{Progress, progress_of, at_work, with_statement, script_of, is_short, moved_to, work_of, first_of, MayCome}
use Rattle.spec_run.specs.Turns.{AreTold, told_to, IsLegal}
use Rattle.law_run.specs.Laws.{IsStart}
use Rattle.law_run.specs.Doing.{change_items, abort_items}
use Rattle.law_run.proofs.Legal.{with_begun}
use Rattle.db_core.specs.declared.session.Doing.TheVariants.{Idle, Changing, Ending, Undoing}
use Rattle.db_core.specs.declared.session.Session.{Session}
use Rattle.db_core.specs.States.{whole_log, IsAt, IsOpen, IsSession}
use Rattle.db_core.proofs.Keeps.{steps_of}
use Rattle.db_core.proofs.Moves.{goes_on, ends_with}
use Rattle.db_core.proofs.Opens.{open_change, open_undo}

-- a session that owes items works at these
pub busy : (run : Setting) (log : List Record) (s : ℕ) (x : Record) (rest : List Record) → (progress_of run s log).due ≡ x ∷ rest → work_of run s log ≡ progress_of run s log
busy run log s x rest due = ap (at_work run log s (progress_of run s log)) due

pub busy_comes : (run : Setting) (log : List Record) (s : ℕ) (x : Record) (rest : List Record) → (progress_of run s log).due ≡ x ∷ rest → MayCome (work_of run s log) x
busy_comes run log s x rest due = inl (ap (λ (q : Progress). first_of q.due) (busy run log s x rest due) ∙ ap first_of due)

-- an idle session works at its next statement
pub idle_work : (run : Setting) (log : List Record) (s : ℕ) (st : Statement) → (progress_of run s log).due ≡ [] →
    slice_get (script_of run.scripts s) (length (progress_of run s log).told) ≡ Some st →
    work_of run s log ≡ with_begun (progress_of run s log) (begun run log s (length (progress_of run s log).told + 1) (progress_of run s log).tran st)
idle_work run log s st due next =
    ap (at_work run log s (progress_of run s log)) due ∙ ap (with_statement run log s (progress_of run s log)) next

-- as many replies as were told
told_length : (g : Geometry) (ts : List Telling) (rs : List Reply) → AreTold g ts rs → length ts ≡ length rs
told_length g [] [] h = refl
told_length g [] (r ∷ rs) h = elim h [ ]
told_length g (t ∷ ts) [] h = elim h [ ]
told_length g (t ∷ ts) (r ∷ rs) h = let e = told_length g ts rs h.1 in omega (arith, e)

pub told_count : (run : Setting) (log : List Record) (s : ℕ) (x : Session) → IsSession run log s x → length (progress_of run s log).told ≡ length x.replies.items
told_count run log s x mine = sym (length-reverse (progress_of run s log).told) ∙ told_length run.geometry (told_to run s log) x.replies.items mine.told

-- the same step, with what is still due as a list that isn't empty
pub goes_by : (run : Setting) (log : List Record) (s : ℕ) (x : Record) (rest : List Record) (old next : Session) → session_of log x ≡ s →
    (work_of run s log).due ≡ x ∷ rest → (rest ≡ [] → ⊥) → is_short x ≡ false → IsSession run log s old →
    next.script.items ≡ old.script.items → next.replies.items ≡ old.replies.items → next.tran ≡ open_after old.tran x →
    ((p : Progress) → p.due ≡ rest → p.telling ≡ (work_of run s log).telling → IsAt run (x ∷ log) s (length old.replies.items + 1) next.tran p next.doing) →
    (next.tran ≡ 0) ⊎ IsOpen (x ∷ whole_log run log) next.tran next.left.items next.held.items next.used →
    IsSession run (x ∷ log) s next
goes_by run log s x [] old next belongs due some whole mine script replies tran at opens = absurd (some refl)
goes_by run log s x (y ∷ rest) old next belongs due some whole mine script replies tran at opens =
    goes_on run log s x y rest old next belongs due whole mine script replies tran (at (moved_to (work_of run s log) x (y ∷ rest)) refl refl) opens

pub opens_after : (run : Setting) (log : List Record) (x : Record) (t : ℕ) (old next : Session) → old.tran ≡ t → next.tran ≡ t →
    (old.tran ≡ 0) ⊎ IsOpen (whole_log run log) old.tran old.left.items old.held.items old.used →
    (IsOpen (whole_log run log) t old.left.items old.held.items old.used → IsOpen (x ∷ whole_log run log) t next.left.items next.held.items next.used) →
    (next.tran ≡ 0) ⊎ IsOpen (x ∷ whole_log run log) next.tran next.left.items next.held.items next.used
opens_after run log x t old next before after (inl none) more = inl (after ∙ sym before ∙ none)
opens_after run log x t old next before after (inr o) more =
    inr (subst (λ u. IsOpen (x ∷ whole_log run log) u next.left.items next.held.items next.used) (sym after)
    (more (subst (λ u. IsOpen (whole_log run log) u old.left.items old.held.items old.used) before o)))

-- what a session with changes to make owes
changing_due : (run : Setting) (log : List Record) (s : ℕ) (old : Session) (c : Planned) (later : _) (own : Bool) (reply : Reply) → old.doing ≡ Changing c later own reply → IsSession run log s old →
    ((progress_of run s log).due ≡ change_item old.tran c ∷ change_items old.tran (reverse later.items) own) × ((progress_of run s log).telling ≡ Answers reply)
changing_due run log s old c later own reply doing mine =
    subst (IsAt run log s (length old.replies.items + 1) old.tran (progress_of run s log)) doing mine.doing_is

-- a change comes
pub change_comes : (run : Setting) (log : List Record) (s : ℕ) (old : Session) (c : Planned) (later : _) (own : Bool) (reply : Reply) → old.doing ≡ Changing c later own reply →
    IsSession run log s old → MayCome (work_of run s log) (change_item old.tran c)
change_comes run log s old c later own reply doing mine =
    busy_comes run log s (change_item old.tran c) (change_items old.tran (reverse later.items) own) (changing_due run log s old c later own reply doing mine).0

-- what the core keeps of the transaction behind a Change
pub record ChangeKept (log : List Record) (old next : Session) : Type 0 where
  pub script : next.script.items ≡ old.script.items
  pub tran : next.tran ≡ old.tran
  pub left : next.left.items ≡ old.left.items ++ (length log + 1) ∷ []
  pub held : next.held.items ≡ old.held.items
  pub used : next.used ≡ old.used

change_opens : (run : Setting) (log : List Record) (s : ℕ) (old next : Session) (c : Planned) → IsSession run log s old → ChangeKept (whole_log run log) old next →
    (next.tran ≡ 0) ⊎ IsOpen (change_item old.tran c ∷ whole_log run log) next.tran next.left.items next.held.items next.used
change_opens run log s old next c mine kept =
    let x = change_item old.tran c in
    opens_after run log x old.tran old next refl kept.tran mine.opens (λ o.
    subst (λ l. IsOpen (x ∷ whole_log run log) old.tran l next.held.items next.used) (sym kept.left)
    (subst (λ h. IsOpen (x ∷ whole_log run log) old.tran (old.left.items ++ (length (whole_log run log) + 1) ∷ []) h next.used) (sym kept.held)
    (subst (IsOpen (x ∷ whole_log run log) old.tran (old.left.items ++ (length (whole_log run log) + 1) ∷ []) old.held.items) (sym kept.used)
    (open_change (whole_log run log) old.tran c old.left.items old.held.items old.used o))))

-- others are left, or the Commit: what the session does next owes them
pub change_goes : (run : Setting) (log : List Record) (s : ℕ) (old next : Session) (c : Planned) (later : _) (own : Bool) (reply : Reply) →
    IsStart run → IsLegal run log → 0 < s → old.doing ≡ Changing c later own reply → IsSession run log s old →
    ChangeKept (whole_log run log) old next → next.replies.items ≡ old.replies.items →
    (change_items old.tran (reverse later.items) own ≡ [] → ⊥) →
    ((p : Progress) → p.due ≡ change_items old.tran (reverse later.items) own → p.telling ≡ Answers reply →
    IsAt run (change_item old.tran c ∷ log) s (length old.replies.items + 1) old.tran p next.doing) →
    IsSession run (change_item old.tran c ∷ log) s next
change_goes run log s old next c later own reply start legal hs doing mine kept replies some at =
    let x = change_item old.tran c in
    let rest = change_items old.tran (reverse later.items) own in
    let due = changing_due run log s old c later own reply doing mine in
    let same = busy run log s x rest due.0 in
    let st = steps_of run log s x start legal hs (busy_comes run log s x rest due.0) in
    goes_by run log s x rest old next st.belongs (ap (λ (q : Progress). q.due) same ∙ due.0) some refl mine kept.script replies kept.tran
    (λ p d tell. subst (λ t. IsAt run (x ∷ log) s (length old.replies.items + 1) t p next.doing) (sym kept.tran)
    (at p d (tell ∙ ap (λ (q : Progress). q.telling) same ∙ due.1)))
    (change_opens run log s old next c mine kept)

-- or it was the last, and the transaction goes on
pub change_ends : (run : Setting) (log : List Record) (s : ℕ) (old next : Session) (c : Planned) (later : _) (reply : Reply) →
    IsStart run → IsLegal run log → 0 < s → old.doing ≡ Changing c later false reply → later.items ≡ [] → IsSession run log s old →
    ChangeKept (whole_log run log) old next → next.replies.items ≡ old.replies.items ++ reply ∷ [] → next.doing ≡ Idle →
    IsSession run (change_item old.tran c ∷ log) s next
change_ends run log s old next c later reply start legal hs doing none mine kept replies doing_next =
    let x = change_item old.tran c in
    let due_is = changing_due run log s old c later false reply doing mine in
    let due : (progress_of run s log).due ≡ x ∷ [] = due_is.0 ∙ ap (λ xs. x ∷ change_items old.tran (reverse xs) false) none in
    let same = busy run log s x [] due in
    let st = steps_of run log s x start legal hs (busy_comes run log s x [] due) in
    ends_with run log s x reply old next st.belongs (ap (λ (q : Progress). q.due) same ∙ due) refl
    (subst (λ tell. Tells run.geometry tell reply) (sym (ap (λ (q : Progress). q.telling) same ∙ due_is.1)) refl)
    mine kept.script replies kept.tran doing_next (change_opens run log s old next c mine kept)

-- the Commit of a transaction
ending_due : (run : Setting) (log : List Record) (s : ℕ) (old : Session) (reply : Reply) → old.doing ≡ Ending reply → IsSession run log s old →
    ((progress_of run s log).due ≡ Commit (record { 0 = old.tran }) ∷ []) × ((progress_of run s log).telling ≡ Answers reply)
ending_due run log s old reply doing mine = subst (IsAt run log s (length old.replies.items + 1) old.tran (progress_of run s log)) doing mine.doing_is

pub commit_comes : (run : Setting) (log : List Record) (s : ℕ) (old : Session) (reply : Reply) → old.doing ≡ Ending reply → IsSession run log s old →
    MayCome (work_of run s log) (Commit (record { 0 = old.tran }))
commit_comes run log s old reply doing mine = busy_comes run log s (Commit (record { 0 = old.tran })) [] (ending_due run log s old reply doing mine).0

pub commit_ends : (run : Setting) (log : List Record) (s : ℕ) (old next : Session) (reply : Reply) →
    IsStart run → IsLegal run log → 0 < s → old.doing ≡ Ending reply → IsSession run log s old →
    next.script.items ≡ old.script.items → next.replies.items ≡ old.replies.items ++ reply ∷ [] → next.tran ≡ 0 → next.doing ≡ Idle →
    IsSession run (Commit (record { 0 = old.tran }) ∷ log) s next
commit_ends run log s old next reply start legal hs doing mine script replies tran doing_next =
    let x = Commit (record { 0 = old.tran }) in
    let due = ending_due run log s old reply doing mine in
    let same = busy run log s x [] due.0 in
    let st = steps_of run log s x start legal hs (busy_comes run log s x [] due.0) in
    ends_with run log s x reply old next st.belongs (ap (λ (q : Progress). q.due) same ∙ due.0) refl
    (subst (λ tell. Tells run.geometry tell reply) (sym (ap (λ (q : Progress). q.telling) same ∙ due.1)) refl)
    mine script replies tran doing_next (inl tran)

-- what a session owes that undoes
undoing_due : (run : Setting) (log : List Record) (s : ℕ) (old : Session) → IsSession run log s old → old.doing ≡ Undoing →
    ((progress_of run s log).due ≡ abort_items old.tran (left_of old.tran (whole_log run log))) × ((progress_of run s log).telling ≡ Answers Done) × (0 < old.tran)
undoing_due run log s old mine doing = subst (IsAt run log s (length old.replies.items + 1) old.tran (progress_of run s log)) doing mine.doing_is

-- the number that is kept last is that of the change to undo
last_left : (log : List (ℕ × Record)) (rest : List ℕ) (n : ℕ) → map (λ (p : ℕ × Record). p.0) log ≡ n ∷ reverse rest →
    (p : ℕ × Record) × (ps : List (ℕ × Record)) × (log ≡ p ∷ ps) × (p.0 ≡ n)
last_left [] rest n e = absurd (cc)
last_left (p ∷ ps) rest n e = let same : p.0 ≡ n = cc in (p, ps, refl, same)

undo_due : (run : Setting) (log : List Record) (s : ℕ) (old : Session) (rest : List ℕ) (n : ℕ) → IsSession run log s old → old.doing ≡ Undoing → old.left.items ≡ rest ++ n ∷ [] →
    (ps : List (ℕ × Record)) × ((progress_of run s log).due ≡ Undo (record { 0 = old.tran }) (record { 0 = n }) ∷ abort_items old.tran ps)
    × ((p : ℕ × Record) × (left_of old.tran (whole_log run log) ≡ p ∷ ps))
undo_due run log s old rest n mine doing left =
    let d = undoing_due run log s old mine doing in
    elim mine.opens [
      | inl none ↦ absurd (let above = d.2 in omega (arith, none, above))
      | inr o ↦
          let found = last_left (left_of old.tran (whole_log run log)) rest n (o.left_is ∙ ap reverse left ∙ reverse-append rest (n ∷ [])) in (
            found.1,
            d.0 ∙ ap (abort_items old.tran) found.2 ∙ ap (λ m. Undo (record { 0 = old.tran }) (record { 0 = m }) ∷ abort_items old.tran found.1) found.3,
            (found.0, found.2),
          )
    ]

pub undo_comes : (run : Setting) (log : List Record) (s : ℕ) (old : Session) (rest : List ℕ) (n : ℕ) → IsSession run log s old → old.doing ≡ Undoing → old.left.items ≡ rest ++ n ∷ [] →
    MayCome (work_of run s log) (Undo (record { 0 = old.tran }) (record { 0 = n }))
undo_comes run log s old rest n mine doing left =
    let u = undo_due run log s old rest n mine doing left in busy_comes run log s (Undo (record { 0 = old.tran }) (record { 0 = n })) (abort_items old.tran u.0) u.1

pub some_abort : (t : ℕ) (ps : List (ℕ × Record)) → abort_items t ps ≡ [] → ⊥
some_abort t [] e = cc
some_abort t (p ∷ ps) e = cc

pub undo_goes : (run : Setting) (log : List Record) (s : ℕ) (old next : Session) (rest : List ℕ) (n : ℕ) → IsStart run → IsLegal run log → 0 < s → IsSession run log s old →
    old.doing ≡ Undoing → old.left.items ≡ rest ++ n ∷ [] →
    next.script.items ≡ old.script.items → next.replies.items ≡ old.replies.items → next.tran ≡ old.tran → next.doing ≡ Undoing →
    next.left.items ≡ rest → next.held.items ≡ old.held.items → next.used ≡ old.used →
    IsSession run (Undo (record { 0 = old.tran }) (record { 0 = n }) ∷ log) s next
undo_goes run log s old next rest n start legal hs mine doing left_old script replies tran doing_next left held used =
    let g = whole_log run log in
    let x = Undo (record { 0 = old.tran }) (record { 0 = n }) in
    let u = undo_due run log s old rest n mine doing left_old in
    let d = undoing_due run log s old mine doing in
    let same = busy run log s x (abort_items old.tran u.0) u.1 in
    let st = steps_of run log s x start legal hs (undo_comes run log s old rest n mine doing left_old) in
    let left_after : left_of old.tran (x ∷ g) ≡ u.0 =
    ap (λ b. if b then rest_of (left_of old.tran g) else left_of old.tran g) (eq-eqb old.tran old.tran refl) ∙ ap rest_of u.2.1 in
    goes_by run log s x (abort_items old.tran u.0) old next st.belongs (ap (λ (q : Progress). q.due) same ∙ u.1) (some_abort old.tran u.0) refl mine script replies tran
    (λ p due tell. subst (IsAt run (x ∷ log) s (length old.replies.items + 1) next.tran p) (sym doing_next) (
      subst (λ t. p.due ≡ abort_items t (left_of t (x ∷ g))) (sym tran) (due ∙ ap (abort_items old.tran) (sym left_after)),
      tell ∙ ap (λ (q : Progress). q.telling) same ∙ d.1,
      subst (λ t. 0 < t) (sym tran) d.2,
    ))
    (opens_after run log x old.tran old next refl tran mine.opens (λ o.
    subst (λ l. IsOpen (x ∷ g) old.tran l next.held.items next.used) (sym left)
    (subst (λ h. IsOpen (x ∷ g) old.tran rest h next.used) (sym held)
    (subst (IsOpen (x ∷ g) old.tran rest old.held.items) (sym used)
    (open_undo g old.tran n n rest old.held.items old.used (subst (λ l. IsOpen g old.tran l old.held.items old.used) left_old o))))))

-- nothing is left to undo
abort_due : (run : Setting) (log : List Record) (s : ℕ) (old : Session) → IsSession run log s old → old.doing ≡ Undoing → old.left.items ≡ [] →
    (progress_of run s log).due ≡ Abort (record { 0 = old.tran }) ∷ []
abort_due run log s old mine doing left =
    let d = undoing_due run log s old mine doing in
    elim mine.opens [
      | inl none ↦ absurd (let above = d.2 in omega (arith, none, above))
      | inr o ↦ d.0 ∙ ap (abort_items old.tran) (none_left (left_of old.tran (whole_log run log)) (o.left_is ∙ ap reverse left))
    ]
  where
    none_left : (ps : List (ℕ × Record)) → map (λ (p : ℕ × Record). p.0) ps ≡ [] → ps ≡ []
    none_left [] e = refl
    none_left (p ∷ ps) e = absurd (cc)

pub abort_comes : (run : Setting) (log : List Record) (s : ℕ) (old : Session) → IsSession run log s old → old.doing ≡ Undoing → old.left.items ≡ [] →
    MayCome (work_of run s log) (Abort (record { 0 = old.tran }))
abort_comes run log s old mine doing left = busy_comes run log s (Abort (record { 0 = old.tran })) [] (abort_due run log s old mine doing left)

pub abort_ends : (run : Setting) (log : List Record) (s : ℕ) (old next : Session) → IsStart run → IsLegal run log → 0 < s → IsSession run log s old →
    old.doing ≡ Undoing → old.left.items ≡ [] →
    next.script.items ≡ old.script.items → next.replies.items ≡ old.replies.items ++ Done ∷ [] → next.tran ≡ 0 → next.doing ≡ Idle →
    IsSession run (Abort (record { 0 = old.tran }) ∷ log) s next
abort_ends run log s old next start legal hs mine doing left script replies tran doing_next =
    let x = Abort (record { 0 = old.tran }) in
    let d = undoing_due run log s old mine doing in
    let due = abort_due run log s old mine doing left in
    let same = busy run log s x [] due in
    let st = steps_of run log s x start legal hs (abort_comes run log s old mine doing left) in
    ends_with run log s x Done old next st.belongs (ap (λ (q : Progress). q.due) same ∙ due) refl
    (subst (λ tell. Tells run.geometry tell Done) (sym (ap (λ (q : Progress). q.telling) same ∙ d.1)) refl)
    mine script replies tran doing_next (inl tran)
