-- What the core keeps of a session after an item of it.
use Rattle.std.proofs.Common.{◌≡◌, ℕ, ◌+◌, true, false, List, [], ◌∷◌, ◌++◌, length, reverse, Option, Some, None, ◌⊎◌, refl, sym, ap, ◌∙◌, subst}
use Rattle.std.specs.Prelude.{slice_get}
use Rattle.std.proofs.lemmas.List.{reverse-append}
use Rattle.spec_file.specs.declared.geometry.Geometry.{Geometry}
use Rattle.spec_log.specs.declared.item.Record.{Record}
use Rattle.spec_script.specs.declared.reply.Reply.{Reply}
use Rattle.spec_script.specs.declared.reply.Reply.TheVariants.{Refused}
use Rattle.spec_script.specs.declared.statement.Statement.{Statement}
use Rattle.spec_plan.specs.Refusals.{out_of_memory}
use Rattle.spec_run.specs.Sessions.{session_of, open_after}
use Rattle.spec_run.specs.Begun.{Setting, Telling, Answers, Tells}
use Rattle.spec_run.specs.Progress.{Progress, progress_of, at_work, with_statement, script_of, is_short, cut_short, moved_to, work_of}
use Rattle.spec_run.specs.Turns.{AreTold, told_to}
use Rattle.law_run.proofs.Moved.{moved_whole, moved_short}
use Rattle.db_core.specs.declared.session.Doing.TheVariants.{Idle}
use Rattle.db_core.specs.declared.session.Session.{Session}
use Rattle.db_core.specs.States.{whole_log, IsAt, IsOpen, IsSession}
use Rattle.db_core.proofs.Keeps.{own_progress}

-- a statement that begins leaves what was told, and the open transaction
work_told_at : (run : Setting) (log : List Record) (s : ℕ) (p : Progress) (due : List Record) → (at_work run log s p due).told ≡ p.told
work_told_at run log s p [] = by_statement (slice_get (script_of run.scripts s) (length p.told))
  where
    by_statement : (o : Option Statement) → (with_statement run log s p o).told ≡ p.told
    by_statement None = refl
    by_statement (Some st) = refl
work_told_at run log s p (x ∷ due) = refl

work_tran_at : (run : Setting) (log : List Record) (s : ℕ) (p : Progress) (due : List Record) → (at_work run log s p due).tran ≡ p.tran
work_tran_at run log s p [] = by_statement (slice_get (script_of run.scripts s) (length p.told))
  where
    by_statement : (o : Option Statement) → (with_statement run log s p o).tran ≡ p.tran
    by_statement None = refl
    by_statement (Some st) = refl
work_tran_at run log s p (x ∷ due) = refl

pub work_told : (run : Setting) (log : List Record) (s : ℕ) → (work_of run s log).told ≡ (progress_of run s log).told
work_told run log s = work_told_at run log s (progress_of run s log) (progress_of run s log).due

pub work_tran : (run : Setting) (log : List Record) (s : ℕ) → (work_of run s log).tran ≡ (progress_of run s log).tran
work_tran run log s = work_tran_at run log s (progress_of run s log) (progress_of run s log).due

-- one reply more
told_behind : (g : Geometry) (tellings : List Telling) (replies : List Reply) (telling : Telling) (reply : Reply) → AreTold g tellings replies → Tells g telling reply →
    AreTold g (tellings ++ telling ∷ []) (replies ++ reply ∷ [])
told_behind g [] [] telling reply told tells = (tells, tt)
told_behind g [] (r ∷ replies) telling reply told tells = elim told [ ]
told_behind g (t ∷ tellings) [] telling reply told tells = elim told [ ]
told_behind g (t ∷ tellings) (r ∷ replies) telling reply told tells = (told.0, told_behind g tellings replies telling reply told.1 tells)

told_more : (g : Geometry) (told : List Telling) (replies : List Reply) (telling : Telling) (reply : Reply) → AreTold g (reverse told) replies → Tells g telling reply →
    AreTold g (reverse (telling ∷ told)) (replies ++ reply ∷ [])
told_more g told replies telling reply all tells =
    subst (λ xs. AreTold g xs (replies ++ reply ∷ [])) (sym (reverse-append (telling ∷ []) told)) (told_behind g (reverse told) replies telling reply all tells)

-- the statement goes on
pub goes_on : (run : Setting) (log : List Record) (s : ℕ) (x y : Record) (rest : List Record) (old next : Session) → session_of log x ≡ s →
    (work_of run s log).due ≡ x ∷ (y ∷ rest) → is_short x ≡ false → IsSession run log s old →
    next.script.items ≡ old.script.items → next.replies.items ≡ old.replies.items → next.tran ≡ open_after old.tran x →
    IsAt run (x ∷ log) s (length old.replies.items + 1) next.tran (moved_to (work_of run s log) x (y ∷ rest)) next.doing →
    (next.tran ≡ 0) ⊎ IsOpen (x ∷ whole_log run log) next.tran next.left.items next.held.items next.used →
    IsSession run (x ∷ log) s next
goes_on run log s x y rest old next belongs due whole mine script replies tran at opens =
    let w = work_of run s log in
    let now : progress_of run s (x ∷ log) ≡ moved_to w x (y ∷ rest) = own_progress run log s x belongs ∙ moved_whole w x (y ∷ rest) whole due in
    record {
      script_is = mine.script_is ∙ sym script;
      told = subst (λ (q : Progress). AreTold run.geometry (reverse q.told) next.replies.items) (sym now)
          (subst (AreTold run.geometry (reverse w.told)) (sym replies)
          (subst (λ told. AreTold run.geometry (reverse told) old.replies.items) (sym (work_told run log s)) mine.told));
      tran_is = ap (λ (q : Progress). q.tran) now ∙ ap (λ t. open_after t x) (work_tran run log s ∙ mine.tran_is) ∙ sym tran;
      doing_is = subst (λ (q : Progress). IsAt run (x ∷ log) s (length next.replies.items + 1) next.tran q next.doing) (sym now)
          (subst (λ rs. IsAt run (x ∷ log) s (length rs + 1) next.tran (moved_to w x (y ∷ rest)) next.doing) (sym replies) at);
      opens = opens;
    }

idle_at : (run : Setting) (log : List Record) (s index t : ℕ) (p : Progress) (doing : _) → doing ≡ Idle → p.due ≡ [] → IsAt run log s index t p doing
idle_at run log s index t p doing idle due = subst (IsAt run log s index t p) (sym idle) due

-- the statement ends with this reply
pub ends_with : (run : Setting) (log : List Record) (s : ℕ) (x : Record) (reply : Reply) (old next : Session) → session_of log x ≡ s →
    (work_of run s log).due ≡ x ∷ [] → is_short x ≡ false → Tells run.geometry (work_of run s log).telling reply → IsSession run log s old →
    next.script.items ≡ old.script.items → next.replies.items ≡ old.replies.items ++ reply ∷ [] → next.tran ≡ open_after old.tran x → next.doing ≡ Idle →
    (next.tran ≡ 0) ⊎ IsOpen (x ∷ whole_log run log) next.tran next.left.items next.held.items next.used →
    IsSession run (x ∷ log) s next
ends_with run log s x reply old next belongs due whole tells mine script replies tran idle opens =
    let w = work_of run s log in
    let now : progress_of run s (x ∷ log) ≡ moved_to w x [] = own_progress run log s x belongs ∙ moved_whole w x [] whole due in
    record {
      script_is = mine.script_is ∙ sym script;
      told = subst (λ (q : Progress). AreTold run.geometry (reverse q.told) next.replies.items) (sym now)
          (subst (AreTold run.geometry (reverse (w.telling ∷ w.told))) (sym replies)
          (told_more run.geometry w.told old.replies.items w.telling reply
          (subst (λ told. AreTold run.geometry (reverse told) old.replies.items) (sym (work_told run log s)) mine.told) tells));
      tran_is = ap (λ (q : Progress). q.tran) now ∙ ap (λ t. open_after t x) (work_tran run log s ∙ mine.tran_is) ∙ sym tran;
      doing_is = idle_at run (x ∷ log) s (length next.replies.items + 1) next.tran (progress_of run s (x ∷ log)) next.doing idle (ap (λ (q : Progress). q.due) now);
      opens = opens;
    }

-- what a session was told, and its script and transaction, whatever it is in the middle of
pub record IsToldSo (run : Setting) (log : List Record) (s : ℕ) (x : Session) : Type 0 where
  pub script_is : script_of run.scripts s ≡ x.script.items
  pub told : AreTold run.geometry (told_to run s log) x.replies.items
  pub tran_is : (progress_of run s log).tran ≡ x.tran

pub told_so : (run : Setting) (log : List Record) (s : ℕ) (x : Session) → IsSession run log s x → IsToldSo run log s x
told_so run log s x mine = record { script_is = mine.script_is; told = mine.told; tran_is = mine.tran_is }

-- the statement ends for want of memory
pub ends_short : (run : Setting) (log : List Record) (s : ℕ) (x : Record) (old next : Session) → session_of log x ≡ s → is_short x ≡ true → IsToldSo run log s old →
    next.script.items ≡ old.script.items → next.replies.items ≡ old.replies.items ++ Refused out_of_memory ∷ [] → next.tran ≡ open_after old.tran x → next.doing ≡ Idle →
    (next.tran ≡ 0) ⊎ IsOpen (x ∷ whole_log run log) next.tran next.left.items next.held.items next.used →
    IsSession run (x ∷ log) s next
ends_short run log s x old next belongs short mine script replies tran idle opens =
    let w = work_of run s log in
    let now : progress_of run s (x ∷ log) ≡ cut_short w x = own_progress run log s x belongs ∙ moved_short w x short in
    record {
      script_is = mine.script_is ∙ sym script;
      told = subst (λ (q : Progress). AreTold run.geometry (reverse q.told) next.replies.items) (sym now)
          (subst (AreTold run.geometry (reverse (Answers (Refused out_of_memory) ∷ w.told))) (sym replies)
          (told_more run.geometry w.told old.replies.items (Answers (Refused out_of_memory)) (Refused out_of_memory)
          (subst (λ told. AreTold run.geometry (reverse told) old.replies.items) (sym (work_told run log s)) mine.told) refl));
      tran_is = ap (λ (q : Progress). q.tran) now ∙ ap (λ t. open_after t x) (work_tran run log s ∙ mine.tran_is) ∙ sym tran;
      doing_is = idle_at run (x ∷ log) s (length next.replies.items + 1) next.tran (progress_of run s (x ∷ log)) next.doing idle (ap (λ (q : Progress). q.due) now);
      opens = opens;
    }
