-- The record of a statement, and what the core keeps of the session behind it.
use Rattle.std.proofs.Common.{◌≡◌, ℕ, ◌+◌, ◌<◌, true, false, List, [], ◌∷◌, ◌++◌, length, Some, ◌⊎◌, inl, inr, refl, sym, ap, ◌∙◌, subst}
use Rattle.std.specs.Prelude.{slice_get}
use Rattle.spec_log.specs.declared.item.Record.{Record}
use Rattle.spec_script.specs.declared.reply.Reply.{Reply}
use Rattle.spec_script.specs.declared.reply.Reply.TheVariants.{Refused}
use Rattle.spec_script.specs.declared.statement.Statement.{Statement}
use Rattle.spec_plan.specs.Refusals.{out_of_memory}
use Rattle.spec_run.specs.Sessions.{open_after}
use Rattle.spec_run.specs.Begun.{Setting, Answers, Tells, Begun, begun}
use Rattle.spec_run.specs.Progress.{Progress, progress_of, script_of, is_short, work_of, first_of, MayCome}
use Rattle.spec_run.specs.Turns.{IsLegal}
use Rattle.law_run.specs.Laws.{IsStart}
use Rattle.law_run.proofs.Legal.{with_begun}
use Rattle.db_core.specs.declared.session.Doing.TheVariants.{Idle}
use Rattle.db_core.specs.declared.session.Session.{Session}
use Rattle.db_core.specs.States.{whole_log, IsAt, IsOpen, IsSession}
use Rattle.db_core.proofs.Keeps.{steps_of}
use Rattle.db_core.proofs.Moves.{ends_with, ends_short, told_so}
use Rattle.db_core.proofs.Next.{idle_work, told_count, goes_by}

-- an idle session that has a next statement, and what becomes of this
pub record IsBegun (run : Setting) (log : List Record) (s : ℕ) (old : Session) (st : Statement) (b : Begun) : Type 0 where
  pub start : IsStart run
  pub legal : IsLegal run log
  pub above : 0 < s
  pub mine : IsSession run log s old
  pub idle : old.doing ≡ Idle
  pub next : slice_get old.script.items (length old.replies.items) ≡ Some st
  pub is_begun : begun run log s (length old.replies.items + 1) old.tran st ≡ b

pub begun_work : (run : Setting) (log : List Record) (s : ℕ) (old : Session) (st : Statement) (b : Begun) → IsBegun run log s old st b →
    work_of run s log ≡ with_begun (progress_of run s log) b
begun_work run log s old st b h =
    let p = progress_of run s log in
    let mine = h.mine in
    let count = told_count run log s old mine in
    let due : p.due ≡ [] = subst (IsAt run log s (length old.replies.items + 1) old.tran p) h.idle mine.doing_is in
    let next : slice_get (script_of run.scripts s) (length p.told) ≡ Some st = ap (λ xs. slice_get xs (length p.told)) mine.script_is ∙ ap (slice_get old.script.items) count ∙ h.next in
    idle_work run log s st due next
    ∙ ap (λ n. with_begun p (begun run log s (n + 1) p.tran st)) count
    ∙ ap (λ t. with_begun p (begun run log s (length old.replies.items + 1) t st)) mine.tran_is
    ∙ ap (with_begun p) h.is_begun

pub begun_comes : (run : Setting) (log : List Record) (s : ℕ) (old : Session) (st : Statement) (b : Begun) (x : Record) (rest : List Record) → IsBegun run log s old st b →
    b.items ≡ x ∷ rest → MayCome (work_of run s log) x
begun_comes run log s old st b x rest h items = inl (ap (λ (q : Progress). first_of q.due) (begun_work run log s old st b h) ∙ ap first_of items)

pub want_comes : (run : Setting) (log : List Record) (s : ℕ) (old : Session) (st : Statement) (b : Begun) (x : Record) → IsBegun run log s old st b →
    b.want ≡ Some x → MayCome (work_of run s log) x
want_comes run log s old st b x h want = inr (ap (λ (q : Progress). q.want) (begun_work run log s old st b h) ∙ want)

-- the record is all that there is of the statement
pub begun_ends : (run : Setting) (log : List Record) (s : ℕ) (old next : Session) (st : Statement) (b : Begun) (x : Record) (reply : Reply) → IsBegun run log s old st b →
    b.items ≡ x ∷ [] → is_short x ≡ false → b.telling ≡ Answers reply →
    next.script.items ≡ old.script.items → next.replies.items ≡ old.replies.items ++ reply ∷ [] → next.tran ≡ open_after old.tran x → next.doing ≡ Idle →
    (next.tran ≡ 0) ⊎ IsOpen (x ∷ whole_log run log) next.tran next.left.items next.held.items next.used →
    IsSession run (x ∷ log) s next
begun_ends run log s old next st b x reply h items whole telling script replies tran idle opens =
    let w = begun_work run log s old st b h in
    let step = steps_of run log s x h.start h.legal h.above (begun_comes run log s old st b x [] h items) in
    ends_with run log s x reply old next step.belongs (ap (λ (q : Progress). q.due) w ∙ items) whole
    (subst (λ tell. Tells run.geometry tell reply) (sym (ap (λ (q : Progress). q.telling) w ∙ telling)) refl)
    h.mine script replies tran idle opens

-- the statement owes more
pub begun_goes : (run : Setting) (log : List Record) (s : ℕ) (old next : Session) (st : Statement) (b : Begun) (x : Record) (rest : List Record) → IsBegun run log s old st b →
    b.items ≡ x ∷ rest → (rest ≡ [] → ⊥) → is_short x ≡ false →
    next.script.items ≡ old.script.items → next.replies.items ≡ old.replies.items → next.tran ≡ open_after old.tran x →
    ((p : Progress) → p.due ≡ rest → p.telling ≡ b.telling → IsAt run (x ∷ log) s (length old.replies.items + 1) next.tran p next.doing) →
    (next.tran ≡ 0) ⊎ IsOpen (x ∷ whole_log run log) next.tran next.left.items next.held.items next.used →
    IsSession run (x ∷ log) s next
begun_goes run log s old next st b x rest h items some whole script replies tran at opens =
    let w = begun_work run log s old st b h in
    let step = steps_of run log s x h.start h.legal h.above (begun_comes run log s old st b x rest h items) in
    goes_by run log s x rest old next step.belongs (ap (λ (q : Progress). q.due) w ∙ items) some whole h.mine script replies tran
    (λ p due tell. at p due (tell ∙ ap (λ (q : Progress). q.telling) w)) opens

-- memory runs out at the record
pub begun_short : (run : Setting) (log : List Record) (s : ℕ) (old next : Session) (st : Statement) (b : Begun) (x : Record) → IsBegun run log s old st b →
    b.want ≡ Some x → is_short x ≡ true →
    next.script.items ≡ old.script.items → next.replies.items ≡ old.replies.items ++ Refused out_of_memory ∷ [] → next.tran ≡ open_after old.tran x → next.doing ≡ Idle →
    (next.tran ≡ 0) ⊎ IsOpen (x ∷ whole_log run log) next.tran next.left.items next.held.items next.used →
    IsSession run (x ∷ log) s next
begun_short run log s old next st b x h want short script replies tran idle opens =
    let step = steps_of run log s x h.start h.legal h.above (want_comes run log s old st b x h want) in
    ends_short run log s x old next step.belongs short (told_so run log s old h.mine) script replies tran idle opens
