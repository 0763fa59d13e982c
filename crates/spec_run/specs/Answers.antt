-- What a session may be told of a statement (this project's own).
use Rattle.std.specs.Prelude.{◌≡◌, ℕ, Bool, true, false, IsTrue, List, [], None, Contains}
use Rattle.spec_log.specs.declared.item.Record.{Record}
use Rattle.spec_script.specs.declared.limits.TheConstants.{READ_FAULT}
use Rattle.spec_script.specs.declared.reply.Reply.{Reply}
use Rattle.spec_script.specs.declared.reply.Reply.TheVariants.{Terminated, Refused}
use Rattle.spec_script.specs.declared.reply.Cause.TheVariants.{Fault}
use Rattle.spec_script.specs.declared.reply.Refusal.{Refusal}
use Rattle.spec_script.specs.declared.statement.Statement.{Statement}
use Rattle.spec_plan.specs.Refusals.{out_of_memory}
use Rattle.spec_statements.specs.Statements.{StatementKind, Transacts, Plans, Checks, kind_of}
use Rattle.spec_run.specs.Begun.{Setting, Telling, Tells, shape_of, view_at, becomes}

-- what a one-thread database answers where the record of a statement follows these items, in a session whose open
-- transaction is t, 0 for none
abbrev pub answer : Setting → List Record → ℕ → Statement → Telling
answer run log t statement = (becomes run log t statement).telling

-- the pages that a statement reaches in its reading order, before any refusal
abbrev pub pages_reached : Setting → List Record → ℕ → StatementKind → List ℕ
pages_reached run log t (Transacts word) = []
pages_reached run log t (Plans plan) = (plan (view_at run log t)).reached
pages_reached run log t Checks = []

-- BEGIN, COMMIT and ROLLBACK take no memory
abbrev pub takes_memory : StatementKind → Bool
takes_memory (Transacts word) = false
takes_memory (Plans plan) = true
takes_memory Checks = true

abbrev pub is_check : StatementKind → Bool
is_check (Transacts word) = false
is_check (Plans plan) = false
is_check Checks = true

-- the device failed in reading page p
abbrev pub read_fault : ℕ → Refusal
read_fault p = record { number = READ_FAULT; name = []; key = 0; page = record { 0 = p }; resource = None; by = record { 0 = 0 } }

-- the reply is one that may be told of a statement at its record, where these are the pages whose reads failed in it
pub data Allows (run : Setting) (log : List Record) (t : ℕ) (statement : Statement) (failed : List ℕ) (reply : Reply) : Type 0 where
  -- the answer of a one-thread database; of a check the report of what is committed, or the damaged page
  Answered : Tells run.geometry (answer run log t statement) reply → Allows run log t statement failed reply
  -- 823 at a page that the statement reaches before any refusal, and that failed
  Faulted : (p : ℕ) → Contains failed p → Contains (pages_reached run log t (kind_of (shape_of run) statement)) p → reply ≡ Refused (read_fault p)
      → Allows run log t statement failed reply
  -- a check ends at a page that failed
  Ended : (p : ℕ) → Contains failed p → IsTrue (is_check (kind_of (shape_of run) statement)) → reply ≡ Terminated (Fault (record { 0 = p }))
      → Allows run log t statement failed reply
  -- 701
  Short : IsTrue (takes_memory (kind_of (shape_of run) statement)) → reply ≡ Refused out_of_memory → Allows run log t statement failed reply

-- a check ended without its report
abbrev pub is_terminated : Reply → Bool
is_terminated (Terminated cause) = true
is_terminated other = false
