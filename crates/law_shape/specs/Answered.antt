-- Each statement of a session is answered at its record: what it owes, and what its session is told, is fixed by the
-- items before it.
use Rattle.std.specs.Prelude.{◌≡◌, ℕ, ◌+◌, ◌<◌, List, [], ◌∷◌, ◌++◌, length, slice_get, Some, ◌⊎◌}
use Rattle.spec_log.specs.declared.item.Record.{Record}
use Rattle.spec_log.specs.declared.item.Record.TheVariants.{Snap, CheckEnd}
use Rattle.spec_script.specs.declared.reply.Reply.TheVariants.{Refused}
use Rattle.spec_script.specs.declared.statement.Statement.{Statement}
use Rattle.spec_plan.specs.Refusals.{out_of_memory}
use Rattle.spec_run.specs.Sessions.{Placed, placed_of, open_of, AreItems, log_before}
use Rattle.spec_run.specs.Begun.{Setting, Telling, Answers, Begun, begun}
use Rattle.spec_run.specs.Progress.{script_of, first_of}
use Rattle.spec_run.specs.Turns.{told_to}

-- what statement i of session s owes and is told where its record follows this log
abbrev pub begun_at : Setting → List Record → ℕ → ℕ → Statement → Begun
begun_at run log s i st = begun run log s i (open_of s log) st

-- a finished statement, with these items
pub data IsAnswered (run : Setting) (s i : ℕ) (st : Statement) (placed : List Placed) (told : Telling) : Type 0 where
  -- it has what it owes at its record, and its session is told what goes with that
  InFull : AreItems placed (begun_at run (log_before placed) s i st).items → told ≡ (begun_at run (log_before placed) s i st).telling
      → IsAnswered run s i st placed told
  -- memory ran out at its record: one item stands for all
  AtRecord : (x : Record) → (begun_at run (log_before placed) s i st).want ≡ Some x → AreItems placed (x ∷ []) → told ≡ Answers (Refused out_of_memory)
      → IsAnswered run s i st placed told
  -- memory ran out in a check, behind its Snap
  InCheck : first_of (begun_at run (log_before placed) s i st).items ≡ Some (Snap s i) → AreItems placed (Snap s i ∷ CheckEnd s i 3 ∷ [])
      → told ≡ Answers (Refused out_of_memory) → IsAnswered run s i st placed told

-- the items are those of the script's statements from number i on, in their order, each answered as its session was told
abbrev pub AreAnswered : Setting → ℕ → ℕ → List Statement → List Telling → List Placed → Type 0
AreAnswered run s i script [] placed = placed ≡ []
AreAnswered run s i [] (told ∷ tellings) placed = ⊥
AreAnswered run s i (st ∷ script) (told ∷ tellings) placed =
    (first : List Placed) × (rest : List Placed) × (placed ≡ first ++ rest) × IsAnswered run s i st first told × AreAnswered run s (i + 1) script tellings rest

-- a statement that is under way has the first of the items that it owes
pub record IsUnderWay (run : Setting) (s i : ℕ) (st : Statement) (placed : List Placed) : Type 0 where
  pub some : 0 < length placed
  pub items : List Record
  pub rest : List Record
  pub are_items : AreItems placed items
  pub owes : (begun_at run (log_before placed) s i st).items ≡ items ++ rest
  pub owes_more : 0 < length rest

-- a session's items are those of the first statements of its script, each answered as the session was told, and maybe of
-- the next one, which is under way
pub record IsServed (run : Setting) (log : List Record) (s : ℕ) : Type 0 where
  pub before : List Placed
  pub now : List Placed
  pub splits : placed_of s log ≡ before ++ now
  pub answered : AreAnswered run s 1 (script_of run.scripts s) (told_to run s log) before
  pub under_way : (now ≡ []) ⊎ ((st : Statement) × (slice_get (script_of run.scripts s) (length (told_to run s log)) ≡ Some st)
      × IsUnderWay run s (length (told_to run s log) + 1) st now)
