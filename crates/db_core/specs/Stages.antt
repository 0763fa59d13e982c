-- What a session's next turn does.
use Rattle.std.specs.Prelude.{◌≡◌, ℕ, true, length, slice_get, Option, Some, None}
use Rattle.spec_script.specs.declared.statement.Statement.{Statement}
use Rattle.spec_script.specs.declared.statement.Statement.TheVariants as statement
use Rattle.db_plan.specs.Plans.{is_planned}
use Rattle.db_core.specs.declared.session.Check.{Check}
use Rattle.db_core.specs.declared.session.Doing.TheVariants.{Idle, Checking}
use Rattle.db_core.specs.declared.session.Session.{Session}
use Rattle.db_core.specs.declared.stage.Stage.{Stage}
use Rattle.db_core.specs.declared.stage.Stage.TheVariants as stage
use Rattle.db_core.specs.States.{IsUnderWay}
use Rattle.db_core.specs.Words.{statement_of}

-- what the turn does that begins this statement, if there is one
abbrev pub IsStageOf : Option Statement → Stage → Type 0
IsStageOf next stage.Done = next ≡ None
IsStageOf next stage.UnderWay = ⊥
IsStageOf next stage.Checking = ⊥
IsStageOf next (stage.Word word) = next ≡ Some (statement_of word)
IsStageOf next stage.Check = (workers : ℕ) × (next ≡ Some (statement.Check workers))
IsStageOf next stage.Planned = (st : Statement) × (next ≡ Some st) × (is_planned st ≡ true)

-- the next statement of a session
abbrev pub next_statement : Session → Option Statement
next_statement x = slice_get x.script.items (length x.replies.items)

abbrev pub IsStage : Session → Stage → Type 0
IsStage x stage.UnderWay = IsUnderWay x.doing
IsStage x stage.Checking = (check : Check) × (x.doing ≡ Checking check)
IsStage x stage.Done = (x.doing ≡ Idle) × IsStageOf (next_statement x) stage.Done
IsStage x (stage.Word word) = (x.doing ≡ Idle) × IsStageOf (next_statement x) (stage.Word word)
IsStage x stage.Check = (x.doing ≡ Idle) × IsStageOf (next_statement x) stage.Check
IsStage x stage.Planned = (x.doing ≡ Idle) × IsStageOf (next_statement x) stage.Planned
