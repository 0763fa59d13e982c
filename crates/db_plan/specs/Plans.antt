-- Statements as they are planned, by the end of their words.
use Rattle.std.specs.Prelude.{◌≡◌, ◌⊎◌, ℕ, Bool, true, false, IsTrue, List, [], Contains, Result, Ok, Err, IfErr, Some}
use Rattle.spec_file.specs.declared.data.Resource.{Resource}
use Rattle.spec_script.specs.declared.limits.TheConstants.{HELD, READ_FAULT}
use Rattle.spec_script.specs.declared.reply.Refusal.{Refusal}
use Rattle.spec_script.specs.declared.reply.Reply.{Reply}
use Rattle.spec_script.specs.declared.statement.Statement.{Statement}
use Rattle.spec_script.specs.declared.statement.Statement.TheVariants as statement
use Rattle.spec_plan.specs.declared.plan.Planned.{Planned}
use Rattle.spec_plan.specs.Refusals.{held_by, log_full, out_of_memory}
use Rattle.spec_words.specs.Takes.{takes_at, changes_at}
use Rattle.spec_words.specs.Views.{End, Gives, Stops, Outcome}
use Rattle.spec_words.specs.Views.{Plan as Words}
use Rattle.spec_run.specs.Answers.{read_fault}
use Rattle.pg_base.specs.Faults.{Rose}
use Rattle.db_locks.specs.States.{PlanState}
use Rattle.db_locks.specs.Does.{Stays}
use Rattle.db_plan.specs.declared.planned.Plan.{Plan}
use Rattle.db_plan.specs.declared.planned.Plan.TheVariants as plan
use Rattle.db_plan.specs.declared.planned.PlanAt.{PlanAt}
use Rattle.db_plan.specs.Limits.{passes}

-- all but BEGIN, COMMIT, ROLLBACK and a check
abbrev pub is_planned : Statement → Bool
is_planned (statement.CreateHeap table) = true
is_planned (statement.Drop table) = true
is_planned (statement.Insert table key payload) = true
is_planned (statement.Count table) = true
is_planned (statement.Select table key) = true
is_planned other = false

-- the plan of a statement whose words end so: it reads where nothing was taken; else it takes and changes what the view
-- says, within the limits
abbrev pub IsEndAs : PlanAt → End Reply → Plan → Type 0
IsEndAs at (Stops refusal) p = ⊥
IsEndAs at (Gives reply view) (plan.Read told) = (told ≡ reply) × (view.taken ≡ [])
IsEndAs at (Gives reply view) (plan.Written told takes changes) =
    (told ≡ reply) × (view.taken ≡ [] → ⊥) × (takes ≡ takes_at view) × (changes.items ≡ changes_at view) × (passes at changes.items ≡ false)

-- where its words give something, its changes pass a limit
abbrev pub EndsAbove : PlanAt → End Reply → Type 0
EndsAbove at (Stops refusal) = ⊥
EndsAbove at (Gives reply view) = (view.taken ≡ [] → ⊥) × (passes at (changes_at view) ≡ true)

-- why a statement with such words is refused
pub data MayRefuse (at : PlanAt) (outcome : Outcome Reply) (refusal : Refusal) : Type 0 where
  -- the first that they meet
  Stopped : outcome.ending ≡ Stops refusal → MayRefuse at outcome refusal
  -- 9002
  Passed : EndsAbove at outcome.ending → refusal ≡ log_full → MayRefuse at outcome refusal
  -- 823 at a page that they reach
  Failed : (p : ℕ) → Contains outcome.reached p → refusal ≡ read_fault p → MayRefuse at outcome refusal
  -- 701
  Short : refusal ≡ out_of_memory → MayRefuse at outcome refusal

abbrev pub MayPlan : PlanAt → Outcome Reply → Result Plan Refusal → Type 0
MayPlan at outcome (Ok p) = IsEndAs at outcome.ending p
MayPlan at outcome (Err refusal) = MayRefuse at outcome refusal

-- 823 only where the device failed, 1222 only where another transaction holds what is named
pub record HasCauses (old new : PlanState) (refusal : Refusal) : Type 0 where
  pub fault : refusal.number ≡ READ_FAULT → Rose old.faults new.faults
  pub held : refusal.number ≡ HELD → (r : Resource) × (t : ℕ) × (refusal ≡ held_by r t) × (old.view.other r ≡ Some t)

-- a statement with these words was planned on a view
pub record IsPlannedAs (at : PlanAt) (old new : PlanState) (words : Words Reply) (result : Result Plan Refusal) : Type 0 where
  pub exact : IsTrue old.told → MayPlan at (words old.view) result
  pub stays : Stays old new
  pub causes : IfErr result (HasCauses old new)

-- a statement that takes and changes so is within the limits, or is refused
abbrev pub IsLimited : PlanAt → Reply → List Resource → List Planned → Result Plan Refusal → Type 0
IsLimited at reply takes changes (Ok (plan.Read told)) = ⊥
IsLimited at reply takes changes (Ok (plan.Written told now_takes now_changes)) =
    (told ≡ reply) × (now_takes ≡ takes) × (now_changes.items ≡ changes) × (passes at now_changes.items ≡ false)
IsLimited at reply takes changes (Err refusal) = (passes at changes ≡ true) × (refusal ≡ log_full)

-- what is planned of a statement that was carried out on the view
abbrev pub WritesBy : PlanAt → PlanState → Reply → Result Plan Refusal → Type 0
WritesBy at state reply (Ok p) = IsTrue state.told → IsLimited at reply (takes_at state.view) (changes_at state.view) (Ok p)
WritesBy at state reply (Err refusal) =
    ((refusal ≡ log_full) × (IsTrue state.told → passes at (changes_at state.view) ≡ true)) ⊎ (refusal ≡ out_of_memory)
