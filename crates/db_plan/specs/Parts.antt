-- How statements are carried out, and the words of those that are planned.
use Rattle.std.specs.Prelude.{◌≡◌, ℕ, true}
use Rattle.spec_script.specs.declared.reply.Reply.{Reply}
use Rattle.spec_script.specs.declared.statement.Statement.{Statement}
use Rattle.spec_script.specs.declared.statement.Statement.TheVariants as statement
use Rattle.spec_words.specs.NetChanges.{FileShape}
use Rattle.spec_words.specs.Views.{View}
use Rattle.spec_words.specs.Views.{Plan as Words}
use Rattle.spec_statements.specs.Statements.{Plans, kind_of}
use Rattle.law_statements.specs.Statements.{IsNumbered, IfStops}
use Rattle.db_plan.specs.Plans.{is_planned}
use Rattle.db_plan.specs.declared.part.Part.{Part}
use Rattle.db_plan.specs.declared.part.Part.TheVariants as part

-- a statement is carried out so
abbrev pub IsPartOf : Statement → Part → Type 0
IsPartOf st part.Begin = st ≡ statement.Begin
IsPartOf st part.Commit = st ≡ statement.Commit
IsPartOf st part.Rollback = st ≡ statement.Rollback
IsPartOf st part.Planned = is_planned st ≡ true
IsPartOf st part.Check = (workers : ℕ) × (st ≡ statement.Check workers)

-- whatever its view, a plan is refused by a number of its own
abbrev pub StopsNumbered : Words Reply → Type 0
StopsNumbered words = (view : View) → IfStops IsNumbered (words view).ending

-- the words of a statement that is planned
pub record HasWords (shape : FileShape) (st : Statement) : Type 0 where
  pub words : Words Reply
  pub kind : kind_of shape st ≡ Plans words
  pub numbered : StopsNumbered words
