-- What a log gets of a statement in words: where it gives a reply, its changes and takes are good.
use Rattle.std.specs.Prelude.{◌≡◌, ◌≢◌, ℕ, ◌*◌, ◌<◌, ◌≤◌, Bool, true, All, length, Option, None}
use Rattle.spec_file.specs.declared.data.Resource.{Resource}
use Rattle.spec_file.specs.Image.{Image, AreBytes}
use Rattle.spec_file.specs.Catalog.{is_name}
use Rattle.spec_words.specs.NetChanges.{FileShape}
use Rattle.spec_words.specs.Takes.{changes_at, takes_at}
use Rattle.spec_script.specs.declared.limits.TheConstants.{NO_MEMORY, READ_FAULT}
use Rattle.spec_script.specs.declared.reply.Refusal.{Refusal}
use Rattle.spec_script.specs.declared.reply.Reply.{Reply}
use Rattle.spec_script.specs.declared.reply.Reply.TheVariants.{Report, Terminated}
use Rattle.spec_script.specs.declared.statement.Statement.{Statement}
use Rattle.spec_script.specs.declared.statement.Statement.TheVariants as statement
use Rattle.spec_words.specs.Views.{View, beginning, End, Gives, Stops, Plan}
use Rattle.spec_statements.specs.Statements.{StatementKind, Transacts, Plans, Checks, kind_of}
use Rattle.law_net.specs.Files.{IsImageOf}
use Rattle.law_net.specs.NetLaw.{AreNetChanges}
use Rattle.law_net.specs.GoodViews.{Leads}

-- the net changes and the takes of a view are good, nobody else holds what is taken, there are at most five changes for
-- each page of the file, and a log's item can name all takes
pub record IsGoodEnd (view : View) : Type 0 where
  pub net : AreNetChanges view.shape view.own view.taken view.start view.now (takes_at view) (changes_at view)
  pub free : All (λ r. view.other r ≡ None) (takes_at view)
  pub few : length (changes_at view) ≤ 5 * view.shape.pages
  pub few_takes : length (takes_at view) < 4294967296

-- what a statement puts into rows are bytes, and a name that it puts into the catalog is one
abbrev pub HasBytes : Statement → Type 0
HasBytes (statement.CreateHeap name) = is_name name ≡ true
HasBytes (statement.Insert table key payload) = AreBytes payload
HasBytes other = Unit {0}

-- this holds of the statement's plan, if it has one
abbrev pub IfPlanned : (Plan Reply → Type 0) → StatementKind → Type 0
IfPlanned Holds (Transacts word) = Unit {0}
IfPlanned Holds (Plans plan) = Holds plan
IfPlanned Holds Checks = Unit {0}

-- where a planned statement gives a reply, its end is good
abbrev pub StatementsAreGood : Type 0
StatementsAreGood =
    (shape : FileShape) (image : Image) (other : Resource → Option ℕ) (own : Resource → Bool) (st : Statement) → IsImageOf shape image → HasBytes st →
    IfPlanned (λ plan. Leads plan (beginning shape image other own) (λ reply view. IsGoodEnd view)) (kind_of shape st)

-- a refusal's number is neither 0, which stands for an accepted statement, nor that of want of memory or of a fault
abbrev pub IsNumbered : Refusal → Type 0
IsNumbered refusal = (0 < refusal.number) × (refusal.number ≢ NO_MEMORY) × (refusal.number ≢ READ_FAULT)

abbrev pub IfStops : {A : Type 0} → (Refusal → Type 0) → End A → Type 0
IfStops Holds (Gives given after) = Unit {0}
IfStops Holds (Stops refusal) = Holds refusal

-- neither a report nor the end of a check
abbrev pub IsPlain : Reply → Type 0
IsPlain (Report lsn report) = ⊥
IsPlain (Terminated cause) = ⊥
IsPlain other = Unit {0}

-- whatever a planned statement replies is such a reply
abbrev pub StatementsReplyPlainly : Type 0
StatementsReplyPlainly = (shape : FileShape) (st : Statement) → IfPlanned (λ plan. (view : View) → Leads plan view (λ reply after. IsPlain reply)) (kind_of shape st)

-- two views of one statement
pub record HasSameBeginning (before after : View) : Type 0 where
  pub shape : after.shape ≡ before.shape
  pub start : after.start ≡ before.start
  pub other : after.other ≡ before.other
  pub own : after.own ≡ before.own

-- a planned statement that gives a reply keeps what it began on
abbrev pub StatementsKeepBeginning : Type 0
StatementsKeepBeginning = (shape : FileShape) (st : Statement) → IfPlanned (λ plan. (view : View) → Leads plan view (λ reply after. HasSameBeginning view after)) (kind_of shape st)

-- where a planned statement is refused, whatever its view, the number is such a one
abbrev pub StatementsAreNumbered : Type 0
StatementsAreNumbered = (shape : FileShape) (st : Statement) → IfPlanned (λ plan. (view : View) → IfStops IsNumbered (plan view).ending) (kind_of shape st)
