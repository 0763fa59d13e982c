-- The records of statements that need no plan.
use Rattle.std.specs.Prelude.{◌≡◌, ◌≢◌, ℕ, ◌+◌, [], ◌∷◌, ◌++◌, length, slice_get, Some, ◌⊎◌}
use Rattle.spec_script.specs.declared.limits.TheConstants.{IS_OPEN, NOTHING_TO_COMMIT, NOTHING_TO_UNDO}
use Rattle.spec_log.specs.declared.item.Record.{Record}
use Rattle.spec_script.specs.declared.reply.Reply.{Reply}
use Rattle.spec_script.specs.declared.reply.Reply.TheVariants.{Done, Refused}
use Rattle.spec_script.specs.declared.statement.Statement.{Statement}
use Rattle.spec_script.specs.declared.statement.Statement.TheVariants as statement
use Rattle.spec_script.specs.Refusals.{plain_refusal}
use Rattle.spec_run.specs.Shapes.{plain_start}
use Rattle.db_core.specs.declared.session.Doing.{Doing}
use Rattle.db_core.specs.declared.session.Doing.TheVariants.{Idle, Ending, Undoing}
use Rattle.db_core.specs.declared.session.Session.{Session}
use Rattle.db_core.specs.declared.starts.Word.{Word}
use Rattle.db_core.specs.declared.starts.Word.TheVariants.{Begin, Commit, Rollback}
use Rattle.db_core.specs.declared.starts.StatementNo.{StatementNo}
use Rattle.db_core.specs.States.{Keeps}

-- a statement that needs no plan
abbrev pub statement_of : Word → Statement
statement_of Begin = statement.Begin
statement_of Commit = statement.Commit
statement_of Rollback = statement.Rollback

-- the statement ends with its Start, and its transaction stands as before
pub record IsEnded (place : StatementNo) (number : ℕ) (reply : Reply) (old new : Session) (x : Record) : Type 0 where
  pub item : x ≡ plain_start place.session place.index old.tran number
  pub kept : Keeps old new
  pub left : new.left.items ≡ old.left.items
  pub replies : new.replies.items ≡ old.replies.items ++ reply ∷ []
  pub doing : new.doing ≡ Idle

-- the statement is refused, by nothing that has a name
abbrev pub IsRefusal : StatementNo → ℕ → Session → Session → Record → Type 0
IsRefusal place number old new x = IsEnded place number (Refused (plain_refusal number)) old new x

-- it opens a transaction
pub record IsOpening (place : StatementNo) (tran : ℕ) (old new : Session) (x : Record) : Type 0 where
  pub item : x ≡ plain_start place.session place.index tran 0
  pub script : new.script.items ≡ old.script.items
  pub tran_is : new.tran ≡ tran
  pub left : new.left.items ≡ []
  pub held : new.held.items ≡ []
  pub used : new.used ≡ 0
  pub replies : new.replies.items ≡ old.replies.items ++ Done ∷ []
  pub doing : new.doing ≡ Idle

-- it goes on with the session's transaction
pub record IsGoing (place : StatementNo) (doing_next : Doing) (old new : Session) (x : Record) : Type 0 where
  pub item : x ≡ plain_start place.session place.index old.tran 0
  pub kept : Keeps old new
  pub left : new.left.items ≡ old.left.items
  pub replies : new.replies.items ≡ old.replies.items
  pub doing : new.doing ≡ doing_next

-- the record of such a statement
abbrev pub StartsBy : Word → ℕ → StatementNo → Session → Session → Record → Type 0
StartsBy Begin last place old new x =
    ((old.tran ≡ 0) × IsOpening place (last + 1) old new x) ⊎ ((old.tran ≢ 0) × IsRefusal place IS_OPEN old new x)
StartsBy Commit last place old new x = ((old.tran ≡ 0) × IsRefusal place NOTHING_TO_COMMIT old new x) ⊎ ((old.tran ≢ 0) × IsGoing place (Ending Done) old new x)
StartsBy Rollback last place old new x = ((old.tran ≡ 0) × IsRefusal place NOTHING_TO_UNDO old new x) ⊎ ((old.tran ≢ 0) × IsGoing place Undoing old new x)

-- an idle session's next statement
pub record IsNextWord (word : Word) (x : Session) : Type 0 where
  pub idle : x.doing ≡ Idle
  pub next : slice_get x.script.items (length x.replies.items) ≡ Some (statement_of word)
