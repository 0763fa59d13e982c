-- What becomes of each statement of a script: the one table that names them all.
use Rattle.spec_script.specs.declared.reply.Reply.{Reply}
use Rattle.spec_script.specs.declared.statement.Statement.{Statement}
use Rattle.spec_script.specs.declared.statement.Statement.TheVariants as statement
use Rattle.spec_words.specs.NetChanges.{FileShape}
use Rattle.spec_words.specs.Views.{Plan}
use Rattle.spec_words.specs.Heaps.{count_plan, insert_plan, select_plan}
use Rattle.spec_statements.specs.Objects.{create_plan, drop_plan}

-- a statement about transactions, which reads no page
pub data TransactionWord : Type 0 where
  Begins : TransactionWord
  Commits : TransactionWord
  RollsBack : TransactionWord

pub data StatementKind : Type 0 where
  Transacts : TransactionWord → StatementKind
  -- it is planned where its record stands, all in one turn
  Plans : Plan Reply → StatementKind
  -- DBCC CHECKDB
  Checks : StatementKind

abbrev pub kind_of : FileShape → Statement → StatementKind
kind_of shape statement.Begin = Transacts Begins
kind_of shape statement.Commit = Transacts Commits
kind_of shape statement.Rollback = Transacts RollsBack
kind_of shape (statement.CreateHeap table) = Plans (create_plan shape table)
kind_of shape (statement.Drop table) = Plans (drop_plan shape table)
kind_of shape (statement.Insert table key payload) = Plans (insert_plan shape table key payload)
kind_of shape (statement.Count table) = Plans (count_plan shape table)
kind_of shape (statement.Select table key) = Plans (select_plan shape table key)
kind_of shape (statement.Check workers) = Checks
