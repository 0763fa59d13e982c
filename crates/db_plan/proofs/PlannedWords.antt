-- Each statement that is planned has words.
use Rattle.std.proofs.Common.{◌≡◌, true, refl}
use Rattle.spec_script.specs.declared.statement.Statement.{Statement}
use Rattle.spec_script.specs.declared.statement.Statement.TheVariants as statement
use Rattle.spec_words.specs.NetChanges.{FileShape}
use Rattle.spec_words.specs.Heaps.{insert_plan, count_plan, select_plan}
use Rattle.spec_statements.specs.Objects.{create_plan, drop_plan}
use Rattle.law_statements.proofs.StatementEnds.{statements_are_numbered}
use Rattle.db_plan.specs.Plans.{is_planned}
use Rattle.db_plan.specs.Parts.{HasWords}

pub planned_words : (shape : FileShape) (s : Statement) → is_planned s ≡ true → HasWords shape s
planned_words shape (statement.CreateHeap table) h = record { words = create_plan shape table; kind = refl; numbered = statements_are_numbered shape (statement.CreateHeap table) }
planned_words shape (statement.Drop table) h = record { words = drop_plan shape table; kind = refl; numbered = statements_are_numbered shape (statement.Drop table) }
planned_words shape (statement.Insert table key payload) h = record { words = insert_plan shape table key payload; kind = refl; numbered = statements_are_numbered shape (statement.Insert table key payload) }
planned_words shape (statement.Count table) h = record { words = count_plan shape table; kind = refl; numbered = statements_are_numbered shape (statement.Count table) }
planned_words shape (statement.Select table key) h = record { words = select_plan shape table key; kind = refl; numbered = statements_are_numbered shape (statement.Select table key) }
planned_words shape other h = absurd (cc)
