-- How planned statements end, whatever their view.
use Rattle.spec_script.specs.declared.reply.Reply.{Reply}
use Rattle.spec_script.specs.declared.statement.Statement.{Statement}
use Rattle.spec_script.specs.declared.statement.Statement.TheVariants as statement
use Rattle.spec_words.specs.NetChanges.{FileShape}
use Rattle.spec_words.specs.Views.{View, End, Gives, Stops, Plan}
use Rattle.spec_statements.specs.Statements.{StatementKind, Transacts, Plans, Checks, kind_of}
use Rattle.law_net.specs.GoodViews.{IfGives}
use Rattle.law_statements.specs.Statements.{HasSameBeginning, IfPlanned, IsNumbered, IfStops, StatementsAreNumbered, StatementsKeepBeginning}
use Rattle.law_statements.proofs.Endings.{EndsWell, EndsAlways, count_ends, select_ends, insert_ends}
use Rattle.law_statements.proofs.AllocEnds.{create_ends, drop_ends}

-- every planned statement
pub statement_ends : (shape : FileShape) (st : Statement) → IfPlanned EndsAlways (kind_of shape st)
statement_ends shape statement.Begin = tt
statement_ends shape statement.Commit = tt
statement_ends shape statement.Rollback = tt
statement_ends shape (statement.CreateHeap table) = create_ends shape table
statement_ends shape (statement.Drop table) = drop_ends shape table
statement_ends shape (statement.Insert table key payload) = insert_ends shape table key payload
statement_ends shape (statement.Count table) = count_ends shape table
statement_ends shape (statement.Select table key) = select_ends shape table key
statement_ends shape (statement.Check workers) = tt

planned_weaker : (P Q : Plan Reply → Type 0) (kind : StatementKind) → ((plan : Plan Reply) → P plan → Q plan) → IfPlanned P kind → IfPlanned Q kind
planned_weaker P Q (Transacts word) w h = tt
planned_weaker P Q (Plans plan) w h = w plan h
planned_weaker P Q Checks w h = tt

numbered : (v : View) (e : End Reply) → EndsWell v e → IfStops IsNumbered e
numbered v (Gives x w) h = tt
numbered v (Stops refusal) h = h

kept : (v : View) (e : End Reply) → EndsWell v e → IfGives (λ x w. HasSameBeginning v w) e
kept v (Gives x w) h = h
kept v (Stops refusal) h = tt

pub statements_are_numbered : StatementsAreNumbered
statements_are_numbered shape st =
    planned_weaker EndsAlways _ (kind_of shape st) (λ plan ends v. numbered v (plan v).ending (ends v)) (statement_ends shape st)

pub statements_keep_beginning : StatementsKeepBeginning
statements_keep_beginning shape st =
    planned_weaker EndsAlways _ (kind_of shape st) (λ plan ends v. kept v (plan v).ending (ends v)) (statement_ends shape st)
