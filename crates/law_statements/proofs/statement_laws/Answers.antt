use Rattle.law_statements.proofs.StatementEnds.{statements_are_numbered, statements_keep_beginning}
use Rattle.law_statements.proofs.Statements.{statements_are_good}
use Rattle.law_statements.proofs.Replies.{statements_reply_plainly}
use Rattle.law_statements.proofs.statement_laws.Goals as goal

pub returns : goal.returns
returns c = record { good = statements_are_good; numbered = statements_are_numbered; keep = statements_keep_beginning; plain = statements_reply_plainly }
