use Rattle.law_kept.proofs.Statements.{statements_leave_maps, statements_change_taken, statements_leave_sgam}
use Rattle.law_kept.proofs.statement_laws.Goals as goal

pub returns : goal.returns
returns c = record { maps = statements_leave_maps; parts = statements_change_taken; sgam = statements_leave_sgam }
