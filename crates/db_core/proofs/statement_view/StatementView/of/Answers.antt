use Rattle.db_core.specs.StatementViewLaws.{begins_so}
use Rattle.db_core.proofs.statement_view.StatementView.of.Goals as goal

pub returns-clause-begins : goal.returns-clause-begins
returns-clause-begins c = begins_so c.args.state.now c.args.at c.new.result.items c.new-2.result.items c.new-3.result.items c.new.ensures.items c.new-3.ensures.items
