use Rattle.run_file.proofs.Statements.{all_allowed}
use Rattle.run_file.proofs.text.script_of.Goals as goal

pub returns-in-Ok-clause-proper : goal.returns-in-Ok-clause-proper
returns-in-Ok-clause-proper g c = all_allowed _ _ c.in-Ok.ensures.ok.said
