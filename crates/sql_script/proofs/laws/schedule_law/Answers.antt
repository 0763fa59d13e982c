use Rattle.spec_script.specs.Lines.{IsTurnsLine}
use Rattle.sql_script.proofs.OneReading.{says_one, never_both, one_fault}
use Rattle.sql_script.proofs.Sentences.{one_turns}
use Rattle.sql_script.proofs.laws.schedule_law.Goals as goal

pub returns-clause-one : goal.returns-clause-one
returns-clause-one c sessions few = says_one (IsTurnsLine sessions) (one_turns sessions few)

pub returns-clause-never_both : goal.returns-clause-never_both
returns-clause-never_both c sessions = never_both (IsTurnsLine sessions)

pub returns-clause-one_fault : goal.returns-clause-one_fault
returns-clause-one_fault c sessions = one_fault (IsTurnsLine sessions)
