use Rattle.spec_script.specs.Lines.{IsStatementLine}
use Rattle.sql_script.proofs.OneReading.{says_one, never_both, one_fault}
use Rattle.sql_script.proofs.Printed.{read_again}
use Rattle.sql_script.proofs.Sentences.{one_statement}
use Rattle.sql_script.proofs.laws.script_law.Goals as goal

pub returns-clause-one : goal.returns-clause-one
returns-clause-one c = says_one IsStatementLine one_statement

pub returns-clause-never_both : goal.returns-clause-never_both
returns-clause-never_both c = never_both IsStatementLine

pub returns-clause-one_fault : goal.returns-clause-one_fault
returns-clause-one_fault c = one_fault IsStatementLine

pub returns-clause-again : goal.returns-clause-again
returns-clause-again c = read_again
