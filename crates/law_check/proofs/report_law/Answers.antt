use Rattle.law_check.proofs.ReportLaw.{one_report}
use Rattle.law_check.proofs.report_law.Goals as goal

pub returns : goal.returns
returns c = one_report
