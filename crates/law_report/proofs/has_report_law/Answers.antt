use Rattle.law_report.proofs.Report.{has_report}
use Rattle.law_report.proofs.has_report_law.Goals as goal

pub returns : goal.returns
returns c = has_report
