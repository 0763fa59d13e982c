use Rattle.ck_scan.proofs.ScanReports.{unread_answer, pages_answer}
use Rattle.ck_scan.proofs.stepped.SteppedScan.finish.Goals as goal

pub returns-in-Unread : goal.returns-in-Unread
returns-in-Unread c = unread_answer c.args.map.now c.args.self c.system_report.result c.in-Unread.is c.requires.by c.system_report.ensures.errors c.system_report.ensures.tables

pub returns : goal.returns
returns c = pages_answer c.args.map.now c.args.self c.in-Pages.next c.in-Pages.frame c.in-Pages.found c.report_of.result c.in-Pages.is c.requires.by c.requires.none c.report_of.ensures.report
