use Rattle.ck_scan.proofs.Reports.{report_found}
use Rattle.ck_scan.proofs.report.report_of_together.Goals as goal

pub returns : goal.returns
returns g c = record {
  report = report_found c.args.map.now c.args.found c.in_ok-of_trees.of_trees.items c.rules_report.result c.requires.sound c.requires.roots
      c.in_ok-of_trees.ensures c.rules_report.ensures;
}
