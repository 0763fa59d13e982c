use Rattle.std.proofs.Common.{◌≡◌, ◌<◌, length, arith}
use Rattle.std.proofs.lemmas.Bool.Decides.{nat_tests}
use Rattle.ck_scan.proofs.ReaderLaws.{read_none, want_exit}
use Rattle.ck_scan.proofs.Reports.{check_of_system, checked_together, empty_list}
use Rattle.ck_scan.proofs.together.scan.Goals as goal

pub returns-in_err-system_report-clause-reads : goal.returns-in_err-system_report-clause-reads
returns-in_err-system_report-clause-reads g c = want_exit g.R.SnapReader c.args.readers.now.items c.from_residual.result c.from_residual.ensures.1

pub returns-then-not-is_empty-clause-reads : goal.returns-then-not-is_empty-clause-reads
returns-then-not-is_empty-clause-reads g c = read_none g.R.SnapReader c.args.readers.now.items

pub returns-then-not-is_empty-clause-report : goal.returns-then-not-is_empty-clause-report
returns-then-not-is_empty-clause-report g c = λ image of told.
    let m = c.args.map.now in
    let some : 0 < length m.system.items = grind (arith, nat_tests) in
    check_of_system m.geometry image m.system.items _ some of.system c.in_ok-system_report.ensures.errors c.in_ok-system_report.ensures.tables

pub returns-clause-report : goal.returns-clause-report
returns-clause-report g c =
    let m = c.args.map.now in
    let none : length m.system.items ≡ 0 = grind (arith, nat_tests) in
    checked_together m c.rules_together.result _ (empty_list m.system.items none) c.rules_together.ensures.report
