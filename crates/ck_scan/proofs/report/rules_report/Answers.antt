use Rattle.std.proofs.Common.{subst, sym}
use Rattle.spec_check.specs.Errors.{Lists}
use Rattle.spec_tables.specs.Lines.{AreTables}
use Rattle.spec_tables.specs.Written.{IsRuleError}
use Rattle.ck_error.proofs.GatheringLaws.{lists_in_order}
use Rattle.ck_scan.proofs.Reports.{Joins, rule_errors}
use Rattle.ck_scan.proofs.TableLaws.{tables_found}
use Rattle.ck_scan.proofs.report.rules_report.Goals as goal

pub returns : goal.returns
returns c = λ image of shown.
    let m = c.args.map.now in
    let sound = c.requires in
    let first = c.in_ok-by_themselves.by_themselves.items in
    let one : Joins first c.in_ok-alloc_errors.field-0.items c.args.of_pages.items = record { joins = c.in_ok-by_themselves.ensures } in
    let two : Joins c.in_ok-errors.errors.items first c.args.of_trees.items = record { joins = c.in_ok-errors.ensures } in
    let all = rule_errors image m c.in_ok-alloc_errors.field-0.items c.args.of_pages.items c.args.of_trees.items first c.in_ok-errors.errors.items of sound
    (c.in_ok-alloc_errors.ensures image of) shown.pages shown.trees one two in
    record {
      errors = subst (λ l. Lists l (IsRuleError m.geometry image)) (sym c.from_vec.ensures)
          (lists_in_order c.in_ok-errors.errors.items c.in_order.result.items (IsRuleError m.geometry image) c.in_order.ensures.sorted c.in_order.ensures.same all);
      tables = subst (AreTables m.geometry image) (sym c.from_vec-2.ensures) (tables_found image m c.args.lines.items of sound shown.lines);
    }
