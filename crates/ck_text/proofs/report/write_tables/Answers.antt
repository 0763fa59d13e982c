use Rattle.std.proofs.Common.{arith}
use Rattle.spec_check.specs.Text.{table_line}
use Rattle.vol_dev.proofs.Output.{wrote_none, wrote_more, wrote_part, wrote_all, wrote_failed}
use Rattle.ck_text.proofs.report.write_tables.Goals as goal

pub loop-table-init : goal.loop-table-init
loop-table-init g c = wrote_none _ _

pub returns-in_err-write_line : goal.returns-in_err-write_line
returns-in_err-write_line g c =
    wrote_failed _ _ _ _ _ _ c.from_residual.ensures.1
    (wrote_part _ table_line _ _ _ _ _ _ c.loop-table-test.true c.loop-table.invariant _ c.table_text.ensures c.in_err-write_line.ensures)

pub loop-table-preserved : goal.loop-table-preserved
loop-table-preserved g c = wrote_more _ table_line _ _ _ _ _ _ c.loop-table-test.true c.loop-table.invariant _ _ c.table_text.ensures c.in_ok-write_line.ensures

pub returns : goal.returns
returns g c = wrote_all _ table_line _ _ _ _ (omega (arith, c.loop-table-test.false)) c.loop-table.invariant
