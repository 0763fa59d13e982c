use Rattle.std.proofs.Common.{arith}
use Rattle.spec_check.specs.Text.{error_line}
use Rattle.vol_dev.proofs.Output.{wrote_none, wrote_more, wrote_part, wrote_all, wrote_failed}
use Rattle.ck_text.proofs.report.write_errors.Goals as goal

pub loop-error-init : goal.loop-error-init
loop-error-init g c = wrote_none _ _

pub returns-in_err-write_line : goal.returns-in_err-write_line
returns-in_err-write_line g c =
    wrote_failed _ _ _ _ _ _ c.from_residual.ensures.1
    (wrote_part _ error_line _ _ _ _ _ _ c.loop-error-test.true c.loop-error.invariant _ c.error_text.ensures c.in_err-write_line.ensures)

pub loop-error-preserved : goal.loop-error-preserved
loop-error-preserved g c = wrote_more _ error_line _ _ _ _ _ _ c.loop-error-test.true c.loop-error.invariant _ _ c.error_text.ensures c.in_ok-write_line.ensures

pub returns : goal.returns
returns g c = wrote_all _ error_line _ _ _ _ (omega (arith, c.loop-error-test.false)) c.loop-error.invariant
