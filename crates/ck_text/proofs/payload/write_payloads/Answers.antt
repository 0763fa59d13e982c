use Rattle.std.proofs.Common.{ap, arith}
use Rattle.spec_script.specs.Replies.{payload_line}
use Rattle.vol_dev.proofs.Output.{wrote_none, wrote_more, wrote_part, wrote_all, wrote_failed}
use Rattle.ck_text.proofs.payload.write_payloads.Goals as goal

pub loop-payload-init : goal.loop-payload-init
loop-payload-init g c = wrote_none _ _

pub returns-in_err-write_payload_line : goal.returns-in_err-write_payload_line
returns-in_err-write_payload_line g c =
    wrote_failed _ _ _ _ _ _ c.from_residual.ensures.1
    (wrote_part _ payload_line _ _ _ _ _ _ c.loop-payload-test.true c.loop-payload.invariant _ (ap payload_line c.payload-item.is) c.in_err-write_payload_line.ensures)

pub loop-payload-preserved : goal.loop-payload-preserved
loop-payload-preserved g c =
    wrote_more _ payload_line _ _ _ _ _ _ c.loop-payload-test.true c.loop-payload.invariant _ _ (ap payload_line c.payload-item.is) c.in_ok-write_payload_line.ensures

pub returns : goal.returns
returns g c = wrote_all _ payload_line _ _ _ _ (omega (arith, c.loop-payload-test.false)) c.loop-payload.invariant
