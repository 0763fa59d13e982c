use Rattle.std.proofs.Common.{◌∙◌, arith}
use Rattle.spec_script.specs.Replies.{shown_byte}
use Rattle.vol_dev.proofs.Output.{wrote_none, wrote_more, wrote_part, wrote_all, wrote_failed}
use Rattle.ck_text.proofs.payload.write_shown.Goals as goal

pub loop-b-init : goal.loop-b-init
loop-b-init g c = wrote_none _ _

pub returns-in_err-write_bytes : goal.returns-in_err-write_bytes
returns-in_err-write_bytes g c =
    wrote_failed _ _ _ _ _ _ c.from_residual.ensures.1
    (wrote_part _ shown_byte _ _ _ _ _ _ c.loop-b-test.true c.loop-b.invariant _ (c.as_slice.ensures.value ∙ c.shown.ensures) c.in_err-write_bytes.ensures)

pub loop-b-preserved : goal.loop-b-preserved
loop-b-preserved g c =
    wrote_more _ shown_byte _ _ _ _ _ _ c.loop-b-test.true c.loop-b.invariant _ _ (c.as_slice.ensures.value ∙ c.shown.ensures) c.in_ok-write_bytes.ensures

pub returns : goal.returns
returns g c = wrote_all _ shown_byte c.args.payload.now c.loop-b.b-index _ _ (omega (arith, c.loop-b-test.false)) c.loop-b.invariant
