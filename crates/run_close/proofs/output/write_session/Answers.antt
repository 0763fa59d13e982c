use Rattle.std.proofs.Common.{◌<◌, ◌≤◌, length, false, ap, subst, arith}
use Rattle.std.proofs.lemmas.List.{take_all}
use Rattle.spec_script.specs.Replies.{session_text}
use Rattle.vol_dev.specs.Output.{Wrote}
use Rattle.vol_dev.proofs.Output.{wrote_none, wrote_failed}
use Rattle.run_close.proofs.Texts.{more_written, front_written}
use Rattle.run_close.proofs.output.write_session.Goals as goal

pub loop-i-init : goal.loop-i-init
loop-i-init g c = wrote_none _ _

pub returns-in_err-write_reply : goal.returns-in_err-write_reply
returns-in_err-write_reply g c =
    let below : c.loop-i.i < length c.args.replies.now = omega (arith, c.loop-i-test.true, c.loop-i.auto.i-end) in
    wrote_failed _ _ _ _ _ _ c.from_residual.ensures.1
    (front_written _ c.args.session c.loop-i.i c.args.replies.now c.index-replies-i.result _ _ _ below c.index-replies-i.is c.loop-i.invariant c.in_err-write_reply.ensures)

pub loop-i-preserved : goal.loop-i-preserved
loop-i-preserved g c =
    let below : c.loop-i.i < length c.args.replies.now = omega (arith, c.loop-i-test.true, c.loop-i.auto.i-end) in
    more_written _ c.args.session c.loop-i.i c.args.replies.now c.index-replies-i.result _ _ _ below c.index-replies-i.is c.loop-i.invariant false c.in_ok-write_reply.ensures

pub returns : goal.returns
returns g c =
    let all : length c.args.replies.now ≤ c.loop-i.i = omega (arith, c.loop-i-test.false, c.loop-i.auto.i-end) in
    subst (λ l. Wrote g.K.Sink c.args.out.now c.loop-i.out l false) (ap (session_text c.args.session 1) (take_all c.loop-i.i c.args.replies.now all)) c.loop-i.invariant
