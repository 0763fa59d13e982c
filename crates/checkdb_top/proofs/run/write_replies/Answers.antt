use Rattle.std.proofs.Common.{◌<◌, ◌≤◌, ◌^◌, List, length, map, false, ap, subst, arith}
use Rattle.std.proofs.lemmas.List.{length-map, take_all}
use Rattle.spec_script.specs.declared.reply.Reply.{Reply}
use Rattle.spec_script.specs.Replies.{text_of}
use Rattle.vol_dev.specs.Output.{Wrote}
use Rattle.vol_dev.proofs.Output.{wrote_none, wrote_failed}
use Rattle.checkdb_top.proofs.Running.{at_index, mapped_here, more_written, front_written}
use Rattle.checkdb_top.proofs.run.write_replies.Goals as goal

pub loop-k-init : goal.loop-k-init
loop-k-init g c = wrote_none _ _

pub write_session-requires : goal.write_session-requires
write_session-requires g c =
    let below : c.loop-k.k < length (map (λ r. r.now) c.args.replies.now) = omega (arith, c.loop-k-test.true, c.loop-k.auto.k-end, length-map c.args.replies.now (λ r. r.now)) in
    at_index (λ (session : List Reply). length session < 2 ^ 32) (map (λ r. r.now) c.args.replies.now) c.loop-k.k c.index-replies-k.result.now c.requires.few below
    (mapped_here (λ r. r.now) c.args.replies.now c.loop-k.k c.index-replies-k.result c.index-replies-k.is)

pub returns-in_err-write_session : goal.returns-in_err-write_session
returns-in_err-write_session g c =
    let below : c.loop-k.k < length (map (λ r. r.now) c.args.replies.now) = omega (arith, c.loop-k-test.true, c.loop-k.auto.k-end, length-map c.args.replies.now (λ r. r.now)) in
    wrote_failed _ _ _ _ _ _ c.from_residual.ensures.1
    (front_written _ c.loop-k.k (map (λ r. r.now) c.args.replies.now) c.index-replies-k.result.now _ _ _ below
    (mapped_here (λ r. r.now) c.args.replies.now c.loop-k.k c.index-replies-k.result c.index-replies-k.is) c.loop-k.invariant c.in_err-write_session.ensures)

pub loop-k-preserved : goal.loop-k-preserved
loop-k-preserved g c =
    let below : c.loop-k.k < length (map (λ r. r.now) c.args.replies.now) = omega (arith, c.loop-k-test.true, c.loop-k.auto.k-end, length-map c.args.replies.now (λ r. r.now)) in
    more_written _ c.loop-k.k (map (λ r. r.now) c.args.replies.now) c.index-replies-k.result.now _ _ _ below
    (mapped_here (λ r. r.now) c.args.replies.now c.loop-k.k c.index-replies-k.result c.index-replies-k.is) c.loop-k.invariant false c.in_ok-write_session.ensures

pub returns : goal.returns
returns g c =
    let all : length (map (λ r. r.now) c.args.replies.now) ≤ c.loop-k.k =
    omega (arith, c.loop-k-test.false, c.loop-k.auto.k-end, length-map c.args.replies.now (λ r. r.now)) in
    subst (λ l. Wrote g.K.Sink c.args.out.now c.loop-k.out l false) (ap text_of (take_all c.loop-k.k (map (λ r. r.now) c.args.replies.now) all)) c.loop-k.invariant
