use Rattle.std.proofs.Common.{◌∙◌, map, sym, ap, arith}
use Rattle.std.proofs.lemmas.List.{length-map}
use Rattle.spec_run.specs.Progress.{script_of}
use Rattle.checkdb_top.proofs.Shorts.{short_here, short_nowhere, session_here}
use Rattle.checkdb_top.proofs.ended.any_short.Goals as goal

pub returns-then-has_short : goal.returns-then-has_short
returns-then-has_short c =
    let replies = map (λ r. r.now) c.args.replies.now in
    let many = length-map c.args.replies.now (λ r. r.now) in
    sym (short_here c.args.core.now.run.scripts replies c.loop-k.k (omega (arith, many, c.requires.count)) (omega (arith, many, c.loop-k-test.true, c.loop-k.auto.k-end))
    (session_here (λ r. r.now) c.args.core.now.run.scripts c.args.replies.now c.loop-k.k c.script.result.now c.index-replies-k.result (omega (arith, c.loop-k-test.true, c.loop-k.auto.k-end))
    (c.script.ensures ∙ ap (script_of c.args.core.now.run.scripts) (omega arith)) c.index-replies-k.is ∙ sym c.if-has_short.ensures))

pub returns : goal.returns
returns c =
    let replies = map (λ r. r.now) c.args.replies.now in
    let many = length-map c.args.replies.now (λ r. r.now) in
    sym (short_nowhere c.args.core.now.run.scripts replies (omega (arith, many, c.requires.count))
    (λ k below. c.loop-k.invariant k (omega (arith, below, many, c.loop-k-test.false))))
