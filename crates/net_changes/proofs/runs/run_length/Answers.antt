use Rattle.std.proofs.Common.{sym, ◌∙◌}
use Rattle.net_changes.proofs.RunLaws.{length_more}
use Rattle.net_changes.proofs.runs.run_length.Goals as goal

pub loop-n-preserved : goal.loop-n-preserved
loop-n-preserved c =
    c.loop-n.invariant ∙ length_more c.args.pair.now.before.bytes c.args.pair.now.after.bytes c.args.at c.loop-n.n c.args.most c.loop-n-test.true (sym c.differs.ensures ∙ c.if-not-differs.false)
