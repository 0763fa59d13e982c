use Rattle.std.proofs.Common.{sym, ◌∙◌, below_more, arith}
use Rattle.net_changes.proofs.PageLaws.{other_bytes, same_bytes}
use Rattle.net_changes.proofs.pages.differ.Goals as goal

pub returns-then-differs : goal.returns-then-differs
returns-then-differs c = other_bytes c.args.pair.now.before.bytes c.args.pair.now.after.bytes c.loop-at.at (sym c.differs.ensures ∙ c.if-differs.true)

pub loop-at-preserved : goal.loop-at-preserved
loop-at-preserved c = below_more _ _ c.loop-at.invariant (sym c.differs.ensures ∙ c.if-differs.false)

pub returns : goal.returns
returns c =
    same_bytes c.args.pair.now.before.bytes c.args.pair.now.after.bytes c.is_whole.ensures.long c.is_whole-2.ensures.long (λ i lt. c.loop-at.invariant i (omega (arith, lt)))
