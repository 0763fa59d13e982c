use Rattle.std.proofs.Common.{sym, ◌∙◌}
use Rattle.spec_log.specs.Log.{ends}
use Rattle.plain_log.proofs.Reverse.{any_hit_at, any_more_false_at}
use Rattle.plain_log.proofs.scan.has_ended.Goals as goal

pub returns-then-item_ends : goal.returns-then-item_ends
returns-then-item_ends c = sym (any_hit_at (ends c.args.t) c.args.items.now c.loop-item.item-index c.item-item.result c.loop-item-test.true c.item-item.is (sym c.item_ends.ensures ∙ c.if-item_ends.true))

pub loop-item-preserved : goal.loop-item-preserved
loop-item-preserved c = any_more_false_at (ends c.args.t) c.args.items.now c.loop-item.item-index c.item-item.result c.loop-item-test.true c.item-item.is c.loop-item.invariant (sym c.item_ends.ensures ∙ c.if-item_ends.false)
