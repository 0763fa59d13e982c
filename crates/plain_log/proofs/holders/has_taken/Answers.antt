use Rattle.std.proofs.Common.{sym, ◌∙◌}
use Rattle.spec_log.specs.Log.{takes_it}
use Rattle.plain_log.proofs.Reverse.{any_hit_at, any_more_false_at}
use Rattle.plain_log.proofs.holders.has_taken.Goals as goal

pub returns-then-item_takes : goal.returns-then-item_takes
returns-then-item_takes c = sym (any_hit_at (takes_it c.args.t c.args.r) c.args.items.now c.loop-item.item-index c.item-item.result c.loop-item-test.true c.item-item.is (sym c.item_takes.ensures ∙ c.if-item_takes.true))

pub loop-item-preserved : goal.loop-item-preserved
loop-item-preserved c = any_more_false_at (takes_it c.args.t c.args.r) c.args.items.now c.loop-item.item-index c.item-item.result c.loop-item-test.true c.item-item.is c.loop-item.invariant (sym c.item_takes.ensures ∙ c.if-item_takes.false)
