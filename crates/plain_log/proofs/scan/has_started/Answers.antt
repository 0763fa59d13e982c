use Rattle.std.proofs.Common.{sym, ◌∙◌}
use Rattle.spec_log.specs.Log.{starts}
use Rattle.plain_log.proofs.Reverse.{any_hit_at, any_more_false_at}
use Rattle.plain_log.proofs.scan.has_started.Goals as goal

pub returns-then-item_starts : goal.returns-then-item_starts
returns-then-item_starts c = sym (any_hit_at (starts c.args.t) c.args.items.now c.loop-item.item-index c.item-item.result c.loop-item-test.true c.item-item.is (sym c.item_starts.ensures ∙ c.if-item_starts.true))

pub loop-item-preserved : goal.loop-item-preserved
loop-item-preserved c = any_more_false_at (starts c.args.t) c.args.items.now c.loop-item.item-index c.item-item.result c.loop-item-test.true c.item-item.is c.loop-item.invariant (sym c.item_starts.ensures ∙ c.if-item_starts.false)
