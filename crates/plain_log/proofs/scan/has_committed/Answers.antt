use Rattle.std.proofs.Common.{sym, ◌∙◌}
use Rattle.spec_log.specs.Log.{commits}
use Rattle.plain_log.proofs.Reverse.{any_hit_at, any_more_false_at}
use Rattle.plain_log.proofs.scan.has_committed.Goals as goal

pub returns-then-item_commits : goal.returns-then-item_commits
returns-then-item_commits c = sym (any_hit_at (commits c.args.t) c.args.items.now c.loop-item.item-index c.item-item.result c.loop-item-test.true c.item-item.is (sym c.item_commits.ensures ∙ c.if-item_commits.true))

pub loop-item-preserved : goal.loop-item-preserved
loop-item-preserved c = any_more_false_at (commits c.args.t) c.args.items.now c.loop-item.item-index c.item-item.result c.loop-item-test.true c.item-item.is c.loop-item.invariant (sym c.item_commits.ensures ∙ c.if-item_commits.false)
