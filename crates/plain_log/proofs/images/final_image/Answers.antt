use Rattle.plain_log.proofs.Folds.{applied_more}
use Rattle.plain_log.proofs.images.final_image.Goals as goal

pub loop-i-preserved : goal.loop-i-preserved
loop-i-preserved c =
    applied_more c.args.items.now c.args.opened c.loop-i.i c.index-items-i.result c.args.b c.loop-i.image c.apply_item.new.image
    c.loop-i.auto.i c.loop-i-test.true c.index-items-i.is c.loop-i.invariant c.in_ok-apply_item.ensures
