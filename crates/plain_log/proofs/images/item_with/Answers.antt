use Rattle.std.proofs.Common.{◌<◌, sym, ap, ◌∙◌, reverse, arith}
use Rattle.spec_log.specs.Log.{item_at}
use Rattle.plain_log.proofs.Named.{none_at_zero, got_at}
use Rattle.plain_log.proofs.images.item_with.Goals as goal

pub returns-then-lsn-eq0 : goal.returns-then-lsn-eq0
returns-then-lsn-eq0 c = none_at_zero c.args.items.now ∙ ap (item_at (reverse c.args.items.now)) (sym c.if-lsn-eq0.true)

pub returns : goal.returns
returns c = let above : 0 < c.args.lsn.0 = omega arith in c.item_from.ensures ∙ got_at c.args.items.now c.args.lsn.0 above
