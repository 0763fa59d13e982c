use Rattle.net_changes.proofs.BitLaws.{bit_added, bit_kept}
use Rattle.net_changes.proofs.bits.add_bit.Goals as goal

pub returns-in_ok-push : goal.returns-in_ok-push
returns-in_ok-push c =
    bit_added c.args.page.0 c.args.n c.args.pair.now.before.bytes c.args.pair.now.after.bytes _ _ _ _ _ _ c.map_bit-before.ensures c.map_bit-after.ensures c.if-before-after.true
    c.in_ok-copied.ensures c.in_ok-copied-2.ensures c.in_ok-push.ensures.items

pub returns-else-before-after : goal.returns-else-before-after
returns-else-before-after c =
    bit_kept c.args.page.0 c.args.n c.args.pair.now.before.bytes c.args.pair.now.after.bytes _ _ _ c.map_bit-before.ensures c.map_bit-after.ensures c.if-before-after.false
