use Rattle.net_changes.proofs.BitLaws.{bits_zero, bits_step, below_ceil}
use Rattle.net_changes.proofs.bits.add_bits.Goals as goal

pub loop-byte-init : goal.loop-byte-init
loop-byte-init c = bits_zero c.args.page.0 c.args.pair.now.before.bytes c.args.pair.now.after.bytes c.args.count _

pub loop-byte-preserved : goal.loop-byte-preserved
loop-byte-preserved c =
    bits_step c.args.page.0 c.args.pair.now.before.bytes c.args.pair.now.after.bytes c.loop-byte.byte c.args.count _ _ _ (below_ceil c.loop-byte.byte c.args.count _ c.div_ceil-byte-end.ensures c.loop-byte-test.true)
    c.loop-byte.invariant c.in_ok-add_byte_bits.ensures
