use Rattle.std.proofs.Common.{sym, ◌∙◌}
use Rattle.net_changes.proofs.BitLaws.{byte_kept, bits_none, bit_step, nothing}
use Rattle.net_changes.proofs.bits.add_byte_bits.Goals as goal

pub returns-then-not-differs : goal.returns-then-not-differs
returns-then-not-differs c =
    byte_kept c.args.page.0 c.args.byte c.args.count c.args.pair.now.before.bytes c.args.pair.now.after.bytes _ (sym c.differs.ensures ∙ c.if-not-differs.true)

pub loop-i-init : goal.loop-i-init
loop-i-init c = nothing _ _ (bits_none _ _ _ _)

pub loop-i-preserved : goal.loop-i-preserved
loop-i-preserved c = bit_step _ _ _ _ _ _ _ _ c.loop-i.invariant c.in_ok-add_bit.ensures
