use Rattle.std.proofs.Common.{w8}
use Rattle.std.proofs.lemmas.Nat.Bits.{bit_at_set_same, bit_at_set_other, bit_at_clear_same, bit_at_clear_other}
use Rattle.pg_maps.proofs.bits.with_bit.Goals as goal

pub returns-then-value-clause-bit : goal.returns-then-value-clause-bit
returns-then-value-clause-bit c = rw c.if-value.true (bit_at_set_same w8 c.args.byte c.args.i c.requires)

pub returns-then-value-clause-others : goal.returns-then-value-clause-others
returns-then-value-clause-others c = λ k within other. bit_at_set_other w8 c.args.byte c.args.i c.requires k other

pub returns-else-value-clause-bit : goal.returns-else-value-clause-bit
returns-else-value-clause-bit c = rw c.if-value.false (bit_at_clear_same w8 c.args.byte c.args.i c.requires)

pub returns-else-value-clause-others : goal.returns-else-value-clause-others
returns-else-value-clause-others c = λ k within other. bit_at_clear_other w8 c.args.byte c.args.i c.requires k within other
