use Rattle.std.proofs.Common.{◌≡◌, ◌*◌, ◌++◌}
use Rattle.net_changes.specs.Bytes.{bits_between}
use Rattle.net_changes.proofs.bits.add_byte_bits.Given as goal

abbrev pub invariant-loop-i : goal.invariant-loop-i
invariant-loop-i l = l.changes.items ≡ l.fn.changes.items ++ bits_between l.page.0 l.pair.before.bytes l.pair.after.bytes (8 * l.byte) l.i
