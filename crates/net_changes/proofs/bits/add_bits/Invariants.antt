use Rattle.std.proofs.Common.{◌≡◌, ◌*◌, ◌++◌, min}
use Rattle.net_changes.specs.Bytes.{bits_between}
use Rattle.net_changes.proofs.bits.add_bits.Given as goal

abbrev pub invariant-loop-byte : goal.invariant-loop-byte
invariant-loop-byte l = l.changes.items ≡ l.fn.changes.items ++ bits_between l.page.0 l.pair.before.bytes l.pair.after.bytes 0 (min (8 * l.byte) l.count)
