use Rattle.std.proofs.Common.{◌≡◌, ◌++◌, map}
use Rattle.std.specs.List.{range_with_len}
use Rattle.spec_file.specs.Image.{bit}
use Rattle.ck_alloc.proofs.map_bits.push_bits.Given as goal

abbrev pub invariant-loop-i : goal.invariant-loop-i
invariant-loop-i l = l.bits.items ≡ l.initial.bits.items ++ map (bit l.page.bytes) (range_with_len 0 l.i)
