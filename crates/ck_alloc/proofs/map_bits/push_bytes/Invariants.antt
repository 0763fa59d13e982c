use Rattle.std.proofs.Common.{◌≡◌, ◌++◌, map}
use Rattle.std.specs.List.{range_with_len}
use Rattle.ck_alloc.specs.SystemPlaces.{byte_of}
use Rattle.ck_alloc.proofs.map_bits.push_bytes.Given as goal

abbrev pub invariant-loop-i : goal.invariant-loop-i
invariant-loop-i l = l.bytes.items ≡ l.initial.bytes.items ++ map (byte_of l.page.bytes) (range_with_len 0 l.i)
