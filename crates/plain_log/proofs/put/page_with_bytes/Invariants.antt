use Rattle.std.proofs.Common.{◌≡◌, map}
use Rattle.std.specs.List.{range_with_len}
use Rattle.spec_log.specs.Cells.{byte_with}
use Rattle.plain_log.proofs.put.page_with_bytes.Given as goal

abbrev pub invariant-loop-i : goal.invariant-loop-i
invariant-loop-i l = l.page ≡ map (byte_with l.old l.off l.bytes) (range_with_len 0 l.i)
