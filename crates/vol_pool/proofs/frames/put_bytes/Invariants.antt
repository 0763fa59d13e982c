use Rattle.std.proofs.Common.{◌≡◌, take}
use Rattle.spec_log.specs.Cells.{with_bytes}
use Rattle.vol_pool.proofs.frames.put_bytes.Given as goal

abbrev pub invariant-loop-i : goal.invariant-loop-i
invariant-loop-i l = l.page.bytes ≡ with_bytes l.fn.page.bytes l.off (take l.i l.bytes)
