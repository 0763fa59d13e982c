use Rattle.std.proofs.Common.{ℕ, ◌<◌}
use Rattle.spec_file.specs.Image.{AreBytes, page}
use Rattle.db_core.proofs.bytes.are_of_bytes.Given as goal

abbrev pub invariant-loop-p : goal.invariant-loop-p
invariant-loop-p l = (q : ℕ) → q < l.p → AreBytes (page l.frames q)
