use Rattle.std.proofs.Common.{◌≡◌, take}
use Rattle.vol_pool.proofs.frames.Frames.copied.Given as goal

abbrev pub invariant-loop-frame : goal.invariant-loop-frame
invariant-loop-frame l = l.frames.items ≡ take l.frame-index l.frame-items
