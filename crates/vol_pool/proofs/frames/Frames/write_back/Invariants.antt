use Rattle.std.proofs.Common.{◌≤◌, ◌++◌, take, drop}
use Rattle.vol_pool.specs.Writing.{Leaves}
use Rattle.vol_pool.proofs.frames.Frames.write_back.Given as goal

abbrev pub invariant-loop-p : goal.invariant-loop-p
invariant-loop-p g l =
    Leaves (λ before. take l.p l.self ++ drop l.p before) (g.V.Volume.contents l.fn.volume) (g.V.Volume.contents l.volume)
    × (g.V.Volume.faults l.fn.volume ≤ g.V.Volume.faults l.volume)
