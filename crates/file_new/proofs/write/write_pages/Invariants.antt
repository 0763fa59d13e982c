use Rattle.std.proofs.Common.{◌≡◌, ◌≤◌}
use Rattle.file_new.specs.Writing.{written}
use Rattle.file_new.proofs.write.write_pages.Given as goal

abbrev pub invariant-loop-p : goal.invariant-loop-p
invariant-loop-p g l =
    (g.V.Volume.contents l.volume ≡ written l.g l.pages l.p (g.V.Volume.contents l.fn.volume))
    × (g.V.Volume.faults l.fn.volume ≤ g.V.Volume.faults l.volume)
