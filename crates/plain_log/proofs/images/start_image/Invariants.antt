use Rattle.std.proofs.Common.{◌≡◌, ◌≤◌, length, reverse, take}
use Rattle.spec_log.specs.Log.{is_unfinished}
use Rattle.spec_log.specs.Images.{taken_back, start_image}
use Rattle.plain_log.proofs.images.start_image.Given as goal

abbrev pub invariant-loop-i : goal.invariant-loop-i
invariant-loop-i l = record {
  inside : l.i ≤ length l.opened;
  same : start_image (reverse l.opened) l.initial.image ≡ taken_back (is_unfinished (reverse l.opened)) (reverse (take l.i l.opened)) l.image;
}

abbrev pub decreases-loop-i : goal.decreases-loop-i
decreases-loop-i l = l.i
