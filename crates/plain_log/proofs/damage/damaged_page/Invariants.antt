use Rattle.std.proofs.Common.{◌≡◌, ◌≤◌, length, reverse, take}
use Rattle.spec_log.specs.Log.{is_unfinished}
use Rattle.spec_log.specs.Images.{damage_of, damaged_page}
use Rattle.plain_log.proofs.damage.damaged_page.Given as goal

abbrev pub invariant-loop-i : goal.invariant-loop-i
invariant-loop-i l = record {
  inside : l.i ≤ length l.opened;
  same : damaged_page (reverse l.opened) l.initial.image ≡ damage_of (is_unfinished (reverse l.opened)) (reverse (take l.i l.opened)) l.image;
}

abbrev pub decreases-loop-i : goal.decreases-loop-i
decreases-loop-i l = l.i
