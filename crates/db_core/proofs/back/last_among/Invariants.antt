use Rattle.std.proofs.Common.{◌≡◌, ◌≤◌}
use Rattle.spec_file.specs.Image.{Image}
use Rattle.db_core.specs.Back.{without}
use Rattle.db_core.proofs.back.last_among.Given as goal

abbrev pub invariant-loop-last : goal.invariant-loop-last
invariant-loop-last l = record {
  low : l.last ≤ l.place;
  same : (image : Image) → without l.ongoing l.items l.place image ≡ without l.ongoing l.items l.last image;
}

abbrev pub decreases-loop-last : goal.decreases-loop-last
decreases-loop-last l = l.last
