use Rattle.std.proofs.Common.{◌≡◌, reverse, take}
use Rattle.spec_log.specs.Log.{has_committed}
use Rattle.spec_log.specs.Images.{changed}
use Rattle.plain_log.proofs.images.committed_image.Given as goal

abbrev pub invariant-loop-item : goal.invariant-loop-item
invariant-loop-item l = l.image ≡ changed (has_committed (reverse l.log)) (reverse (take l.item-index l.log)) l.initial.image
