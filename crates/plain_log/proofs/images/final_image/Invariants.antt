use Rattle.std.proofs.Common.{◌≡◌, true, reverse, take}
use Rattle.spec_log.specs.Images.{applied}
use Rattle.plain_log.proofs.Folds.{part}
use Rattle.plain_log.proofs.images.final_image.Given as goal

abbrev pub invariant-loop-i : goal.invariant-loop-i
invariant-loop-i l = l.image ≡ applied (λ t. true) (reverse (take l.opened l.items)) (reverse (part l.items l.opened l.i)) l.initial.image
