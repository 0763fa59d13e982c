use Rattle.std.proofs.Common.{◌≡◌, take}
use Rattle.db_alloc.specs.Drops.{extents}
use Rattle.db_alloc.specs.Near.{whole_extents}
use Rattle.db_alloc.proofs.left.first_extents.Given as goal

abbrev pub invariant-loop-p : goal.invariant-loop-p
invariant-loop-p l = extents l.found.items ≡ whole_extents l.pages (take l.p-index l.near)
