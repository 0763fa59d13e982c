-- The small files that were worked by hand, computed.
use Rattle.std.proofs.Common.{refl}
use Rattle.spec_make.specs.Rules.{byte_where}
use Rattle.law_make.specs.Examples.{FreeExtents, MixedExtent, PfsBytes, FirstBytes}

-- each is what the check computes
pub free_extents : FreeExtents
unfolding byte_where
free_extents = (refl, refl, refl)

pub mixed_extent : MixedExtent
unfolding byte_where
mixed_extent = refl

pub pfs_bytes : PfsBytes
pfs_bytes = (refl, refl)

pub first_bytes : FirstBytes
first_bytes = refl
