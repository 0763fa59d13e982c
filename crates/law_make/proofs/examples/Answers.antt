use Rattle.law_make.proofs.Computed.{free_extents, mixed_extent, pfs_bytes, first_bytes}
use Rattle.law_make.proofs.examples.Goals as goal

pub returns : goal.returns
returns c = record { free = free_extents; mixed = mixed_extent; pfs = pfs_bytes; first = first_bytes }
