use Rattle.law_cover.proofs.Places.{extents_guard_bits, pages_guard_bytes}
use Rattle.law_cover.proofs.place_laws.Goals as goal

pub returns : goal.returns
returns c = record { bits = extents_guard_bits; bytes = pages_guard_bytes }
