use Rattle.law_extents.proofs.Locality.{extent_is_local}
use Rattle.law_extents.proofs.WholeFile.{extents_are_all}
use Rattle.law_extents.proofs.extent_laws.Goals as goal

pub returns : goal.returns
returns c = record { local = extent_is_local; all = extents_are_all }
