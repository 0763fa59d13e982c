use Rattle.std.proofs.Common.{Contains}
use Rattle.spec_extents.specs.Extents.{extent_of}
use Rattle.law_extents.proofs.GoodChanges.{same_good, single_taken, single_filled, byte_set, extent_taken, singles_freed, extent_freed}
use Rattle.law_extents.proofs.change_laws.Goals as goal

pub returns : goal.returns
returns c = record {
  same = λ g image image' e good same. same_good g e (extent_of g image e) (extent_of g image' e) good same;
  single = λ g image image' e p u good takes. single_taken g e p u (extent_of g image e) (extent_of g image' e) good takes;
  filling = λ g image image' e p u good fills. single_filled g e p u (extent_of g image e) (extent_of g image' e) good fills;
  byte = λ g image image' e p good changes. byte_set g e p (extent_of g image e) (extent_of g image' e) good changes;
  extent = λ g image image' e p o good takes. extent_taken g e p o (extent_of g image e) (extent_of g image' e) good takes;
  freeing = λ g image image' e gone good frees. singles_freed g e (Contains gone) (extent_of g image e) (extent_of g image' e) good frees;
  unmarking = λ g image image' e good frees. extent_freed g e (extent_of g image e) (extent_of g image' e) good frees;
}
