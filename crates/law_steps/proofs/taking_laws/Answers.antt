use Rattle.law_steps.proofs.FilledSlots.{slot_clean}
use Rattle.law_steps.proofs.MarkedExtents.{mark_clean}
use Rattle.law_steps.proofs.GrownChains.{growth_clean}
use Rattle.law_steps.proofs.Owners.{free_is_takeable}
use Rattle.law_steps.proofs.taking_laws.Goals as goal

pub returns : goal.returns
returns c = record {
  free = λ g image e shape clean inside free. free_is_takeable g image (record { shape = shape; clean = clean }) e inside free;
  slot = λ g image image' row slot p shape clean puts. slot_clean g image image' row slot p (record { shape = shape; clean = clean }) puts;
  mark = λ g image image' row k e p shape clean marks. mark_clean g image image' row k e p (record { shape = shape; clean = clean }) marks;
  growth = λ g image image' row last p shape clean grows. growth_clean g image image' row last p (record { shape = shape; clean = clean }) grows;
}
