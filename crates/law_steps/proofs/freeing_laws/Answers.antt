use Rattle.law_steps.proofs.FreedSlots.{freed_single_clean}
use Rattle.law_steps.proofs.FreedExtents.{freed_last_clean}
use Rattle.law_steps.proofs.freeing_laws.Goals as goal

pub returns : goal.returns
returns c = record {
  single = λ g image image' row p shape clean frees. freed_single_clean g image image' row p (record { shape = shape; clean = clean }) frees;
  last = λ g image image' row p shape clean frees. freed_last_clean g image image' row p (record { shape = shape; clean = clean }) frees;
}
