use Rattle.law_steps.proofs.ExactSgam.{step_exact}
use Rattle.law_steps.proofs.sgam_law.Goals as goal

pub returns : goal.returns
returns c = λ g image image' row shape clean step exact. step_exact g image image' row (record { shape = shape; clean = clean }) step exact
