use Rattle.law_steps.proofs.OwnPages.{marked_page_clean, single_page_clean}
use Rattle.law_steps.proofs.page_laws.Goals as goal

pub returns : goal.returns
returns c = record {
  single = λ g image image' row p shape clean sets. single_page_clean g image image' row p (record { shape = shape; clean = clean }) sets;
  marked = λ g image image' row p shape clean sets. marked_page_clean g image image' row p (record { shape = shape; clean = clean }) sets;
}
