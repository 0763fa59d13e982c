use Rattle.law_steps.proofs.LeftParts.{slot_parts, mark_parts, growth_parts, single_page_parts, marked_page_parts, freed_single_parts, freed_last_parts}
use Rattle.law_steps.proofs.part_laws.Goals as goal

pub returns : goal.returns
returns c = record {
  slot = λ g image image' row slot p shape clean puts. slot_parts g image image' row slot p (record { shape = shape; clean = clean }) puts;
  mark = λ g image image' row k e p shape clean marks. mark_parts g image image' row k e p (record { shape = shape; clean = clean }) marks;
  growth = λ g image image' row last p shape clean grows. growth_parts g image image' row last p (record { shape = shape; clean = clean }) grows;
  single = λ g image image' row p shape clean sets. single_page_parts g image image' row p (record { shape = shape; clean = clean }) sets;
  marked = λ g image image' row p shape clean sets. marked_page_parts g image image' row p (record { shape = shape; clean = clean }) sets;
  single_freed = λ g image image' row p shape clean frees. freed_single_parts g image image' row p (record { shape = shape; clean = clean }) frees;
  last_freed = λ g image image' row p shape clean frees. freed_last_parts g image image' row p (record { shape = shape; clean = clean }) frees;
}
