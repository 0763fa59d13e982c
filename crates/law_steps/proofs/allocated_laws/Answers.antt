use Rattle.law_steps.proofs.AllocatedPages.{slot_gets, marked_gets, mark_gets, growth_keeps, single_gives, marked_gives, last_gives}
use Rattle.law_steps.proofs.allocated_laws.Goals as goal

pub returns : goal.returns
returns c = record {
  slot = λ g image image' row slot p shape clean puts. slot_gets g image image' row slot p (record { shape = shape; clean = clean }) puts;
  marked = λ g image image' row p shape clean sets was is. marked_gets g image image' row p (record { shape = shape; clean = clean }) sets was is;
  extent = λ g image image' row k e p shape clean marks. mark_gets g image image' row k e p (record { shape = shape; clean = clean }) marks;
  growth = λ g image image' row last p shape clean grows. growth_keeps g image image' row last p (record { shape = shape; clean = clean }) grows;
  single_freed = λ g image image' row p shape clean frees. single_gives g image image' row p (record { shape = shape; clean = clean }) frees;
  marked_freed = λ g image image' row p shape clean sets was is. marked_gives g image image' row p (record { shape = shape; clean = clean }) sets was is;
  last_freed = λ g image image' row p shape clean frees was. last_gives g image image' row p (record { shape = shape; clean = clean }) frees was;
}
