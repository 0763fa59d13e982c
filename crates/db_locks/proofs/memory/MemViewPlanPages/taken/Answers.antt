use Rattle.std.proofs.Common.{sym, ◌∙◌}
use Rattle.db_locks.proofs.MemoryImages.{none_passed_over}
use Rattle.db_locks.proofs.memory.MemViewPlanPages.taken.Goals as goal

pub returns : goal.returns
returns c = c.deref.ensures.value ∙ c.args.self.now.ordered ∙ sym (none_passed_over _)
