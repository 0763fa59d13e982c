use Rattle.db_alloc.proofs.GrowSteps.{last_at}
use Rattle.db_alloc.proofs.grow.last_page.Goals as goal

pub returns : goal.returns
returns c = last_at c.args.chain.now (record { 0 = 0 }) c.requires
