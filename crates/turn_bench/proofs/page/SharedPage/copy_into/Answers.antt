use Rattle.std.proofs.Common.{arith}
use Rattle.turn_bench.proofs.Lists.{replicate-prefix}
use Rattle.turn_bench.proofs.page.SharedPage.copy_into.Goals as goal

pub returns-clause-grown : goal.returns-clause-grown
returns-clause-grown c = replicate-prefix 0 c.args.self.now.copies c.saturating_add-self.result (let sum = c.saturating_add-self.ensures in omega arith)
