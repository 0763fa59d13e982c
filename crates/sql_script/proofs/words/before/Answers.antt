use Rattle.sql_script.proofs.Fronts.{before_is}
use Rattle.sql_script.proofs.words.before.Goals as goal

pub returns : goal.returns
returns c = before_is c.args.line.now c.args.back.now c.strip_suffix.result c.strip_suffix.ensures.cases
