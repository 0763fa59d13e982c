use Rattle.sql_script.proofs.Fronts.{after_is}
use Rattle.sql_script.proofs.words.after.Goals as goal

pub returns : goal.returns
returns c = after_is c.args.line.now c.args.front.now c.strip_prefix.result c.strip_prefix.ensures.cases
