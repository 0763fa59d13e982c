use Rattle.law_shape.proofs.Allowed.{replies_are_allowed}
use Rattle.law_shape.proofs.reply_law.Goals as goal

pub returns : goal.returns
returns c = replies_are_allowed
