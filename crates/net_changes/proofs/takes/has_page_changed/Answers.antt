use Rattle.std.proofs.Common.{sym, ◌∙◌}
use Rattle.net_changes.proofs.AlikePages.{stays_same}
use Rattle.net_changes.proofs.takes.has_page_changed.Goals as goal

pub returns-else-read_put : goal.returns-else-read_put
returns-else-read_put g c = λ told. c.if-read_put.false ∙ sym (stays_same _ _ _ (c.read_put.ensures.same c.if-read_put.false told))
