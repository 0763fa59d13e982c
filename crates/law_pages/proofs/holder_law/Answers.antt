use Rattle.law_pages.proofs.Sessions.{holder_is_exact}
use Rattle.law_pages.proofs.holder_law.Goals as goal

pub returns : goal.returns
returns c = holder_is_exact
