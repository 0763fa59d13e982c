use Rattle.std.proofs.Common.{ap}
use Rattle.pg_base.specs.declared.page.Page.{Page}
use Rattle.pg_base.specs.Zeros.{zero_page}
use Rattle.pg_base.proofs.page.Page.zeroed.Goals as goal

pub returns : goal.returns
unfolding zero_page
returns c = ap (λ (page : Page). page.bytes) c.in_ok-new.ensures.ok
