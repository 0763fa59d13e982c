use Rattle.ck_chain.proofs.Tests.{differ_is}
use Rattle.ck_chain.proofs.pages.differ.Goals as goal

pub returns : goal.returns
returns c = differ_is _ _
