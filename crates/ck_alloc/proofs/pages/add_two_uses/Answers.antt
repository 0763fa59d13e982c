use Rattle.ck_alloc.proofs.Growing.{two_of}
use Rattle.ck_alloc.proofs.pages.add_two_uses.Goals as goal

pub returns : goal.returns
returns c = two_of c.args.page c.args.uses.now _ _ _ _ c.if-uses-lt2.false c.in_ok-push.ensures.items c.two_uses_error.ensures
