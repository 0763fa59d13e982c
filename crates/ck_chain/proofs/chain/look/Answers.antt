use Rattle.std.proofs.Common.{arith, sym, ◌∙◌}
use Rattle.spec_chain.proofs.Pointers.{goes_inside}
use Rattle.ck_chain.proofs.chain.look.Goals as goal

pub met-requires : goal.met-requires
met-requires g c =
    let below = goes_inside c.args.owner.now.geometry c.args.owner.now.pages c.args.walk.now.link.count c.args.walk.now.link.page
    (sym c.fault_of_number.ensures ∙ c.in_default.is) in
    omega (arith, below, c.requires.size)
