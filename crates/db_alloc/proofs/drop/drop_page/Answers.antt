use Rattle.db_alloc.specs.Tables.{numbers}
use Rattle.db_alloc.proofs.DropSteps.{shared_as, drop_shared, drop_marked, drop_exit}
use Rattle.db_alloc.proofs.drop.drop_page.Goals as goal

pub returns-then-is_shared : goal.returns-then-is_shared
returns-then-is_shared g c =
    let a = g.P.PlanPages.state c.args.v.now in
    drop_shared (numbers c.args.chain.now) c.args.p.0 c.is_shared.result _ (λ told. shared_as (numbers c.args.slots.now) (numbers c.args.chain.now) c.args.p.0 a.view c.is_shared.result c.requires.some (c.requires.slots told) c.is_shared.ensures)
    c.if-is_shared.true c.shared_freed.ensures

pub returns-in_err-marked_freed : goal.returns-in_err-marked_freed
returns-in_err-marked_freed g c =
    let a = g.P.PlanPages.state c.args.v.now in
    drop_exit (numbers c.args.chain.now) c.args.p.0 c.is_shared.result _ (λ told. shared_as (numbers c.args.slots.now) (numbers c.args.chain.now) c.args.p.0 a.view c.is_shared.result c.requires.some (c.requires.slots told) c.is_shared.ensures)
    c.if-is_shared.false c.in_err-marked_freed.ensures c.from_residual.ensures.1

pub returns : goal.returns
returns g c =
    let a = g.P.PlanPages.state c.args.v.now in
    drop_marked (numbers c.args.chain.now) c.args.p.0 c.is_shared.result _ (λ told. shared_as (numbers c.args.slots.now) (numbers c.args.chain.now) c.args.p.0 a.view c.is_shared.result c.requires.some (c.requires.slots told) c.is_shared.ensures)
    c.if-is_shared.false c.in_ok-marked_freed.ensures
