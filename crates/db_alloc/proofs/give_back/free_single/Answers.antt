use Rattle.std.proofs.Common.{sym, ap, ◌∙◌}
use Rattle.spec_alloc.specs.Freeing.{shared_freed, slots_emptied}
use Rattle.db_locks.proofs.PlanLaws.{does_exit, does_more}
use Rattle.db_alloc.specs.Marks.{first_slots}
use Rattle.db_alloc.specs.Tables.{numbers}
use Rattle.db_alloc.proofs.DropSteps.{leaves_of, chain_same}
use Rattle.db_alloc.proofs.Leaves.{shared_leaves}
use Rattle.db_alloc.proofs.SingleSteps.{does_next}
use Rattle.db_alloc.proofs.give_back.free_single.Goals as goal

pub returns-in_err-shared_freed : goal.returns-in_err-shared_freed
returns-in_err-shared_freed g c = λ looked before.
    does_exit (λ _. slots_emptied (numbers c.args.chain.now) c.args.p.0) (does_more looked c.in_err-shared_freed.ensures) c.from_residual.ensures.1

pub empty_slots-requires-clause-slots : goal.empty_slots-requires-clause-slots
empty_slots-requires-clause-slots g c = λ told.
    let a = g.P.PlanPages.state c.args.v.now in
    let b = g.P.PlanPages.state c.shared_freed.new.v in
    let freed = c.in_ok-shared_freed.ensures in
    let begun = sym freed.stays.told ∙ told in
    let leaves = leaves_of a.view.shape.geometry (shared_freed a.view.shape c.args.p.0) (shared_leaves a.view.shape c.args.p.0 a.view) freed begun in
    c.requires.slots begun ∙ ap first_slots (sym (chain_same a.view.shape a.view b.view (numbers c.args.chain.now) c.requires.chain leaves))

pub returns : goal.returns
returns g c = λ looked before.
    let freed = c.in_ok-shared_freed.ensures in
    does_next (λ _. slots_emptied (numbers c.args.chain.now) c.args.p.0) (does_more looked freed) (c.empty_slots.ensures looked (λ told. before (sym freed.stays.told ∙ told)))
