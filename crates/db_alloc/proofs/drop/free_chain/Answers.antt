use Rattle.std.proofs.Common.{ℕ, List, [], ◌++◌, All, sym, ap, ◌∙◌, subst}
use Rattle.spec_words.specs.Views.{View, Plan}
use Rattle.db_cat.specs.Rows.{row_of}
use Rattle.db_locks.proofs.PlanLaws.{does_after, does_exit}
use Rattle.db_alloc.specs.Drops.{owned_read, owned_dropped}
use Rattle.db_alloc.specs.Maps.{IsOwnable}
use Rattle.db_alloc.specs.Tables.{numbers}
use Rattle.db_alloc.proofs.DropSteps.{drop_plan, owned_reached}
use Rattle.db_alloc.proofs.Steps.{does_plan}
use Rattle.db_alloc.proofs.drop.free_chain.Goals as goal

pub returns-in_err-owned : goal.returns-in_err-owned
returns-in_err-owned g c =
    let a = g.P.PlanPages.state c.args.v.now in
    let next : List ℕ × List ℕ → Plan (Unit {0}) = λ found. owned_dropped a.view.shape found.0 found.1 in
    does_plan (drop_plan a.view.shape (row_of c.args.table.now.row)) (does_exit next c.in_err-owned.ensures.does c.from_residual-in_err-owned.ensures.1)

pub drop_owned-requires-clause-ownable : goal.drop_owned-requires-clause-ownable
drop_owned-requires-clause-ownable g c =
    subst (λ (v : View). All (IsOwnable v.shape) (numbers c.in_ok-owned.owned.chain.numbers.items)) (sym c.in_ok-owned.ensures.view) c.in_ok-owned.ensures.ownable

pub returns : goal.returns
returns g c =
    let a = g.P.PlanPages.state c.args.v.now in
    let row = row_of c.args.table.now.row in
    let chain = numbers c.in_ok-owned.owned.chain.numbers.items in
    let pages = numbers c.in_ok-owned.owned.pages.items in
    let next : List ℕ × List ℕ → Plan (Unit {0}) = λ found. owned_dropped a.view.shape found.0 found.1 in
    does_plan (drop_plan a.view.shape row)
    (does_after next c.in_ok-owned.ensures.does
    (does_plan (ap (λ (v : View). owned_dropped v.shape chain pages) c.in_ok-owned.ensures.view)
    (c.drop_owned.ensures ([] ++ (owned_read a.view.shape row a.view).reached) (λ told. owned_reached row chain pages c.in_ok-owned.ensures.does (sym c.in_ok-owned.ensures.does.stays.told ∙ told)))))
