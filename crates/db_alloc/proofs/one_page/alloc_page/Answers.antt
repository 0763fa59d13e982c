use Rattle.std.proofs.Common.{ℕ, ◌++◌, [], Some, None, refl, sym, ap, ◌∙◌}
use Rattle.spec_words.specs.NetChanges.{FileShape}
use Rattle.spec_words.specs.Words.{found_or}
use Rattle.spec_alloc.specs.SinglePages.{no_page}
use Rattle.db_cat.specs.Rows.{row_of}
use Rattle.db_locks.specs.Does.{stop_of}
use Rattle.db_locks.proofs.PlanLaws.{does_after, does_stop, does_give, stays_then}
use Rattle.db_alloc.specs.Drops.{owned_read}
use Rattle.db_alloc.specs.Objects.{page_had}
use Rattle.db_alloc.specs.Tables.{numbers}
use Rattle.db_alloc.proofs.ObjectSteps.{page_stopped}
use Rattle.db_alloc.proofs.OnePageSteps.{object_plan, was_read}
use Rattle.db_alloc.proofs.SingleSteps.{does_next, found_as}
use Rattle.db_alloc.proofs.Steps.{does_plan, does_exit_as, does_ok}
use Rattle.db_alloc.proofs.one_page.alloc_page.Goals as goal

pub returns-in_err-owned-clause-does : goal.returns-in_err-owned-clause-does
returns-in_err-owned-clause-does g c =
    let a = g.P.PlanPages.state c.args.v.now in
    does_plan (object_plan a.view.shape (row_of c.args.table.now.row) (numbers c.args.path.now))
    (page_stopped _ _ (does_stop {meaning = stop_of} stop_of _ c.in_err-owned.field-0.0 refl c.in_err-owned.ensures.does) c.from_residual-in_err-owned.ensures.1)

pub returns-in_err-p-clause-does : goal.returns-in_err-p-clause-does
returns-in_err-p-clause-does g c =
    let a = g.P.PlanPages.state c.args.v.now in
    let row = row_of c.args.table.now.row in
    let path = numbers c.args.path.now in
    let chain = numbers c.in_ok-owned.owned.chain.numbers.items in
    let read = c.in_ok-owned.ensures.does in
    does_plan (object_plan a.view.shape row path)
    (does_after _ (does_ok {meaning = stop_of} read)
    (does_exit_as _ _ c.in_err-p.field-0.0 _ refl
    (does_plan (ap (λ (s : FileShape). page_had s row chain path) read.stays.shape) (c.in_err-p.ensures.does ([] ++ (owned_read a.view.shape row a.view).reached) (was_read row chain _ read)))
    c.from_residual-in_err-p.ensures.1))

pub no_page-requires : goal.no_page-requires
no_page-requires g c =
    let a = g.P.PlanPages.state c.args.v.now in
    let row = row_of c.args.table.now.row in
    let chain = numbers c.in_ok-owned.owned.chain.numbers.items in
    let read = c.in_ok-owned.ensures.does in
    let had = c.in_ok-p.ensures.does ([] ++ (owned_read a.view.shape row a.view).reached) (was_read row chain _ read) in
    record { pages = c.requires.pages ∙ ap (λ (s : FileShape). s.pages) (sym (stays_then read.stays had.stays).shape) }

pub returns-in-Some-clause-does : goal.returns-in-Some-clause-does
returns-in-Some-clause-does g c =
    let a = g.P.PlanPages.state c.args.v.now in
    let d = g.P.PlanPages.state c.next_page.new.v in
    let row = row_of c.args.table.now.row in
    let path = numbers c.args.path.now in
    let chain = numbers c.in_ok-owned.owned.chain.numbers.items in
    let read = c.in_ok-owned.ensures.does in
    let looked = [] ++ (owned_read a.view.shape row a.view).reached in
    does_plan (object_plan a.view.shape row path)
    (does_after _ (does_ok {meaning = stop_of} read)
    (does_next (λ found. found_or found (no_page a.view.shape))
    (does_plan (ap (λ (s : FileShape). page_had s row chain path) read.stays.shape) (found_as _ (Some c.in-Some.p) c.in-Some.is (c.in_ok-p.ensures.does looked (was_read row chain _ read))))
    (does_give looked d c.in-Some.p.0)))

pub returns-clause-does : goal.returns-clause-does
returns-clause-does g c =
    let a = g.P.PlanPages.state c.args.v.now in
    let row = row_of c.args.table.now.row in
    let path = numbers c.args.path.now in
    let chain = numbers c.in_ok-owned.owned.chain.numbers.items in
    let read = c.in_ok-owned.ensures.does in
    let looked = [] ++ (owned_read a.view.shape row a.view).reached in
    let had = c.in_ok-p.ensures.does looked (was_read row chain _ read) in
    does_plan (object_plan a.view.shape row path)
    (does_after _ (does_ok {meaning = stop_of} read)
    (does_next (λ found. found_or found (no_page a.view.shape))
    (does_plan (ap (λ (s : FileShape). page_had s row chain path) read.stays.shape) (found_as _ None c.in-None.is had))
    (does_plan (ap (λ (s : FileShape). no_page {A = ℕ} s) (had.stays.shape ∙ read.stays.shape)) (c.no_page.ensures looked))))
