use Rattle.std.proofs.Common.{ℕ, ◌<◌, ◌==◌, List, [], ◌++◌, sym, ap, ◌∙◌, subst, refl}
use Rattle.std.specs.List.{list_any}
use Rattle.spec_file.specs.declared.data.PageNo.{PageNo}
use Rattle.spec_words.specs.Views.{View, Plan}
use Rattle.db_cat.specs.Rows.{row_of}
use Rattle.db_locks.specs.declared.plan_pages.PageStop.TheVariants.{Bad}
use Rattle.db_locks.proofs.PlanLaws.{does_after, does_exit, does_good, does_bad, does_stop}
use Rattle.db_locks.specs.Does.{stop_of}
use Rattle.db_alloc.specs.Drops.{owned_read}
use Rattle.db_alloc.specs.Frees.{one_freed, owned_freed}
use Rattle.db_alloc.specs.Tables.{numbers}
use Rattle.db_alloc.proofs.ChainReaches.{chain_reached}
use Rattle.db_alloc.proofs.GiveBackSteps.{page_plan, all_in}
use Rattle.db_alloc.proofs.SingleSteps.{does_next}
use Rattle.db_alloc.proofs.Steps.{does_plan}
use Rattle.db_alloc.proofs.give_back.free_page.Goals as goal

pub returns-in_err-owned : goal.returns-in_err-owned
returns-in_err-owned g c =
    let a = g.P.PlanPages.state c.args.v.now in
    let p = c.args.p.0 in
    let next : List ℕ × List ℕ → Plan (Unit {0}) = λ found. one_freed a.view.shape found.0 found.1 p in
    does_plan (page_plan a.view.shape (row_of c.args.table.now.row) p) (does_exit next c.in_err-owned.ensures.does c.from_residual-in_err-owned.ensures.1)

pub returns-then-not-has_page : goal.returns-then-not-has_page
returns-then-not-has_page g c =
    let a = g.P.PlanPages.state c.args.v.now in
    let b = g.P.PlanPages.state c.read_owned.new.v in
    let p = c.args.p.0 in
    let row = row_of c.args.table.now.row in
    let chain = numbers c.in_ok-owned.owned.chain.numbers.items in
    let pages = numbers c.in_ok-owned.owned.pages.items in
    let next : List ℕ × List ℕ → Plan (Unit {0}) = λ found. one_freed a.view.shape found.0 found.1 p in
    let looked = [] ++ (owned_read a.view.shape row a.view).reached in
    let there = ap (λ (ps : List PageNo). list_any (λ q. q == p) (numbers ps)) (sym c.deref.ensures.value) ∙ sym c.has_page.ensures in
    does_plan (page_plan a.view.shape row p)
    (does_after next c.in_ok-owned.ensures.does
    (does_stop {meaning = stop_of} stop_of (λ _. owned_freed a.view.shape chain p) (Bad c.args.p) refl (does_bad looked b (list_any (λ q. q == p) pages) p (Bad c.args.p) refl (λ told. there ∙ c.if-not-has_page.true))))

pub free_owned-requires-clause-inside : goal.free_owned-requires-clause-inside
free_owned-requires-clause-inside g c =
    let a = g.P.PlanPages.state c.args.v.now in
    let p = c.args.p.0 in
    let pages = numbers c.in_ok-owned.owned.pages.items in
    let there = ap (λ (ps : List PageNo). list_any (λ q. q == p) (numbers ps)) (sym c.deref.ensures.value) ∙ sym c.has_page.ensures ∙ c.if-not-has_page.false in
    subst (λ (v : View). p < v.shape.pages) (sym c.in_ok-owned.ensures.view) (subst (λ (n : ℕ). p < n) c.requires.pages (all_in (λ q. q < c.args.table.now.pages) pages p c.in_ok-owned.ensures.inside there))

pub returns : goal.returns
returns g c =
    let a = g.P.PlanPages.state c.args.v.now in
    let b = g.P.PlanPages.state c.read_owned.new.v in
    let p = c.args.p.0 in
    let row = row_of c.args.table.now.row in
    let chain = numbers c.in_ok-owned.owned.chain.numbers.items in
    let pages = numbers c.in_ok-owned.owned.pages.items in
    let next : List ℕ × List ℕ → Plan (Unit {0}) = λ found. one_freed a.view.shape found.0 found.1 p in
    let looked = [] ++ (owned_read a.view.shape row a.view).reached in
    let read = c.in_ok-owned.ensures.does in
    let there = ap (λ (ps : List PageNo). list_any (λ q. q == p) (numbers ps)) (sym c.deref.ensures.value) ∙ sym c.has_page.ensures ∙ c.if-not-has_page.false in
    does_plan (page_plan a.view.shape row p)
    (does_after next read
    (does_next (λ _. owned_freed a.view.shape chain p) (does_good looked b (list_any (λ q. q == p) pages) p (λ told. there))
    (does_plan (ap (λ (v : View). owned_freed v.shape chain p) c.in_ok-owned.ensures.view)
    (c.free_owned.ensures looked (λ told. chain_reached a.view.shape row a.view b.view chain pages (read.exact (sym read.stays.told ∙ told)))))))
