use Rattle.std.proofs.Common.{◌<◌, sym, ap, ◌∙◌}
use Rattle.spec_words.specs.NetChanges.{FileShape}
use Rattle.db_cat.specs.Rows.{row_of}
use Rattle.db_alloc.specs.Tables.{numbers}
use Rattle.db_alloc.proofs.Lists.{drop_at, drop_none, all_at}
use Rattle.db_heap.proofs.SelectSteps.{gathered_begin, gathered_step, gathered_exit, gathered_end}
use Rattle.db_heap.proofs.select.find_payloads.Goals as goal

pub add_page-requires-clause-geometry : goal.add_page-requires-clause-geometry
add_page-requires-clause-geometry g c = c.requires.geometry ∙ ap (λ (shape : FileShape). shape.geometry) (sym c.loop-p.invariant.leads.stays.shape)

pub add_page-requires-clause-pages : goal.add_page-requires-clause-pages
add_page-requires-clause-pages g c = c.requires.pages ∙ ap (λ (shape : FileShape). shape.pages) (sym c.loop-p.invariant.leads.stays.shape)

pub add_page-requires-clause-inside : goal.add_page-requires-clause-inside
add_page-requires-clause-inside g c = all_at (λ p. p < c.args.table.now.pages) c.args.pages.now c.loop-p.p-index (record { 0 = 0 }) c.loop-p-test.true c.requires.inside

pub loop-p-init : goal.loop-p-init
loop-p-init g c = gathered_begin (g.P.PlanPages.state c.args.v.now) (row_of c.args.table.now.row) c.args.key (numbers c.args.pages.now) c.new-found.result.items c.new-found.ensures.items

pub loop-p-preserved : goal.loop-p-preserved
loop-p-preserved g c =
    gathered_step (row_of c.args.table.now.row) c.args.key (numbers c.args.pages.now) _ _ _ _ _ _ (drop_at c.args.pages.now c.loop-p.p-index (record { 0 = 0 }) c.loop-p-test.true) c.loop-p.invariant
    c.in_ok-add_page.ensures.does c.in_ok-add_page.ensures.found

pub returns-in_err-add_page : goal.returns-in_err-add_page
returns-in_err-add_page g c =
    gathered_exit (row_of c.args.table.now.row) c.args.key (numbers c.args.pages.now) _ _ _ _ _ _ (drop_at c.args.pages.now c.loop-p.p-index (record { 0 = 0 }) c.loop-p-test.true) c.loop-p.invariant
    c.in_err-add_page.ensures.does c.from_residual.ensures.1

pub returns : goal.returns
returns g c = gathered_end (row_of c.args.table.now.row) c.args.key (numbers c.args.pages.now) _ _ (drop_none c.args.pages.now c.loop-p.p-index c.loop-p-test.false) c.loop-p.invariant
