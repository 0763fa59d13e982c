use Rattle.std.proofs.Common.{◌<◌, sym, ap, ◌∙◌, arith}
use Rattle.spec_words.specs.NetChanges.{FileShape}
use Rattle.db_cat.specs.Rows.{row_of}
use Rattle.db_alloc.specs.Tables.{numbers}
use Rattle.db_alloc.proofs.Lists.{drop_at, drop_none, all_at}
use Rattle.db_heap.proofs.CountSteps.{counted_begin, counted_step, counted_exit, counted_end}
use Rattle.db_heap.proofs.count.count_rows.Goals as goal

pub read_heap_page-requires-clause-geometry : goal.read_heap_page-requires-clause-geometry
read_heap_page-requires-clause-geometry g c = c.requires.geometry ∙ ap (λ (shape : FileShape). shape.geometry) (sym c.loop-p.invariant.counted.leads.stays.shape)

pub read_heap_page-requires-clause-pages : goal.read_heap_page-requires-clause-pages
read_heap_page-requires-clause-pages g c = c.requires.pages ∙ ap (λ (shape : FileShape). shape.pages) (sym c.loop-p.invariant.counted.leads.stays.shape)

pub read_heap_page-requires-clause-inside : goal.read_heap_page-requires-clause-inside
read_heap_page-requires-clause-inside g c = all_at (λ p. p < c.args.table.now.pages) c.args.pages.now c.loop-p.p-index (record { 0 = 0 }) c.loop-p-test.true c.requires.inside

pub loop-p-init : goal.loop-p-init
loop-p-init g c = record { counted = counted_begin (g.P.PlanPages.state c.args.v.now) (row_of c.args.table.now.row) (numbers c.args.pages.now); low = omega arith }

pub loop-p-preserved : goal.loop-p-preserved
loop-p-preserved g c =
    let low = c.loop-p.invariant.low in
    record {
      counted = counted_step (row_of c.args.table.now.row) (numbers c.args.pages.now) _ _ _ c.loop-p.sum _ _ (drop_at c.args.pages.now c.loop-p.p-index (record { 0 = 0 }) c.loop-p-test.true) c.loop-p.invariant.counted
          c.in_ok-read_heap_page.ensures.does c.row_count.ensures;
      low = omega (arith, low);
    }

pub returns-in_err-read_heap_page : goal.returns-in_err-read_heap_page
returns-in_err-read_heap_page g c =
    counted_exit (row_of c.args.table.now.row) (numbers c.args.pages.now) _ _ _ c.loop-p.sum _ _ (drop_at c.args.pages.now c.loop-p.p-index (record { 0 = 0 }) c.loop-p-test.true) c.loop-p.invariant.counted
    c.in_err-read_heap_page.ensures.does c.from_residual.ensures.1

pub returns : goal.returns
returns g c = counted_end (row_of c.args.table.now.row) (numbers c.args.pages.now) _ c.loop-p.sum (drop_none c.args.pages.now c.loop-p.p-index c.loop-p-test.false) c.loop-p.invariant.counted
