use Rattle.std.proofs.Common.{◌+◌, ◌<◌, ◌||◌, [], ◌∷◌, ◌++◌, sym, ap, ◌∙◌, refl, get_or, take, arith, if◌then◌else◌}
use Rattle.spec_chain.specs.Uses.{is_allocated}
use Rattle.spec_words.specs.Views.{View}
use Rattle.spec_words.specs.Words.{for_each}
use Rattle.db_locks.proofs.LoopLaws.{each_step, each_end}
use Rattle.db_alloc.specs.Marks.{is_in_slot}
use Rattle.db_alloc.specs.Tables.{numbers, byte_looked}
use Rattle.db_alloc.proofs.Chains.{leads_plan}
use Rattle.db_alloc.proofs.Lists.{drop_at, take_at, drop_none, all_at, filter_more}
use Rattle.db_alloc.proofs.Steps.{does_plan, each_exit_as}
use Rattle.db_alloc.proofs.pages.read_pages.Goals as goal

pub add_page-requires-clause-inside : goal.add_page-requires-clause-inside
add_page-requires-clause-inside g c =
    let low = all_at (λ p. p < c.args.table.now.pages) c.args.pages.now c.loop-p.p-index (record { 0 = 0 }) c.loop-p-test.true c.requires.inside in
    let count = c.requires.pages ∙ ap (λ (v : View). v.shape.pages) (sym c.loop-p.invariant.view) in
    omega (arith, low, count)

pub returns-in_err-add_page-clause-does : goal.returns-in_err-add_page-clause-does
returns-in_err-add_page-clause-does g c =
    let a = g.P.PlanPages.state c.args.v.now in
    each_exit_as (byte_looked a.view.shape) _ _ _ _
    (leads_plan (ap (for_each (byte_looked a.view.shape)) (drop_at c.args.pages.now c.loop-p.p-index (record { 0 = 0 }) c.loop-p-test.true)) c.loop-p.invariant.leads)
    (does_plan (ap (λ (v : View). byte_looked v.shape (get_or c.args.pages.now c.loop-p.p-index (record { 0 = 0 })).0) c.loop-p.invariant.view) c.in_err-add_page.ensures.does)
    c.from_residual.ensures.1

pub loop-p-preserved : goal.loop-p-preserved
loop-p-preserved g c =
    let a = g.P.PlanPages.state c.args.v.now in
    record {
      leads = each_step (byte_looked a.view.shape) _ _
          (leads_plan (ap (for_each (byte_looked a.view.shape)) (drop_at c.args.pages.now c.loop-p.p-index (record { 0 = 0 }) c.loop-p-test.true)) c.loop-p.invariant.leads)
          (does_plan (ap (λ (v : View). byte_looked v.shape (get_or c.args.pages.now c.loop-p.p-index (record { 0 = 0 })).0) c.loop-p.invariant.view) c.in_ok-add_page.ensures.does);
      told = λ told.
          filter_more (λ p. is_in_slot (numbers c.args.slots.now) p || is_allocated a.view.shape.geometry a.view.now p) (numbers (take c.loop-p.p-index c.args.pages.now)) (numbers (take (c.loop-p.p-index + 1) c.args.pages.now)) (get_or c.args.pages.now c.loop-p.p-index (record { 0 = 0 })).0
          _ _ _ (take_at c.args.pages.now c.loop-p.p-index (record { 0 = 0 }) c.loop-p-test.true) refl (c.loop-p.invariant.told told)
          (c.in_ok-add_page.ensures.told (c.loop-p.invariant.leads.stays.told ∙ told)
          ∙ ap (λ (v : View). numbers c.loop-p.found.items ++ (if is_in_slot (numbers c.args.slots.now) (get_or c.args.pages.now c.loop-p.p-index (record { 0 = 0 })).0 || is_allocated v.shape.geometry v.now (get_or c.args.pages.now c.loop-p.p-index (record { 0 = 0 })).0 then (get_or c.args.pages.now c.loop-p.p-index (record { 0 = 0 })).0 ∷ [] else [])) c.loop-p.invariant.view);
      inside = c.in_ok-add_page.ensures.inside c.args.table.now.pages (all_at (λ p. p < c.args.table.now.pages) c.args.pages.now c.loop-p.p-index (record { 0 = 0 }) c.loop-p-test.true c.requires.inside) c.loop-p.invariant.inside;
      few = let before = c.loop-p.invariant.few in let more = c.in_ok-add_page.ensures.few in omega (arith, before, more);
      view = c.add_page.ensures.view ∙ c.loop-p.invariant.view;
    }

pub returns-clause-does : goal.returns-clause-does
returns-clause-does g c =
    let a = g.P.PlanPages.state c.args.v.now in
    each_end (byte_looked a.view.shape) (leads_plan (ap (for_each (byte_looked a.view.shape)) (drop_none c.args.pages.now c.loop-p.p-index c.loop-p-test.false)) c.loop-p.invariant.leads)
