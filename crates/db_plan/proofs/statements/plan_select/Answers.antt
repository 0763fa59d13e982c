use Rattle.std.proofs.Common.{Ok, sym, subst}
use Rattle.spec_script.specs.declared.reply.Reply.{Reply}
use Rattle.spec_words.specs.Heaps as spec
use Rattle.law_net.proofs.ReadingLeaves.{select_leaves_view}
use Rattle.db_alloc.specs.Results.{find_stop}
use Rattle.db_plan.specs.declared.planned.Plan.TheVariants.{Read}
use Rattle.db_plan.specs.Plans.{IsPlannedAs}
use Rattle.db_plan.proofs.Ends.{read}
use Rattle.db_plan.proofs.Refused.{refused_by, find_other}
use Rattle.db_plan.proofs.statements.plan_select.Goals as goal

pub returns-in-Ok : goal.returns-in-Ok
returns-in-Ok g c =
    let old = g.P.PlanPages.state c.args.v.now in
    let new = g.P.PlanPages.state c.heap_select.new.v in
    let name = c.args.table.now in
    let words = spec.select_plan old.view.shape name c.args.key in
    subst (λ (r : Reply). IsPlannedAs c.args.at.now old new words (Ok (Read r))) (sym c.found_rows.ensures)
    (read (find_stop name) c.args.at.now old new words (spec.rows_found c.in-Ok.payloads) (select_leaves_view old.view.shape name c.args.key old.view) c.requires.begins c.in-Ok.ensures)

pub returns-in-Err : goal.returns-in-Err
returns-in-Err g c =
    let old = g.P.PlanPages.state c.args.v.now in
    let new = g.P.PlanPages.state c.heap_select.new.v in
    let name = c.args.table.now in
    refused_by (find_stop name) c.args.at.now old new (spec.select_plan old.view.shape name c.args.key) c.in-Err.stop c.of_find.result (find_other name c.in-Err.stop) c.in-Err.ensures c.of_find.ensures
