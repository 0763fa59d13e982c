use Rattle.std.proofs.Common.{Ok, sym, subst, []}
use Rattle.spec_script.specs.declared.reply.Reply.{Reply}
use Rattle.spec_script.specs.declared.reply.Reply.TheVariants.{Rows}
use Rattle.spec_words.specs.Heaps as spec
use Rattle.law_net.proofs.ReadingLeaves.{count_leaves_view}
use Rattle.db_alloc.specs.Results.{find_stop}
use Rattle.db_plan.specs.declared.planned.Plan.TheVariants.{Read}
use Rattle.db_plan.specs.Plans.{IsPlannedAs}
use Rattle.db_plan.proofs.Ends.{read}
use Rattle.db_plan.proofs.Refused.{refused_by, find_other}
use Rattle.db_plan.proofs.statements.plan_count.Goals as goal

pub returns-in-Ok : goal.returns-in-Ok
returns-in-Ok g c =
    let old = g.P.PlanPages.state c.args.v.now in
    let new = g.P.PlanPages.state c.heap_count.new.v in
    let name = c.args.table.now in
    subst (λ (r : Reply). IsPlannedAs c.args.at.now old new (spec.count_plan old.view.shape name) (Ok (Read r))) (sym c.rows.ensures)
    (read (find_stop name) c.args.at.now old new (spec.count_plan old.view.shape name) (Rows c.in-Ok.count []) (count_leaves_view old.view.shape name old.view) c.requires.begins c.in-Ok.ensures)

pub returns-in-Err : goal.returns-in-Err
returns-in-Err g c =
    let old = g.P.PlanPages.state c.args.v.now in
    let new = g.P.PlanPages.state c.heap_count.new.v in
    let name = c.args.table.now in
    refused_by (find_stop name) c.args.at.now old new (spec.count_plan old.view.shape name) c.in-Err.stop c.of_find.result (find_other name c.in-Err.stop) c.in-Err.ensures c.of_find.ensures
