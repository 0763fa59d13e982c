use Rattle.std.proofs.Common.{sym, ap, ◌∙◌, subst, []}
use Rattle.spec_script.specs.declared.reply.Reply.{Reply}
use Rattle.spec_script.specs.declared.reply.Reply.TheVariants.{Rows}
use Rattle.spec_words.specs.NetChanges.{FileShape}
use Rattle.spec_words.specs.Heaps as spec
use Rattle.law_net.proofs.InsertTakes.{insert_takes}
use Rattle.db_heap.specs.InsertPlans.{insert_stop}
use Rattle.db_plan.specs.Plans.{WritesBy}
use Rattle.db_plan.proofs.Ends.{wrote}
use Rattle.db_plan.proofs.Refused.{refused_by, insert_other}
use Rattle.db_plan.proofs.statements.plan_insert.Goals as goal

pub written-requires-clause-geometry : goal.written-requires-clause-geometry
written-requires-clause-geometry g c = c.requires.geometry ∙ ap (λ (s : FileShape). s.geometry) (sym c.heap_insert.ensures.stays.shape)

pub written-requires-clause-pages : goal.written-requires-clause-pages
written-requires-clause-pages g c = c.requires.pages ∙ ap (λ (s : FileShape). s.pages) (sym c.heap_insert.ensures.stays.shape)

pub returns-in-Ok : goal.returns-in-Ok
returns-in-Ok g c =
    let old = g.P.PlanPages.state c.args.v.now in
    let new = g.P.PlanPages.state c.heap_insert.new.v in
    let name = c.args.table.now in
    wrote (insert_stop name) c.args.at.now old new (spec.insert_plan old.view.shape name c.args.key c.args.payload.now) (Rows 1 []) c.written.result (insert_takes old.view.shape name c.args.key c.args.payload.now old.view) c.in-Ok.ensures
    (subst (λ (r : Reply). WritesBy c.args.at.now new r c.written.result) c.rows.ensures c.written.ensures)

pub returns-in-Err : goal.returns-in-Err
returns-in-Err g c =
    let old = g.P.PlanPages.state c.args.v.now in
    let new = g.P.PlanPages.state c.heap_insert.new.v in
    let name = c.args.table.now in
    refused_by (insert_stop name) c.args.at.now old new (spec.insert_plan old.view.shape name c.args.key c.args.payload.now) c.in-Err.stop c.of_insert.result (insert_other name c.in-Err.stop) c.in-Err.ensures c.of_insert.ensures
