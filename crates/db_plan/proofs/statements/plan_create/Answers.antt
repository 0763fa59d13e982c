use Rattle.std.proofs.Common.{sym, ap, ◌∙◌}
use Rattle.spec_script.specs.declared.reply.Reply.TheVariants.{Done}
use Rattle.spec_words.specs.NetChanges.{FileShape}
use Rattle.spec_statements.specs.Objects.{create_plan}
use Rattle.law_statements.proofs.ObjectTakes.{create_takes}
use Rattle.db_table.specs.Creates.{create_stop}
use Rattle.db_plan.proofs.Ends.{wrote}
use Rattle.db_plan.proofs.Refused.{refused_by, create_other}
use Rattle.db_plan.proofs.statements.plan_create.Goals as goal

pub written-requires-clause-geometry : goal.written-requires-clause-geometry
written-requires-clause-geometry g c = c.requires.geometry ∙ ap (λ (s : FileShape). s.geometry) (sym c.create_heap.ensures.stays.shape)

pub written-requires-clause-pages : goal.written-requires-clause-pages
written-requires-clause-pages g c = c.requires.pages ∙ ap (λ (s : FileShape). s.pages) (sym c.create_heap.ensures.stays.shape)

pub returns-in-Ok : goal.returns-in-Ok
returns-in-Ok g c =
    let old = g.P.PlanPages.state c.args.v.now in
    let new = g.P.PlanPages.state c.create_heap.new.v in
    let name = c.args.table.now in
    wrote (create_stop name) c.args.at.now old new (create_plan old.view.shape name) Done c.written.result (create_takes old.view.shape name old.view) c.in-Ok.ensures c.written.ensures

pub returns-in-Err : goal.returns-in-Err
returns-in-Err g c =
    let old = g.P.PlanPages.state c.args.v.now in
    let new = g.P.PlanPages.state c.create_heap.new.v in
    let name = c.args.table.now in
    refused_by (create_stop name) c.args.at.now old new (create_plan old.view.shape name) c.in-Err.stop c.of_create.result (create_other name c.in-Err.stop) c.in-Err.ensures c.of_create.ensures
