use Rattle.std.proofs.Common.{refl, sym, ap, ◌∙◌}
use Rattle.spec_script.specs.declared.reply.Reply.TheVariants.{Done}
use Rattle.spec_words.specs.NetChanges.{FileShape}
use Rattle.spec_alloc.specs.Objects.{new_chain}
use Rattle.spec_statements.specs.Objects.{entry_put}
use Rattle.db_locks.proofs.PlanLaws.{does_after, does_more, does_give}
use Rattle.db_alloc.specs.declared.single.AllocStop.TheVariants.{Page}
use Rattle.db_alloc.proofs.Steps.{does_plan, does_ok, does_exit_as}
use Rattle.db_table.specs.declared.place.CreateStop.TheVariants.{Alloc}
use Rattle.db_table.proofs.Steps.{earlier}
use Rattle.db_table.proofs.create.create_at.Goals as goal

pub returns-in_err-take : goal.returns-in_err-take
returns-in_err-take g c = λ looked before. does_exit_as _ _ (Alloc (Page c.in_err-take.field-0.0)) _ refl (does_more looked c.in_err-take.ensures.take) c.from_residual.ensures.1

pub returns-in_err-first_iam : goal.returns-in_err-first_iam
returns-in_err-first_iam g c = λ looked before.
    let takes = c.in_ok-take.ensures.take in
    does_after _ (does_ok (does_more looked takes))
    (does_exit_as _ _ (Alloc c.in_err-first_iam.field-0.0) _ refl (does_plan (ap (λ (s : FileShape). new_chain s c.args.place.id.0) takes.stays.shape) (does_more _ c.in_err-first_iam.ensures))
    c.from_residual-in_err-first_iam.ensures.1)

pub returns-in_err-put_row : goal.returns-in_err-put_row
returns-in_err-put_row g c = λ looked before.
    let takes = c.in_ok-take.ensures.take in
    let chain = c.in_ok-first_iam.ensures in
    does_after _ (does_ok (does_more looked takes))
    (does_after _ (does_ok (does_plan (ap (λ (s : FileShape). new_chain s c.args.place.id.0) takes.stays.shape) (does_more _ chain)))
    (does_exit_as _ _ (Alloc (Page c.in_err-put_row.field-0.0)) _ refl
    (does_plan (ap (entry_put c.args.place.entry) c.in_ok-row.ensures.row) (c.in_err-put_row.ensures _ (λ told. earlier looked _ _ (before (sym takes.stays.told ∙ (sym chain.stays.told ∙ told))))))
    c.from_residual-in_err-put_row.ensures.1))

pub returns : goal.returns
returns g c = λ looked before.
    let takes = c.in_ok-take.ensures.take in
    let chain = c.in_ok-first_iam.ensures in
    let d = g.P.PlanPages.state c.put_row.new.v in
    does_after _ (does_ok (does_more looked takes))
    (does_after _ (does_ok (does_plan (ap (λ (s : FileShape). new_chain s c.args.place.id.0) takes.stays.shape) (does_more _ chain)))
    (does_after _
    (does_ok (does_plan (ap (entry_put c.args.place.entry) c.in_ok-row.ensures.row) (c.in_ok-put_row.ensures _ (λ told. earlier looked _ _ (before (sym takes.stays.told ∙ (sym chain.stays.told ∙ told)))))))
    (does_give _ d Done)))
