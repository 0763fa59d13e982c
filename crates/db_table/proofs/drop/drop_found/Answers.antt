use Rattle.std.proofs.Common.{refl, sym, ap, ◌∙◌}
use Rattle.std.proofs.lemmas.List.Elements.{Contains-append_left}
use Rattle.spec_words.specs.NetChanges.{FileShape}
use Rattle.spec_alloc.specs.Objects.{pages_dropped}
use Rattle.db_cat.specs.Rows.{row_of}
use Rattle.db_locks.proofs.PlanLaws.{does_after, does_more}
use Rattle.db_alloc.proofs.Steps.{does_plan, does_exit_as}
use Rattle.db_table.proofs.Steps.{earlier}
use Rattle.db_table.proofs.drop.drop_found.Goals as goal

pub returns-in_err-take : goal.returns-in_err-take
returns-in_err-take g c = λ looked before. does_exit_as _ _ c.in_err-take.field-0.0 _ refl (does_more looked c.in_err-take.ensures.take) c.from_residual.ensures.1

pub returns-in_err-free_chain : goal.returns-in_err-free_chain
returns-in_err-free_chain g c = λ looked before.
    let takes = c.in_ok-take.ensures.take in
    does_after _ (does_more looked takes)
    (does_exit_as _ _ c.in_err-free_chain.field-0.0 _ refl
    (does_plan (ap (λ (s : FileShape). pages_dropped s (row_of c.args.table.now.row)) takes.stays.shape) (does_more _ c.in_err-free_chain.ensures)) c.from_residual-in_err-free_chain.ensures.1)

pub returns-in_err-take-2 : goal.returns-in_err-take-2
returns-in_err-take-2 g c = λ looked before.
    let takes = c.in_ok-take.ensures.take in
    does_after _ (does_more looked takes)
    (does_after _ (does_plan (ap (λ (s : FileShape). pages_dropped s (row_of c.args.table.now.row)) takes.stays.shape) (does_more _ c.in_ok-free_chain.ensures))
    (does_exit_as _ _ c.in_err-take-2.field-0.0 _ refl (does_more _ c.in_err-take-2.ensures.take) c.from_residual-in_err-take-2.ensures.1))

pub returns : goal.returns
returns g c = λ looked before.
    let takes = c.in_ok-take.ensures.take in
    let frees = c.in_ok-free_chain.ensures in
    let holds = c.in_ok-take-2.ensures.take in
    does_after _ (does_more looked takes)
    (does_after _ (does_plan (ap (λ (s : FileShape). pages_dropped s (row_of c.args.table.now.row)) takes.stays.shape) (does_more _ frees))
    (does_after _ (does_more _ holds)
    (c.remove_entry.ensures _ (λ told.
    Contains-append_left _ _ 9 (earlier looked _ _ (before (sym takes.stays.told ∙ (sym frees.stays.told ∙ (sym holds.stays.told ∙ told)))))))))
