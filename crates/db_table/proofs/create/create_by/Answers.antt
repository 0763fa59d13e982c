use Rattle.std.proofs.Common.{ℕ, List, refl, ap, sym, ◌∙◌}
use Rattle.std.proofs.lemmas.List.Elements.{Contains-append_left}
use Rattle.spec_words.specs.NetChanges.{FileShape}
use Rattle.spec_words.specs.Words.{◌then◌}
use Rattle.db_locks.proofs.PlanLaws.{does_after, does_more}
use Rattle.db_alloc.specs.declared.single.AllocStop.TheVariants.{Page}
use Rattle.db_alloc.proofs.Steps.{does_plan, does_ok, does_exit_as}
use Rattle.db_table.specs.declared.place.CreateStop.TheVariants.{Alloc}
use Rattle.db_table.specs.Creates.{place_chosen, heap_created}
use Rattle.db_table.proofs.Places.{create_parts}
use Rattle.db_table.proofs.Steps.{boot_reached}
use Rattle.db_table.proofs.create.create_by.Goals as goal

pub returns-in_err-look_catalog : goal.returns-in_err-look_catalog
returns-in_err-look_catalog g c = does_exit_as _ _ (Alloc (Page c.in_err-look_catalog.field-0.0)) _ refl c.in_err-look_catalog.ensures.does c.from_residual.ensures.1

pub returns-in_err-place : goal.returns-in_err-place
returns-in_err-place g c =
    let a = g.P.PlanPages.state c.args.v.now in
    let b = g.P.PlanPages.state c.look_catalog.new.view in
    let name = c.args.name.now in
    let next = λ (boot : List ℕ). place_chosen name boot then (λ place. heap_created a.view.shape name place.0 place.1) in
    does_plan (create_parts a.view.shape name)
    (does_after next (does_ok c.in_ok-look_catalog.ensures.does)
    (does_exit_as _ _ c.in_err-place.field-0.0 _ refl (does_more _ (c.in_err-place.ensures.does b)) c.from_residual-in_err-place.ensures.1))

pub returns : goal.returns
returns g c =
    let a = g.P.PlanPages.state c.args.v.now in
    let b = g.P.PlanPages.state c.look_catalog.new.view in
    let name = c.args.name.now in
    let looks = c.in_ok-look_catalog.ensures.does in
    let next = λ (boot : List ℕ). place_chosen name boot then (λ place. heap_created a.view.shape name place.0 place.1) in
    does_plan (create_parts a.view.shape name)
    (does_after next (does_ok looks)
    (does_after _ (does_more _ (c.in_ok-place.ensures.does b))
    (does_plan (ap (λ (s : FileShape). heap_created s name c.in_ok-place.place.id.0 c.in_ok-place.place.entry) looks.stays.shape)
    (c.create_at.ensures _ (λ told. Contains-append_left _ _ 9 (boot_reached _ looks (sym looks.stays.told ∙ told)))))))
