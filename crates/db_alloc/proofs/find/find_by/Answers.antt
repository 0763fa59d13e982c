use Rattle.std.proofs.Common.{refl, sym, ◌∙◌, ℕ, List, []}
use Rattle.std.proofs.lemmas.List.Elements.{Contains-append_left}
use Rattle.spec_file.specs.declared.data.Resource.TheVariants as resource
use Rattle.spec_words.specs.Words.{◌then◌}
use Rattle.db_cat.specs.Rows.{row_of}
use Rattle.db_locks.proofs.PlanLaws.{does_after, does_more, does_give}
use Rattle.db_alloc.specs.declared.find.FindStop.TheVariants.{Page}
use Rattle.db_alloc.specs.Tables.{named_row}
use Rattle.db_alloc.proofs.Rows.{held_test, table_parts}
use Rattle.db_alloc.proofs.Steps.{does_ok, does_plan, does_told, does_exit_as, look_reached}
use Rattle.db_alloc.proofs.find.find_by.Goals as goal

pub returns-in_err-look_catalog : goal.returns-in_err-look_catalog
returns-in_err-look_catalog g c =
    does_plan (table_parts c.args.name.now) (does_exit_as _ row_of (Page c.in_err-look_catalog.field-0.0) _ refl c.in_err-look_catalog.ensures.look c.from_residual.ensures.1)

pub returns-in_err-row : goal.returns-in_err-row
returns-in_err-row g c =
    let b = g.P.PlanPages.state c.look_catalog.new.v in
    let next = λ (boot : List ℕ). named_row c.args.name.now boot then held_test in
    does_plan (table_parts c.args.name.now) (does_after next (does_ok c.in_ok-look_catalog.ensures.look)
    (does_told next (λ told. c.in_ok-look_catalog.ensures.told (sym c.in_ok-look_catalog.ensures.look.stays.told ∙ told))
    (does_exit_as held_test row_of c.in_err-row.field-0.0 _ refl (does_more _ (c.in_err-row.ensures b)) c.from_residual-in_err-row.ensures.1)))

pub returns-in_err-check_free : goal.returns-in_err-check_free
returns-in_err-check_free g c =
    let a = g.P.PlanPages.state c.args.v.now in
    let b = g.P.PlanPages.state c.look_catalog.new.v in
    let next = λ (boot : List ℕ). named_row c.args.name.now boot then held_test in
    let before = look_reached [] resource.Catalog 9 a.view c.in_ok-look_catalog.ensures.free in
    does_plan (table_parts c.args.name.now) (does_after next (does_ok c.in_ok-look_catalog.ensures.look)
    (does_told next (λ told. c.in_ok-look_catalog.ensures.told (sym c.in_ok-look_catalog.ensures.look.stays.told ∙ told))
    (does_after held_test (does_more _ (c.in_ok-row.ensures b))
    (does_exit_as _ row_of (Page c.in_err-check_free.field-0.0) _ refl (c.in_err-check_free.ensures.does _ (λ told. Contains-append_left _ _ 9 before)) c.from_residual-in_err-check_free.ensures.1))))

pub returns : goal.returns
returns g c =
    let a = g.P.PlanPages.state c.args.v.now in
    let b = g.P.PlanPages.state c.look_catalog.new.v in
    let next = λ (boot : List ℕ). named_row c.args.name.now boot then held_test in
    let before = look_reached [] resource.Catalog 9 a.view c.in_ok-look_catalog.ensures.free in
    does_plan (table_parts c.args.name.now) (does_after next (does_ok c.in_ok-look_catalog.ensures.look)
    (does_told next (λ told. c.in_ok-look_catalog.ensures.told (sym c.in_ok-look_catalog.ensures.look.stays.told ∙ told))
    (does_after held_test (does_more _ (c.in_ok-row.ensures b))
    (does_after _ (does_ok (c.in_ok-check_free.ensures.does _ (λ told. Contains-append_left _ _ 9 before))) (does_give _ _ _)))))
