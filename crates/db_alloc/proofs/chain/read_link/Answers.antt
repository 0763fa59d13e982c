use Rattle.std.proofs.Common.{ℕ, [], refl, sym, ap, ◌∙◌, IsTrue}
use Rattle.spec_file.specs.declared.header.Header.{Header}
use Rattle.spec_file.specs.Image.{page}
use Rattle.spec_file.specs.Places.{is_inside}
use Rattle.spec_words.specs.Views.{View}
use Rattle.db_cat.specs.Rows.{row_of}
use Rattle.db_locks.proofs.PlanLaws.{does_then, does_good}
use Rattle.db_alloc.specs.Tables.{numbers}
use Rattle.db_alloc.proofs.Steps.{does_exit_as}
use Rattle.db_alloc.proofs.LinkSteps.{inside_limit, asked_as, ordinary_link, slots_as, link_outside, link_other, link_slots, link_good, ownable_link}
use Rattle.db_alloc.proofs.chain.read_link.Goals as goal

pub returns-then-not-is_inside-clause-does : goal.returns-then-not-is_inside-clause-does
returns-then-not-is_inside-clause-does g c =
    let a = g.P.PlanPages.state c.args.v.now in
    link_outside a (row_of c.args.table.now.row) (numbers c.args.met.now) c.args.from c.args.p.0
    (ap (λ (n : ℕ). is_inside n c.args.p.0) (sym c.requires.pages) ∙ sym c.is_inside.ensures ∙ c.if-not-is_inside.true)

pub returns-in_err-look_page-clause-does : goal.returns-in_err-look_page-clause-does
returns-in_err-look_page-clause-does g c =
    let a = g.P.PlanPages.state c.args.v.now in
    let inside = ap (λ (n : ℕ). is_inside n c.args.p.0) (sym c.requires.pages) ∙ sym c.is_inside.ensures ∙ c.if-not-is_inside.false in
    does_then _ (does_good [] a (is_inside a.view.shape.pages c.args.p.0) c.args.from.0 (λ told. inside))
    (does_exit_as _ _ c.in_err-look_page.field-0.0 _ refl c.in_err-look_page.ensures.look c.from_residual.ensures.1)

pub is_chain_page-requires : goal.is_chain_page-requires
is_chain_page-requires g c =
    let a = g.P.PlanPages.state c.args.v.now in
    inside_limit a.view.shape c.args.table.now.geometry c.args.table.now.pages c.args.p.0 (g.P.PlanPages.size c.args.v.now) c.requires.geometry c.requires.pages (sym c.is_inside.ensures ∙ c.if-not-is_inside.false)

pub returns-then-not-is_chain_page-clause-does : goal.returns-then-not-is_chain_page-clause-does
returns-then-not-is_chain_page-clause-does g c =
    let a = g.P.PlanPages.state c.args.v.now in
    let row = row_of c.args.table.now.row in
    let met = numbers c.args.met.now in
    let inside = ap (λ (n : ℕ). is_inside n c.args.p.0) (sym c.requires.pages) ∙ sym c.is_inside.ensures ∙ c.if-not-is_inside.false in
    link_other row met c.args.from.0 c.args.p inside c.in_ok-look_page.ensures.look (λ told.
    asked_as a.view.shape c.args.table.now.geometry c.args.table.now.pages row met c.args.p.0 c.look_page.new.into.bytes (page a.view.now c.args.p.0) c.is_chain_page.result c.requires.geometry c.requires.pages (c.in_ok-look_page.ensures.told told) c.is_chain_page.ensures
    ∙ c.if-not-is_chain_page.true)

pub returns-then-not-has_good_slots-clause-does : goal.returns-then-not-has_good_slots-clause-does
returns-then-not-has_good_slots-clause-does g c =
    let a = g.P.PlanPages.state c.args.v.now in
    let b = g.P.PlanPages.state c.look_page.new.v in
    let row = row_of c.args.table.now.row in
    let met = numbers c.args.met.now in
    let inside = ap (λ (n : ℕ). is_inside n c.args.p.0) (sym c.requires.pages) ∙ sym c.is_inside.ensures ∙ c.if-not-is_inside.false in
    let good = λ (told : IsTrue a.told).
    asked_as a.view.shape c.args.table.now.geometry c.args.table.now.pages row met c.args.p.0 c.look_page.new.into.bytes (page a.view.now c.args.p.0) c.is_chain_page.result c.requires.geometry c.requires.pages (c.in_ok-look_page.ensures.told told) c.is_chain_page.ensures
    ∙ c.if-not-is_chain_page.false in
    let same = λ (told : IsTrue a.told). c.in_ok-look_page.ensures.told told (ordinary_link a.view.shape row met c.args.p.0 (page a.view.now c.args.p.0) (good told)) in
    let count = λ (told : IsTrue a.told). c.requires.pages ∙ ap (λ (v : View). v.shape.pages) (sym c.in_ok-look_page.ensures.view) ∙ sym (g.P.PlanPages.images c.look_page.new.v (c.in_ok-look_page.ensures.look.stays.told ∙ told)).now.pages in
    link_slots row met c.args.from.0 c.args.p inside c.in_ok-look_page.ensures.look good (λ told.
    slots_as met c.args.table.now.pages c.args.p.0 b.view.now c.look_page.new.into.bytes _ (count told) (same told ∙ ap (λ (v : View). page v.now c.args.p.0) (sym c.in_ok-look_page.ensures.view)) (sym c.if-not-has_good_slots.true ∙ c.has_good_slots.ensures))

pub returns-clause-does : goal.returns-clause-does
returns-clause-does g c =
    let a = g.P.PlanPages.state c.args.v.now in
    let b = g.P.PlanPages.state c.look_page.new.v in
    let row = row_of c.args.table.now.row in
    let met = numbers c.args.met.now in
    let inside = ap (λ (n : ℕ). is_inside n c.args.p.0) (sym c.requires.pages) ∙ sym c.is_inside.ensures ∙ c.if-not-is_inside.false in
    let good = λ (told : IsTrue a.told).
    asked_as a.view.shape c.args.table.now.geometry c.args.table.now.pages row met c.args.p.0 c.look_page.new.into.bytes (page a.view.now c.args.p.0) c.is_chain_page.result c.requires.geometry c.requires.pages (c.in_ok-look_page.ensures.told told) c.is_chain_page.ensures
    ∙ c.if-not-is_chain_page.false in
    let same = λ (told : IsTrue a.told). c.in_ok-look_page.ensures.told told (ordinary_link a.view.shape row met c.args.p.0 (page a.view.now c.args.p.0) (good told)) in
    let count = λ (told : IsTrue a.told). c.requires.pages ∙ ap (λ (v : View). v.shape.pages) (sym c.in_ok-look_page.ensures.view) ∙ sym (g.P.PlanPages.images c.look_page.new.v (c.in_ok-look_page.ensures.look.stays.told ∙ told)).now.pages in
    link_good row met c.args.from.0 c.args.p c.look_page.new.into.bytes c.read_header.result.next.0 inside c.in_ok-look_page.ensures.look good (λ told.
    slots_as met c.args.table.now.pages c.args.p.0 b.view.now c.look_page.new.into.bytes _ (count told) (same told ∙ ap (λ (v : View). page v.now c.args.p.0) (sym c.in_ok-look_page.ensures.view)) (sym c.if-not-has_good_slots.false ∙ c.has_good_slots.ensures))
    same (ap (λ (h : Header). h.next.0) c.read_header.ensures)

pub returns-clause-told : goal.returns-clause-told
returns-clause-told g c =
    let a = g.P.PlanPages.state c.args.v.now in
    let row = row_of c.args.table.now.row in
    let met = numbers c.args.met.now in
    λ told. c.in_ok-look_page.ensures.told told (ordinary_link a.view.shape row met c.args.p.0 (page a.view.now c.args.p.0) (
    asked_as a.view.shape c.args.table.now.geometry c.args.table.now.pages row met c.args.p.0 c.look_page.new.into.bytes (page a.view.now c.args.p.0) c.is_chain_page.result c.requires.geometry c.requires.pages (c.in_ok-look_page.ensures.told told) c.is_chain_page.ensures
    ∙ c.if-not-is_chain_page.false))

pub returns-clause-ownable : goal.returns-clause-ownable
returns-clause-ownable g c =
    let a = g.P.PlanPages.state c.args.v.now in
    ownable_link a.view.shape c.args.table.now.geometry c.args.table.now.pages (row_of c.args.table.now.row) (numbers c.args.met.now) c.args.p.0 c.look_page.new.into.bytes c.is_inside.result c.is_chain_page.result
    c.requires.geometry c.requires.pages c.is_inside.ensures c.if-not-is_inside.false c.is_chain_page.ensures c.if-not-is_chain_page.false
