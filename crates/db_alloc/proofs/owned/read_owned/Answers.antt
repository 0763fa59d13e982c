use Rattle.std.proofs.Common.{ℕ, ◌≤◌, subst, ◌||◌, [], IsTrue, sym, ap, ◌∙◌, refl, filter}
use Rattle.std.proofs.lemmas.List.{length-map}
use Rattle.spec_file.specs.declared.data.PageNo.{PageNo}
use Rattle.spec_chain.specs.Uses.{is_allocated}
use Rattle.spec_words.specs.Views.{View}
use Rattle.spec_words.specs.Tables.{bytes_read, byte_pages, object_pages}
use Rattle.db_cat.specs.Rows.{row_of}
use Rattle.db_locks.proofs.PlanLaws.{does_then, does_see, does_give}
use Rattle.db_alloc.specs.Drops.{owned_of}
use Rattle.db_alloc.specs.Marks.{is_in_slot}
use Rattle.db_alloc.specs.Tables.{numbers, bytes_of}
use Rattle.db_alloc.proofs.Lists.{byte_pages_as, object_pages_as}
use Rattle.db_alloc.proofs.OwnedSteps.{owned_plan}
use Rattle.db_alloc.proofs.Steps.{does_plan, does_exit_as}
use Rattle.db_alloc.proofs.owned.read_owned.Goals as goal

pub returns-in_err-chain-clause-does : goal.returns-in_err-chain-clause-does
returns-in_err-chain-clause-does g c =
    let a = g.P.PlanPages.state c.args.v.now in
    does_plan (owned_plan a.view.shape (row_of c.args.table.now.row)) (does_exit_as _ owned_of c.in_err-chain.field-0.0 _ refl c.in_err-chain.ensures.does c.from_residual-in_err-chain.ensures.1)

pub returns-in_err-pages-2-clause-does : goal.returns-in_err-pages-2-clause-does
returns-in_err-pages-2-clause-does g c =
    let a = g.P.PlanPages.state c.args.v.now in
    let b = g.P.PlanPages.state c.read_chain.new.v in
    let chain = numbers c.in_ok-chain.chain.numbers.items in
    let iams = bytes_of c.in_ok-chain.chain.pages.items in
    let pages = numbers c.deref-2.result.now in
    let some = subst (λ (n : ℕ). 1 ≤ n) (sym (length-map c.in_ok-chain.chain.numbers.items (λ (p : PageNo). p.0))) c.in_ok-chain.ensures.some in
    let is_pages = λ (told : IsTrue a.told). byte_pages_as a.view.shape a.view chain iams c.args.table.now.geometry c.args.table.now.pages pages some (c.in_ok-chain.ensures.told told) c.requires.geometry c.requires.pages
    (ap numbers c.deref-2.ensures.value ∙ c.in_ok-pages.ensures.pages) in
    does_plan (owned_plan a.view.shape (row_of c.args.table.now.row))
    (does_then _ c.in_ok-chain.ensures.does
    (does_then _ (does_see [] b (byte_pages a.view.shape chain) pages (λ told. is_pages (sym c.in_ok-chain.ensures.does.stays.told ∙ told) ∙ ap (byte_pages a.view.shape chain) (sym c.in_ok-chain.ensures.view)))
    (does_exit_as _ owned_of c.in_err-pages-2.field-0.0 _ refl (does_plan (ap (λ (v : View). bytes_read v.shape pages) c.in_ok-chain.ensures.view) c.in_err-pages-2.ensures.does) c.from_residual-in_err-pages-2.ensures.1)))

pub returns-clause-does : goal.returns-clause-does
returns-clause-does g c =
    let a = g.P.PlanPages.state c.args.v.now in
    let b = g.P.PlanPages.state c.read_chain.new.v in
    let d = g.P.PlanPages.state c.read_pages.new.v in
    let chain = numbers c.in_ok-chain.chain.numbers.items in
    let iams = bytes_of c.in_ok-chain.chain.pages.items in
    let slots = numbers c.deref.result.now in
    let pages = numbers c.deref-2.result.now in
    let found = numbers c.in_ok-pages-2.pages.items in
    let some = subst (λ (n : ℕ). 1 ≤ n) (sym (length-map c.in_ok-chain.chain.numbers.items (λ (p : PageNo). p.0))) c.in_ok-chain.ensures.some in
    let is_pages = λ (told : IsTrue a.told). byte_pages_as a.view.shape a.view chain iams c.args.table.now.geometry c.args.table.now.pages pages some (c.in_ok-chain.ensures.told told) c.requires.geometry c.requires.pages
    (ap numbers c.deref-2.ensures.value ∙ c.in_ok-pages.ensures.pages) in
    let objects = λ (told : IsTrue d.told).
    let told_b = sym c.in_ok-pages-2.ensures.does.stays.told ∙ told in
    let told_a = sym c.in_ok-chain.ensures.does.stays.told ∙ told_b in
    object_pages_as a.view.shape a.view chain iams slots pages found some (c.in_ok-chain.ensures.told told_a) (ap numbers c.deref.ensures.0 ∙ c.chain_slots-slots.ensures) (is_pages told_a)
    (c.in_ok-pages-2.ensures.told told_b ∙ ap (λ (v : View). filter (λ p. is_in_slot slots p || is_allocated v.shape.geometry v.now p) pages) c.in_ok-chain.ensures.view)
    ∙ ap (object_pages a.view.shape chain) (sym (c.in_ok-pages-2.ensures.view ∙ c.in_ok-chain.ensures.view)) in
    does_plan (owned_plan a.view.shape (row_of c.args.table.now.row))
    (does_then _ c.in_ok-chain.ensures.does
    (does_then _ (does_see [] b (byte_pages a.view.shape chain) pages (λ told. is_pages (sym c.in_ok-chain.ensures.does.stays.told ∙ told) ∙ ap (byte_pages a.view.shape chain) (sym c.in_ok-chain.ensures.view)))
    (does_then _ (does_plan (ap (λ (v : View). bytes_read v.shape pages) c.in_ok-chain.ensures.view) c.in_ok-pages-2.ensures.does)
    (does_then _ (does_see [] d (object_pages a.view.shape chain) found objects) (does_give [] d (chain, found))))))
