use Rattle.std.proofs.Common.{ℕ, [], ◌∷◌, ◌++◌, Contains, refl, sym, ap, ◌∙◌, subst, arith}
use Rattle.std.proofs.lemmas.List.Elements.{Contains-append_left, Contains-append_right, Contains-push}
use Rattle.spec_words.specs.NetChanges.{FileShape}
use Rattle.spec_words.specs.Words.{put_page as page_put}
use Rattle.spec_alloc.specs.Chains.{page_taken, put_next}
use Rattle.db_locks.proofs.PlanLaws.{does_more, does_after, stays_then}
use Rattle.db_alloc.specs.Maps.{IsOwnable}
use Rattle.db_alloc.specs.Tables.{numbers}
use Rattle.db_alloc.proofs.GrowSteps.{chain_short, last_ownable, iam_bytes}
use Rattle.db_alloc.proofs.ObjectSteps.{then_given}
use Rattle.db_alloc.proofs.SingleSteps.{does_next}
use Rattle.db_alloc.proofs.Steps.{does_plan, does_exit_as}
use Rattle.db_alloc.proofs.grow.put_last.Goals as goal

pub returns-in_err-take_page : goal.returns-in_err-take_page
returns-in_err-take_page g c = λ looked before. does_exit_as _ _ c.in_err-take_page.field-0.0 _ refl (does_more looked c.in_err-take_page.ensures.does) c.from_residual.ensures.1

pub overflow_cast-chain : goal.overflow_cast-chain
overflow_cast-chain g c =
    let short = chain_short (g.P.PlanPages.state c.args.v.now).view.shape c.args.chain.now (g.P.PlanPages.size c.args.v.now) c.requires.chain in
    omega (arith, short)

pub put_number-requires-clause-ownable : goal.put_number-requires-clause-ownable
put_number-requires-clause-ownable g c =
    let q = c.args.q.0 in
    let put = c.in_ok-put_page.ensures (q ∷ []) (λ told. Contains-push [] q) in
    let stays = stays_then c.in_ok-take_page.ensures.does.stays put.stays in
    subst (λ (s : FileShape). IsOwnable s c.last_page-last.result.0) (sym stays.shape)
    (subst (λ (l : ℕ). IsOwnable (g.P.PlanPages.state c.args.v.now).view.shape l) (sym c.last_page-last.ensures) (last_ownable (g.P.PlanPages.state c.args.v.now).view.shape c.args.chain.now c.requires.chain))

pub returns-in_err-put_page : goal.returns-in_err-put_page
returns-in_err-put_page g c = λ looked before.
    let a = g.P.PlanPages.state c.args.v.now in
    let q = c.args.q.0 in
    let reached = (page_taken (numbers c.args.chain.now ++ numbers c.args.path.now) q a.view).reached in
    let bytes = iam_bytes c.args.object.0 q c.args.interval c.args.chain.now c.last_page-last.result.0 _ c.fill_iam.new.page.bytes c.fill_iam.ensures c.last_page-last.ensures refl in
    does_after _ (does_more looked c.in_ok-take_page.ensures.does)
    (does_exit_as _ _ c.in_err-put_page.field-0.0 _ refl
    (does_plan (ap (page_put q) bytes)
    (c.in_err-put_page.ensures (looked ++ reached) (λ told. Contains-append_right looked reached q (c.in_ok-take_page.ensures.reached (sym c.in_ok-take_page.ensures.does.stays.told ∙ told)))))
    c.from_residual-in_err-put_page.ensures.1)

pub returns : goal.returns
returns g c = λ looked before.
    let a = g.P.PlanPages.state c.args.v.now in
    let b = g.P.PlanPages.state c.take_page.new.v in
    let d = g.P.PlanPages.state c.put_page.new.view in
    let q = c.args.q.0 in
    let reached = (page_taken (numbers c.args.chain.now ++ numbers c.args.path.now) q a.view).reached in
    let bytes = iam_bytes c.args.object.0 q c.args.interval c.args.chain.now c.last_page-last.result.0 _ c.fill_iam.new.page.bytes c.fill_iam.ensures c.last_page-last.ensures refl in
    let put = does_plan (ap (page_put q) bytes)
    (c.in_ok-put_page.ensures (looked ++ reached) (λ told. Contains-append_right looked reached q (c.in_ok-take_page.ensures.reached (sym c.in_ok-take_page.ensures.does.stays.told ∙ told)))) in
    does_after _ (does_more looked c.in_ok-take_page.ensures.does)
    (does_next _ put
    (then_given q c.put_number.result
    (does_plan (ap (λ (l : ℕ). put_next l q) c.last_page-last.ensures)
    (c.put_number.ensures (looked ++ reached) (λ told.
    subst (λ (l : ℕ). Contains (looked ++ reached) l) (sym c.last_page-last.ensures)
    (Contains-append_left looked reached _ (before (sym c.in_ok-take_page.ensures.does.stays.told ∙ sym put.stays.told ∙ told))))))))
