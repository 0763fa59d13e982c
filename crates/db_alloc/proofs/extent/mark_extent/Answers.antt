use Rattle.std.proofs.Common.{ℕ, ◌/◌, ◌++◌, IsTrue, List, Contains, refl, sym, ap, ◌∙◌, subst}
use Rattle.spec_file.specs.declared.data.PageNo.{PageNo}
use Rattle.spec_words.specs.NetChanges.{FileShape}
use Rattle.spec_words.specs.Views.{Plan}
use Rattle.spec_words.specs.Words.{◌then◌, give}
use Rattle.spec_alloc.specs.Chains.{put_mark}
use Rattle.db_cat.specs.Rows.{row_of}
use Rattle.db_locks.specs.Does.{stop_of}
use Rattle.db_locks.proofs.PlanLaws.{does_after, does_stop, does_give, stays_then}
use Rattle.db_alloc.specs.Maps.{IsOwnable}
use Rattle.db_alloc.specs.Objects.{extent_opened, iam_had}
use Rattle.db_alloc.specs.Tables.{numbers}
use Rattle.db_alloc.proofs.ExtentSteps.{maps_of, maps_reached, chain_opened, marked_plan, iam_reached}
use Rattle.db_alloc.proofs.ObjectSteps.{page_stopped}
use Rattle.db_alloc.proofs.SingleSteps.{does_next, may_read_later}
use Rattle.db_alloc.proofs.Steps.{does_plan, does_exit_as, does_ok}
use Rattle.db_alloc.proofs.extent.mark_extent.Goals as goal

pub returns-in_err-open_extent : goal.returns-in_err-open_extent
returns-in_err-open_extent g c = λ looked maps before.
    let a = g.P.PlanPages.state c.args.v.now in
    let chain = numbers c.args.chain.now.numbers.items in
    let path = numbers c.args.path.now in
    let p = c.args.p.0 in
    does_plan (marked_plan a.view.shape (row_of c.args.table.now.row) chain path p)
    (page_stopped _ _
    (does_stop {meaning = stop_of} stop_of _ c.in_err-open_extent.field-0.0 refl
    (does_plan (ap (λ (ps : List PageNo). extent_opened a.view.shape (numbers ps ++ path) p) c.deref.ensures.value) (c.in_err-open_extent.ensures looked maps)))
    c.from_residual.ensures.1)

pub find_iam-requires-clause-reader : goal.find_iam-requires-clause-reader
find_iam-requires-clause-reader g c =
    let a = g.P.PlanPages.state c.args.v.now in
    let opened = c.in_ok-open_extent.ensures (maps_of a.view.shape c.args.p.0) (λ told. maps_reached a.view.shape c.args.p.0) in
    may_read_later c.args.reader opened.stays c.requires.reader

pub find_iam-requires-clause-chain : goal.find_iam-requires-clause-chain
find_iam-requires-clause-chain g c =
    let a = g.P.PlanPages.state c.args.v.now in
    let opened = c.in_ok-open_extent.ensures (maps_of a.view.shape c.args.p.0) (λ told. maps_reached a.view.shape c.args.p.0) in
    chain_opened c.args.chain.now _ c.args.p.0 opened c.requires.chain

pub returns-in_err-q : goal.returns-in_err-q
returns-in_err-q g c = λ looked maps before.
    let a = g.P.PlanPages.state c.args.v.now in
    let row = row_of c.args.table.now.row in
    let chain = numbers c.args.chain.now.numbers.items in
    let path = numbers c.args.path.now in
    let p = c.args.p.0 in
    let opened = does_plan (ap (λ (ps : List PageNo). extent_opened a.view.shape (numbers ps ++ path) p) c.deref.ensures.value) (c.in_ok-open_extent.ensures looked maps) in
    does_plan (marked_plan a.view.shape row chain path p)
    (does_next _ (does_ok {meaning = stop_of} opened)
    (does_exit_as _ _ c.in_err-q.field-0.0 _ refl
    (does_plan (ap (λ (s : FileShape). iam_had s row chain path p) opened.stays.shape) (c.in_err-q.ensures.does looked (λ told. before (sym opened.stays.told ∙ told))))
    c.from_residual-in_err-q.ensures.1))

pub put_mark-requires-clause-geometry : goal.put_mark-requires-clause-geometry
put_mark-requires-clause-geometry g c =
    let a = g.P.PlanPages.state c.args.v.now in
    let opened = c.in_ok-open_extent.ensures (maps_of a.view.shape c.args.p.0) (λ told. maps_reached a.view.shape c.args.p.0) in
    let had = c.in_ok-q.ensures.does (numbers c.args.chain.now.numbers.items) (λ told q h. h) in
    (may_read_later c.args.reader (stays_then opened.stays had.stays) c.requires.reader).geometry

pub put_mark-requires-clause-ownable : goal.put_mark-requires-clause-ownable
put_mark-requires-clause-ownable g c =
    let had = c.in_ok-q.ensures.does (numbers c.args.chain.now.numbers.items) (λ told q h. h) in
    subst (λ (s : FileShape). IsOwnable s c.in_ok-q.q.0) (sym had.stays.shape) c.in_ok-q.ensures.ownable

pub returns-in_err-put_mark : goal.returns-in_err-put_mark
returns-in_err-put_mark g c = λ looked maps before.
    let a = g.P.PlanPages.state c.args.v.now in
    let b = g.P.PlanPages.state c.open_extent.new.v in
    let row = row_of c.args.table.now.row in
    let chain = numbers c.args.chain.now.numbers.items in
    let path = numbers c.args.path.now in
    let p = c.args.p.0 in
    let q = c.in_ok-q.q.0 in
    let opened = does_plan (ap (λ (ps : List PageNo). extent_opened a.view.shape (numbers ps ++ path) p) c.deref.ensures.value) (c.in_ok-open_extent.ensures looked maps) in
    let reached : IsTrue b.told → (r : ℕ) → Contains chain r → Contains looked r = λ told. before (sym opened.stays.told ∙ told) in
    let had = c.in_ok-q.ensures.does looked reached in
    let more = looked ++ (iam_had b.view.shape row chain path p b.view).reached in
    let last : FileShape → ℕ → Plan ℕ = λ s q. put_mark s (p / 8) 1 q then (λ _. give p) in
    does_plan (marked_plan a.view.shape row chain path p)
    (does_next _ (does_ok {meaning = stop_of} opened)
    (does_plan (ap (λ (s : FileShape). iam_had s row chain path p then last s) opened.stays.shape)
    (does_after (last b.view.shape) had
    (page_stopped _ _
    (does_stop {meaning = stop_of} stop_of (λ _. give p) c.in_err-put_mark.field-0.0 refl
    (does_plan (ap (λ (s : FileShape). put_mark s (p / 8) 1 q) had.stays.shape) (c.in_err-put_mark.ensures more (λ told. iam_reached looked row chain path p q reached had told))))
    c.from_residual-in_err-put_mark.ensures.1))))

pub returns : goal.returns
returns g c = λ looked maps before.
    let a = g.P.PlanPages.state c.args.v.now in
    let b = g.P.PlanPages.state c.open_extent.new.v in
    let d = g.P.PlanPages.state c.put_mark.new.v in
    let row = row_of c.args.table.now.row in
    let chain = numbers c.args.chain.now.numbers.items in
    let path = numbers c.args.path.now in
    let p = c.args.p.0 in
    let q = c.in_ok-q.q.0 in
    let opened = does_plan (ap (λ (ps : List PageNo). extent_opened a.view.shape (numbers ps ++ path) p) c.deref.ensures.value) (c.in_ok-open_extent.ensures looked maps) in
    let reached : IsTrue b.told → (r : ℕ) → Contains chain r → Contains looked r = λ told. before (sym opened.stays.told ∙ told) in
    let had = c.in_ok-q.ensures.does looked reached in
    let more = looked ++ (iam_had b.view.shape row chain path p b.view).reached in
    let last : FileShape → ℕ → Plan ℕ = λ s q. put_mark s (p / 8) 1 q then (λ _. give p) in
    does_plan (marked_plan a.view.shape row chain path p)
    (does_next _ (does_ok {meaning = stop_of} opened)
    (does_plan (ap (λ (s : FileShape). iam_had s row chain path p then last s) opened.stays.shape)
    (does_after (last b.view.shape) had
    (does_next (λ _. give p)
    (does_ok {meaning = stop_of} (does_plan (ap (λ (s : FileShape). put_mark s (p / 8) 1 q) had.stays.shape) (c.in_ok-put_mark.ensures more (λ told. iam_reached looked row chain path p q reached had told))))
    (does_give more d p)))))
