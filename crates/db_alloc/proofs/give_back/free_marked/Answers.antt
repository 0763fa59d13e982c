use Rattle.std.proofs.Common.{Bool, List, Box, Contains, map, sym, ap, ◌∙◌, subst}
use Rattle.std.specs.Prelude.{if◌then◌else◌}
use Rattle.std.specs.Global.{Global}
use Rattle.pg_base.specs.declared.page.Page.{Page}
use Rattle.spec_file.specs.declared.data.PageNo.{PageNo}
use Rattle.spec_file.specs.Image.{page}
use Rattle.spec_words.specs.Views.{Plan}
use Rattle.spec_words.specs.Words.{give}
use Rattle.spec_alloc.specs.Freeing.{marked_freed, marks_emptied}
use Rattle.db_locks.proofs.PlanLaws.{does_exit, does_more, does_give}
use Rattle.db_alloc.specs.Tables.{numbers, bytes_of}
use Rattle.db_alloc.proofs.DropSteps.{leaves_of, chain_same}
use Rattle.db_alloc.proofs.FreeSteps.{in_shape}
use Rattle.db_alloc.proofs.Leaves.{marked_leaves}
use Rattle.db_alloc.proofs.SingleSteps.{does_next}
use Rattle.db_alloc.proofs.Steps.{does_plan}
use Rattle.db_alloc.proofs.give_back.free_marked.Goals as goal

pub returns-in_err-in_use : goal.returns-in_err-in_use
returns-in_err-in_use g c = λ looked before. does_exit _ (does_more looked c.in_err-in_use.ensures) c.from_residual.ensures.1

pub returns-then-in_use : goal.returns-then-in_use
returns-then-in_use g c = λ looked before.
    let a = g.P.PlanPages.state c.args.v.now in
    let b = g.P.PlanPages.state c.marked_freed.new.v in
    let next : Bool → Plan (Unit {0}) = λ in_use. if in_use then give tt else marks_emptied a.view.shape (numbers c.args.chain.now.numbers.items) c.args.p.0 in
    does_next next (does_more looked c.in_ok-in_use.ensures) (does_plan (ap next (sym c.if-in_use.true)) (does_give looked b tt))

pub empty_marks-requires-clause-read : goal.empty_marks-requires-clause-read
empty_marks-requires-clause-read g c = λ told.
    let a = g.P.PlanPages.state c.args.v.now in
    let b = g.P.PlanPages.state c.marked_freed.new.v in
    let chain = c.args.chain.now.numbers.items in
    let freed = c.in_ok-in_use.ensures in
    let begun = sym freed.stays.told ∙ told in
    let leaves = leaves_of a.view.shape.geometry (marked_freed a.view.shape c.args.p.0) (marked_leaves a.view.shape c.args.p.0 a.view) freed begun in
    ap (λ (ps : List (Box Page Global)). bytes_of ps) c.deref-2.ensures.value ∙ c.requires.chain begun
    ∙ sym (chain_same a.view.shape a.view b.view (numbers chain) c.requires.ownable leaves)
    ∙ ap (λ (ps : List PageNo). map (page b.view.now) (numbers ps)) (sym c.deref.ensures.value)

pub returns : goal.returns
returns g c = λ looked before.
    let a = g.P.PlanPages.state c.args.v.now in
    let chain = c.args.chain.now.numbers.items in
    let p = c.args.p.0 in
    let freed = c.in_ok-in_use.ensures in
    let next : Bool → Plan (Unit {0}) = λ in_use. if in_use then give tt else marks_emptied a.view.shape (numbers chain) p in
    does_next next (does_more looked freed)
    (does_plan (ap next (sym c.if-in_use.false))
    (does_plan (ap (λ (ps : List PageNo). marks_emptied a.view.shape (numbers ps) p) c.deref.ensures.value)
    (in_shape (λ s. marks_emptied s (numbers c.deref.result.now) p) freed.stays (c.empty_marks.ensures looked (λ told q h. before (sym freed.stays.told ∙ told) q (subst (λ (ps : List PageNo). Contains (numbers ps) q) c.deref.ensures.value h))))))
