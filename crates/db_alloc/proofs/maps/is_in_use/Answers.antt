use Rattle.std.proofs.Common.{ℕ, ◌+◌, ◌-◌, ◌*◌, arith, sym, ap, ◌∙◌, subst}
use Rattle.std.specs.List.{list_any, range_with_len}
use Rattle.spec_alloc.specs.Search.{counts_as_allocated}
use Rattle.db_alloc.proofs.MapPlaces.{same_pfs, page_fits}
use Rattle.db_alloc.proofs.MapReads.{range_begin, range_first, range_none, any_hit, any_miss}
use Rattle.db_alloc.specs.Maps.{MapTells}
use Rattle.db_alloc.proofs.maps.is_in_use.Goals as goal

pub counts_as_allocated-requires-clause-read : goal.counts_as_allocated-requires-clause-read
counts_as_allocated-requires-clause-read g c = λ told.
    let a = g.P.PlanPages.state c.args.v.now in
    subst (λ (q : ℕ). MapTells a.view q c.args.pfs.now.bytes) (sym (same_pfs a.view.shape.geometry c.args.e.0 c.loop-i.i c.loop-i-test.true)) (c.requires.read told)

pub returns-then-counts_as_allocated : goal.returns-then-counts_as_allocated
returns-then-counts_as_allocated g c = λ told.
    let a = g.P.PlanPages.state c.args.v.now in
    sym (c.loop-i.invariant told
    ∙ ap (list_any (counts_as_allocated a.view.shape a.view)) (range_first (8 * c.args.e.0) c.loop-i.i 8 c.loop-i-test.true)
    ∙ any_hit (counts_as_allocated a.view.shape a.view) (8 * c.args.e.0 + c.loop-i.i) (range_with_len (8 * c.args.e.0 + (c.loop-i.i + 1)) (8 - (c.loop-i.i + 1))) (sym (c.counts_as_allocated.ensures told) ∙ c.if-counts_as_allocated.true))

pub loop-i-preserved : goal.loop-i-preserved
loop-i-preserved g c = λ told.
    let a = g.P.PlanPages.state c.args.v.now in
    c.loop-i.invariant told
    ∙ ap (list_any (counts_as_allocated a.view.shape a.view)) (range_first (8 * c.args.e.0) c.loop-i.i 8 c.loop-i-test.true)
    ∙ any_miss (counts_as_allocated a.view.shape a.view) (8 * c.args.e.0 + c.loop-i.i) (range_with_len (8 * c.args.e.0 + (c.loop-i.i + 1)) (8 - (c.loop-i.i + 1))) (sym (c.counts_as_allocated.ensures told) ∙ c.if-counts_as_allocated.false)

pub returns : goal.returns
returns g c = λ told.
    let a = g.P.PlanPages.state c.args.v.now in
    sym (c.loop-i.invariant told ∙ ap (list_any (counts_as_allocated a.view.shape a.view)) (range_none (8 * c.args.e.0) c.loop-i.i 8 c.loop-i-test.false))

pub loop-i-init : goal.loop-i-init
loop-i-init g c = λ told.
    let a = g.P.PlanPages.state c.args.v.now in
    ap (list_any (counts_as_allocated a.view.shape a.view)) (range_begin (8 * c.args.e.0) 8)

pub overflow_mul-e : goal.overflow_mul-e
overflow_mul-e g c =
    let a = g.P.PlanPages.state c.args.v.now in
    let fits = page_fits a.view.shape.geometry a.view.shape.pages c.args.e.0 c.loop-i.i (g.P.PlanPages.size c.args.v.now) c.requires.inside c.loop-i-test.true in
    omega (arith, fits)

pub overflow_add-e : goal.overflow_add-e
overflow_add-e g c =
    let a = g.P.PlanPages.state c.args.v.now in
    let fits = page_fits a.view.shape.geometry a.view.shape.pages c.args.e.0 c.loop-i.i (g.P.PlanPages.size c.args.v.now) c.requires.inside c.loop-i-test.true in
    omega (arith, fits)
