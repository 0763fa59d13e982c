use Rattle.std.proofs.Common.{ℕ, ◌+◌, ◌-◌, ◌*◌, arith, sym, ap, ◌∙◌, subst, filter}
use Rattle.std.specs.List.{range_with_len}
use Rattle.spec_alloc.specs.Search.{first_in, is_spare}
use Rattle.db_alloc.proofs.MapPlaces.{same_pfs, page_fits}
use Rattle.db_alloc.proofs.MapReads.{range_begin, range_first, range_none, first_hit, first_miss}
use Rattle.db_alloc.specs.Maps.{MapTells}
use Rattle.db_alloc.proofs.maps.spare_page.Goals as goal

pub is_spare-requires-clause-read : goal.is_spare-requires-clause-read
is_spare-requires-clause-read g c = λ told.
    let a = g.P.PlanPages.state c.args.v.now in
    subst (λ (q : ℕ). MapTells a.view q c.args.pfs.now.bytes) (sym (same_pfs a.view.shape.geometry c.args.e.0 c.loop-i.i c.loop-i-test.true)) (c.requires.read told)

pub returns-then-is_spare-clause-page : goal.returns-then-is_spare-clause-page
returns-then-is_spare-clause-page g c = λ told.
    let a = g.P.PlanPages.state c.args.v.now in
    sym (c.loop-i.invariant told
    ∙ ap (λ xs. first_in (filter (is_spare a.view.shape a.view) xs)) (range_first (8 * c.args.e.0) c.loop-i.i 8 c.loop-i-test.true)
    ∙ first_hit (is_spare a.view.shape a.view) (8 * c.args.e.0 + c.loop-i.i) (range_with_len (8 * c.args.e.0 + (c.loop-i.i + 1)) (8 - (c.loop-i.i + 1))) (sym (c.is_spare.ensures.spare told) ∙ c.if-is_spare.true))

pub loop-i-preserved : goal.loop-i-preserved
loop-i-preserved g c = λ told.
    let a = g.P.PlanPages.state c.args.v.now in
    c.loop-i.invariant told
    ∙ ap (λ xs. first_in (filter (is_spare a.view.shape a.view) xs)) (range_first (8 * c.args.e.0) c.loop-i.i 8 c.loop-i-test.true)
    ∙ first_miss (is_spare a.view.shape a.view) (8 * c.args.e.0 + c.loop-i.i) (range_with_len (8 * c.args.e.0 + (c.loop-i.i + 1)) (8 - (c.loop-i.i + 1))) (sym (c.is_spare.ensures.spare told) ∙ c.if-is_spare.false)

pub returns-clause-page : goal.returns-clause-page
returns-clause-page g c = λ told.
    let a = g.P.PlanPages.state c.args.v.now in
    sym (c.loop-i.invariant told ∙ ap (λ xs. first_in (filter (is_spare a.view.shape a.view) xs)) (range_none (8 * c.args.e.0) c.loop-i.i 8 c.loop-i-test.false))

pub loop-i-init : goal.loop-i-init
loop-i-init g c = λ told.
    let a = g.P.PlanPages.state c.args.v.now in
    ap (λ xs. first_in (filter (is_spare a.view.shape a.view) xs)) (range_begin (8 * c.args.e.0) 8)

pub overflow_mul-p : goal.overflow_mul-p
overflow_mul-p g c =
    let a = g.P.PlanPages.state c.args.v.now in
    let fits = page_fits a.view.shape.geometry a.view.shape.pages c.args.e.0 c.loop-i.i (g.P.PlanPages.size c.args.v.now) c.requires.inside c.loop-i-test.true in
    omega (arith, fits)

pub overflow_add-p : goal.overflow_add-p
overflow_add-p g c =
    let a = g.P.PlanPages.state c.args.v.now in
    let fits = page_fits a.view.shape.geometry a.view.shape.pages c.args.e.0 c.loop-i.i (g.P.PlanPages.size c.args.v.now) c.requires.inside c.loop-i-test.true in
    omega (arith, fits)

pub returns-then-is_spare-clause-ownable : goal.returns-then-is_spare-clause-ownable
returns-then-is_spare-clause-ownable g c =
    let low = c.requires.inside in
    let at = c.loop-i-test.true in
    record { inside = omega (arith, low, at); ordinary = c.is_spare.ensures.ordinary c.if-is_spare.true }
