use Rattle.std.proofs.Common.{arith}
use Rattle.net_changes.proofs.MapLaws.{no_runs, span_loop, span_below, spans_whole, in_limit}
use Rattle.net_changes.proofs.maps.add_byte_runs.Goals as goal

pub loop-m-init : goal.loop-m-init
loop-m-init g c = λ told. no_runs _ _ _ _

pub overflow_mul-first : goal.overflow_mul-first
overflow_mul-first g c =
    let below = span_below c.args.geometry c.loop-m.m _ _ _ c.pfs_span-span.ensures c.div_ceil-m-end.ensures c.loop-m-test.true in
    let range = c.ranges.pages.fits in
    omega (arith, below, range)

pub pfs_of-at-requires : goal.pfs_of-at-requires
pfs_of-at-requires g c =
    let below = span_below c.args.geometry c.loop-m.m _ _ _ c.pfs_span-span.ensures c.div_ceil-m-end.ensures c.loop-m-test.true in
    in_limit c.args.geometry _ _ c.args.pages _ c.requires.geometry c.requires.pages (g.P.PlanPages.size c.args.v.now) below

pub loop-m-preserved : goal.loop-m-preserved
loop-m-preserved g c = λ told.
    span_loop (g.P.PlanPages.state c.args.v.now) c.args.geometry c.loop-m.m _ _ _ _ _ _ _ _ c.requires.geometry c.pfs_span-span.ensures c.div_ceil-m-end.ensures c.loop-m-test.true
    c.pfs_of-at.ensures.page c.min.ensures (c.loop-m.invariant told) (c.in_ok-add_page_runs.ensures told)

pub returns : goal.returns
returns g c = λ told.
    spans_whole (g.P.PlanPages.state c.args.v.now) c.args.geometry c.loop-m.m _ _ _ _ _ c.pfs_span-span.ensures c.div_ceil-m-end.ensures c.loop-m-test.false (c.loop-m.invariant told)
