use Rattle.std.proofs.Common.{arith}
use Rattle.net_changes.proofs.MapLaws.{no_bits, interval_loop, interval_below, intervals_whole, in_limit}
use Rattle.net_changes.proofs.maps.add_map_bits.Goals as goal

pub loop-m-init : goal.loop-m-init
loop-m-init g c = λ told. no_bits _ _ _ _ _

pub overflow_mul-first : goal.overflow_mul-first
overflow_mul-first g c =
    let below = interval_below c.args.geometry c.loop-m.m _ _ _ c.interval_size-size.ensures c.div_ceil-m-end.ensures c.loop-m-test.true in
    let range = c.ranges.pages.fits in
    omega (arith, below, range)

pub map_page-page-requires : goal.map_page-page-requires
map_page-page-requires g c =
    let below = interval_below c.args.geometry c.loop-m.m _ _ _ c.interval_size-size.ensures c.div_ceil-m-end.ensures c.loop-m-test.true in
    in_limit c.args.geometry _ _ c.args.pages _ c.requires.geometry c.requires.pages (g.P.PlanPages.size c.args.v.now) (omega (arith, below))

pub loop-m-preserved : goal.loop-m-preserved
loop-m-preserved g c = λ told.
    interval_loop (g.P.PlanPages.state c.args.v.now) c.args.map c.args.geometry c.loop-m.m _ _ _ _ _ _ _ _ c.interval_size-size.ensures c.div_ceil-m-end.ensures c.loop-m-test.true
    c.map_page-page.ensures c.min.ensures (c.loop-m.invariant told) (c.in_ok-add_page_bits.ensures told)

pub returns : goal.returns
returns g c = λ told.
    intervals_whole (g.P.PlanPages.state c.args.v.now) c.args.map c.args.geometry c.loop-m.m _ _ _ _ _ c.interval_size-size.ensures c.div_ceil-m-end.ensures c.loop-m-test.false (c.loop-m.invariant told)
