use Rattle.std.proofs.Common.{arith, inl}
use Rattle.ck_scan.proofs.WorkLaws.{drawn_none, drawn_then, still_going}
use Rattle.ck_scan.proofs.worker.work.Goals as goal

pub loop-drawn-init : goal.loop-drawn-init
loop-drawn-init g c = record {
  drawn = drawn_none g.R.SnapReader c.args.claims.now c.args.map.now c.args.worker.now c.requires.going;
  going = c.requires.going.going;
  count = omega arith;
}

pub draw_one-requires-clause-going : goal.draw_one-requires-clause-going
draw_one-requires-clause-going g c = still_going g.R.SnapReader c.args.claims.now c.args.map.now c.args.worker.now c.loop-drawn.worker c.requires.going
    c.loop-drawn.invariant.drawn c.loop-drawn.invariant.going

pub loop-drawn-preserved : goal.loop-drawn-preserved
loop-drawn-preserved g c =
    let count = c.loop-drawn.invariant.count in
    let more = c.draw_one.ensures.more c.if-not-draw_one.false in
    record {
      drawn = drawn_then g.R.SnapReader c.args.claims.now c.args.map.now c.args.worker.now c.loop-drawn.worker c.draw_one.new.worker
          c.loop-drawn.invariant.drawn c.loop-drawn.invariant.going c.draw_one.ensures.drawn;
      going = c.draw_one.ensures.going c.if-not-draw_one.false;
      count = omega (arith, count, more);
    }

pub returns-then-not-draw_one : goal.returns-then-not-draw_one
returns-then-not-draw_one g c = record {
  drawn = drawn_then g.R.SnapReader c.args.claims.now c.args.map.now c.args.worker.now c.loop-drawn.worker c.draw_one.new.worker
      c.loop-drawn.invariant.drawn c.loop-drawn.invariant.going c.draw_one.ensures.drawn;
  all = λ none. inl (c.draw_one.ensures.all c.if-not-draw_one.true none);
}
