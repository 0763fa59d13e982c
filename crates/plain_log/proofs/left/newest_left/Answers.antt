use Rattle.std.proofs.Common.{◌≡◌, suc, ◌+◌, ◌-◌, ◌<◌, length, arith}
use Rattle.plain_log.proofs.Newest.{left_met, left_passed}
use Rattle.plain_log.proofs.left.newest_left.Goals as goal

pub returns-then-undone-eq0 : goal.returns-then-undone-eq0
returns-then-undone-eq0 c =
    let place : c.loop-i.i ≡ c.loop-i.i - 1 + 1 = omega arith in
    let inside : c.loop-i.i - 1 < length c.args.items.now = omega arith in
    left_met c.args.items.now c.args.t c.loop-i.i c.loop-i.undone (c.loop-i.i - 1) c.index-items-i.result c.in-Change.tran c.in-Change.cell c.in-Change.before c.in-Change.after
    place c.if-undone-eq0.true inside c.index-items-i.is c.in-Change.is c.if-tran-t.true c.loop-i.invariant.same

pub loop-i-preserved-then-tran-t : goal.loop-i-preserved-then-tran-t
loop-i-preserved-then-tran-t c =
    let place : c.loop-i.i ≡ c.loop-i.i - 1 + 1 = omega arith in
    let inside : c.loop-i.i - 1 < length c.args.items.now = omega arith in
    let some : c.loop-i.undone ≡ suc (c.loop-i.undone - 1) = omega arith in
    record {
      inside = omega arith;
      same = left_passed c.args.items.now c.args.t c.loop-i.i c.loop-i.undone (c.loop-i.undone - 1) (c.loop-i.i - 1) c.index-items-i.result c.in-Change.tran c.in-Change.cell c.in-Change.before c.in-Change.after
          place some inside c.index-items-i.is c.in-Change.is c.if-tran-t.true c.loop-i.invariant.same;
    }
