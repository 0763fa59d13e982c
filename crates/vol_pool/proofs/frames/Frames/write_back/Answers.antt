use Rattle.std.proofs.Common.{◌≡◌, ◌<◌, ◌≤◌, length, arith}
use Rattle.std.proofs.lemmas.Result.{err_from_is_err_and}
use Rattle.vol_pool.proofs.Written.{more_written, all_written, stops, next_stands}
use Rattle.vol_pool.proofs.frames.Frames.write_back.Goals as goal

pub write_changed-requires-clause-same : goal.write_changed-requires-clause-same
write_changed-requires-clause-same g c =
    let below : c.loop-p.p < length c.args.self.now = omega (arith, c.loop-p-test.true, c.requires.marks, c.loop-p.auto.p-end) in
    rw c.page.ensures (next_stands c.args.changed.now c.args.self.now _ _ c.loop-p.p c.requires.size below c.loop-p.invariant.0 c.requires.same)

pub returns-in_err-write_changed-clause-err : goal.returns-in_err-write_changed-clause-err
returns-in_err-write_changed-clause-err g c =
    let below : c.loop-p.p < length c.args.self.now = omega (arith, c.loop-p-test.true, c.requires.marks, c.loop-p.auto.p-end) in
    let p = err_from_is_err_and c.from_residual.result c.from_residual.ensures.1 in
    rw p.1 (stops c.args.changed.now c.args.self.now _ _ _ c.loop-p.p c.requires.size below c.in_err-write_changed.ensures.err c.loop-p.invariant.0 c.in_err-write_changed.ensures.spoiled)

pub loop-p-preserved : goal.loop-p-preserved
loop-p-preserved g c =
    let below : c.loop-p.p < length c.args.self.now = omega (arith, c.loop-p-test.true, c.requires.marks, c.loop-p.auto.p-end) in
    let less : g.V.Volume.faults c.args.volume.now ≤ g.V.Volume.faults c.write_changed.new.volume =
    omega (arith, c.loop-p.invariant.1, c.in_ok-write_changed.ensures.faults) in
    (more_written c.args.self.now _ _ _ c.loop-p.p c.requires.size below c.loop-p.invariant.0 (rw c.page.ensures at c.in_ok-write_changed.ensures.ok), less)

pub returns-clause-ok : goal.returns-clause-ok
returns-clause-ok g c =
    let end : c.loop-p.p ≡ length c.args.self.now = omega (arith, c.loop-p-test.false, c.requires.marks, c.loop-p.auto.p-end) in
    all_written c.args.self.now _ _ c.loop-p.p c.requires.size end c.loop-p.invariant.0
