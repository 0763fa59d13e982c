use Rattle.std.proofs.Common.{◌≤◌, arith}
use Rattle.file_new.proofs.Written.{next_fits, page_written}
use Rattle.file_new.proofs.write.write_pages.Goals as goal

pub write-requires : goal.write-requires
write-requires g c = next_fits c.args.g c.args.pages c.loop-p.p (g.V.Volume.contents c.args.volume.now) (g.V.Volume.contents c.loop-p.volume) c.loop-p-test.true c.loop-p.invariant.0

pub loop-p-preserved : goal.loop-p-preserved
loop-p-preserved g c =
    let less : g.V.Volume.faults c.args.volume.now ≤ g.V.Volume.faults c.write.new.self = omega (arith, c.loop-p.invariant.1, c.in_ok-write.ensures.faults) in (
      page_written c.args.g c.args.pages c.loop-p.p _ _ _ c.make_page.new.into.bytes c.loop-p-test.true c.make_page.ensures c.loop-p.invariant.0 c.in_ok-write.ensures.ok,
      less,
    )
