use Rattle.std.proofs.Common.{◌*◌, arith}
use Rattle.db_alloc.proofs.NearPages.{between_more}
use Rattle.db_alloc.proofs.near.push_extent.Goals as goal

pub loop-p-preserved : goal.loop-p-preserved
loop-p-preserved c =
    let lt = c.loop-p-test.true in
    let least = c.min.ensures in
    between_more c.args.pages (8 * c.args.e) c.loop-p.p _ _ _ c.loop-p.invariant c.in_ok-push.ensures.items (omega (arith, lt, least))
