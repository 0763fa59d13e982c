use Rattle.std.proofs.Common.{◌∙◌, ap, arith, get_or}
use Rattle.std.proofs.lemmas.List.{take_all}
use Rattle.db_alloc.specs.Near.{whole_extents}
use Rattle.db_alloc.proofs.NearExtents.{whole_then, whole_else, whole_more}
use Rattle.db_alloc.proofs.left.first_extents.Goals as goal
use Rattle.db_alloc.proofs.left.first_extents.Goals.{then-p-eq0, else-p-eq0}

pub loop-p-preserved : goal.loop-p-preserved
loop-p-preserved c =
    let p = get_or c.args.near.now c.loop-p.p-index 0 in
    let whole = c.if-p-eq0.push_extent in
    whole_more c.args.pages c.loop-p.p-index c.args.near.now _ _ whole c.loop-p-test.true
    (elim c.if-p-eq0.branch [
      | then-p-eq0 w ↦ whole_then c.args.pages p whole w.if-p-eq0.true w.push_extent-is
      | else-p-eq0 w ↦ whole_else c.args.pages p whole w.if-p-eq0.false w.push_extent-is
    ])
    c.loop-p.invariant c.in_ok-push_extent.ensures.extents

pub returns-clause-extents : goal.returns-clause-extents
returns-clause-extents c = c.loop-p.invariant ∙ ap (whole_extents c.args.pages) (take_all c.loop-p.p-index c.args.near.now (let end = c.loop-p-test.false in omega (arith, end)))
