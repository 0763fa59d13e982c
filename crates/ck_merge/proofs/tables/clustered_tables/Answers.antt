use Rattle.std.proofs.Common.{◌∙◌, sym}
use Rattle.ck_merge.proofs.TableRoots.{roots_more, roots_skip}
use Rattle.ck_merge.proofs.tables.clustered_tables.Goals as goal
use Rattle.ck_merge.proofs.tables.clustered_tables.Goals.{then-is_clustered+in_ok-push, else-is_clustered}

pub loop-row-preserved : goal.loop-row-preserved
loop-row-preserved c =
    let row = c.row-item.result in
    elim c.if-is_clustered.branch [
      | then-is_clustered+in_ok-push w ↦ rw w.roots-is (roots_more c.args.objects.now c.loop-row.row-index row c.loop-row.roots.items _ c.loop-row-test.true
          c.row-item.is (sym c.is_clustered.ensures ∙ w.if-is_clustered.true) c.loop-row.invariant w.in_ok-push.ensures.items)
      | else-is_clustered w ↦ rw w.roots-is (roots_skip c.args.objects.now c.loop-row.row-index row c.loop-row.roots.items c.loop-row-test.true
          c.row-item.is (sym c.is_clustered.ensures ∙ w.if-is_clustered.false) c.loop-row.invariant)
    ]
