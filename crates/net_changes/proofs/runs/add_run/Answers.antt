use Rattle.net_changes.proofs.RunLaws.{run_added, run_kept}
use Rattle.net_changes.proofs.runs.add_run.Goals as goal

pub returns-in_ok-push : goal.returns-in_ok-push
returns-in_ok-push c =
    run_added c.args.page.0 c.args.k _ c.args.pair.now.before.bytes c.args.pair.now.after.bytes _ _ _ _ c.begins_run.ensures c.if-begins_run.true c.run_length-length.ensures.length
    c.in_ok-change.ensures c.in_ok-push.ensures.items

pub returns-else-begins_run : goal.returns-else-begins_run
returns-else-begins_run c = run_kept c.args.page.0 c.args.k c.args.pair.now.before.bytes c.args.pair.now.after.bytes _ _ c.begins_run.ensures c.if-begins_run.false
