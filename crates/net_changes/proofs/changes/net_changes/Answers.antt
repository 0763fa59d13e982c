use Rattle.std.proofs.Common.{sym, ◌∙◌}
use Rattle.net_changes.proofs.BitLaws.{from_none}
use Rattle.net_changes.proofs.Views.{changes_are_shown}
use Rattle.net_changes.proofs.changes.net_changes.Goals as goal

pub returns : goal.returns
returns g c = λ told.
    from_none _ _ _ c.new-changes.ensures.items (c.in_ok-add_changes.ensures told) ∙ sym (changes_are_shown (g.P.PlanPages.state c.args.v.now) (g.P.PlanPages.images c.args.v.now told))
