use Rattle.std.proofs.Common.{filter, sym, ap, ◌∙◌}
use Rattle.std.proofs.lemmas.List.{take_all}
use Rattle.net_changes.specs.Shown.{counts_shown}
use Rattle.net_changes.proofs.Views.{takes_are_shown}
use Rattle.net_changes.proofs.takes.net_takes.Goals as goal

pub returns : goal.returns
returns g c = λ told.
    let s = g.P.PlanPages.state c.args.v.now in
    c.loop-r.invariant told ∙ ap (filter (counts_shown s)) (take_all c.loop-r.r-index c.taken-taken.result.now c.loop-r-test.false ∙ c.taken-taken.ensures)
    ∙ sym (takes_are_shown s (g.P.PlanPages.images c.args.v.now told))
