use Rattle.std.proofs.Common.{◌∷◌, ◌++◌, [], map, subst, sym}
use Rattle.db_core.specs.Runs.{AreNew}
use Rattle.db_core.proofs.Begun.{new_more}
use Rattle.db_core.proofs.begin.sessions_of.Goals as goal

pub loop-script-preserved : goal.loop-script-preserved
loop-script-preserved c =
    subst (AreNew (map (λ s. s.items) (c.loop-script.yielded ++ c.in-Some.script ∷ []))) (sym c.in_ok-push.ensures.items)
    (new_more (λ s. s.items) c.loop-script.yielded c.in-Some.script c.loop-script.sessions.items c.in_ok-session_of.field-0 c.loop-script.invariant c.in_ok-session_of.ensures)
