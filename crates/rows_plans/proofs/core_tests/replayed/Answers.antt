use Rattle.std.proofs.Common.{length, subst, sym, ap, ◌∙◌, ◌≤◌, IsTrue}
use Rattle.std.specs.List.{list_all}
use Rattle.std.proofs.lemmas.List.{length-map}
use Rattle.spec_script.specs.Lines.{is_statement}
use Rattle.spec_run.specs.Begun.{Setting}
use Rattle.spec_start.specs.Sources.{IsTurnOf}
use Rattle.rows_plans.proofs.Lists.{at_place, passes_at}
use Rattle.rows_plans.proofs.core_tests.replayed.Goals as goal

pub begin-requires-clause-proper : goal.begin-requires-clause-proper
begin-requires-clause-proper c = λ k n script st at within.
    passes_at is_statement script n st (at_place (λ one. IsTrue (list_all is_statement one)) _ k script c.requires.proper at) within

pub replay-requires : goal.replay-requires
replay-requires c = λ k p at.
    let turn = at_place (IsTurnOf 3) _ k p c.requires.inside (rw (← c.deref.ensures.value) at) in
    let many = ap (λ (r : Setting). length r.scripts) c.in_ok-core.ensures.0
    ∙ (length-map c.args.texts.scripts.items (λ script. script.items) ∙ c.requires.count) in
    (turn.0, subst (λ m. p.0 ≤ m) (sym many) turn.1)
