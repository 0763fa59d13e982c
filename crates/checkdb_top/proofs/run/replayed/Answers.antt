use Rattle.std.proofs.Common.{◌≡◌, map, length, subst, sym, ap, ◌∙◌, ◌≤◌}
use Rattle.std.specs.List.{list_all}
use Rattle.std.proofs.lemmas.List.{length-map}
use Rattle.spec_script.specs.Lines.{is_statement}
use Rattle.spec_run.specs.Begun.{Setting}
use Rattle.law_run.specs.Laws.{IsStart}
use Rattle.spec_start.specs.Sources.{IsTurnOf}
use Rattle.db_core.specs.States.{left_in}
use Rattle.checkdb_top.proofs.Running.{at_place, passes_at}
use Rattle.checkdb_top.proofs.run.replayed.Goals as goal

pub begin-requires-clause-proper : goal.begin-requires-clause-proper
begin-requires-clause-proper c = λ k n script st at within.
    passes_at is_statement script n st (passes_at (list_all is_statement) _ k script c.requires.proper at) within

pub replay-requires : goal.replay-requires
replay-requires c = λ k p at.
    let turn = at_place (IsTurnOf (length c.args.start.texts.scripts.items)) _ k p c.requires.inside (rw (← c.deref.ensures.value) at) in
    let many = ap (λ (r : Setting). length r.scripts) c.in_ok-core.ensures.0 ∙ length-map c.args.start.texts.scripts.items (λ script. script.items) in
    (turn.0, subst (λ m. p.0 ≤ m) (sym many) turn.1)

pub returns : goal.returns
returns c =
    let begun = c.in_ok-core.ensures in
    let made = c.replay.ensures.run in
    let same = c.replay.ensures.same in
    let size : length made.0 ≡ length (map (λ script. script.items) c.args.start.texts.scripts.items) =
    made.1 ∙ ap (λ (r : Setting). length r.scripts) begun.0 in
    record {
      run = same ∙ begun.0;
      start = subst IsStart (sym same) begun.3;
      counts = made.0;
      rest = size;
      left = left_in c.in_ok-core.core;
      after = left_in c.replay.new.self;
      taken = rw same (rw (begun.1, c.deref.ensures.value) at made.2);
      whole = c.replay.ensures.whole;
    }
