use Rattle.std.proofs.Common.{sym, ap, not, subst, arith}
use Rattle.spec_script.specs.Lines.{IsTurnsLine}
use Rattle.sql_script.specs.Stops.{Tells}
use Rattle.sql_script.proofs.TextSteps.{takes, stops_line}
use Rattle.sql_script.proofs.Sentences.{turns_tell}
use Rattle.sql_script.proofs.read.take_turns.Goals as goal

pub returns-clause-ok : goal.returns-clause-ok
returns-clause-ok c =
    takes (IsTurnsLine c.args.sessions) c.push_value.result c.args.line.now c.turns_of-found.result c.args.turns.now.items c.push_value.new.values.items
    (sym (ap not c.if-is_skipped.ensures))
    (subst (Tells (IsTurnsLine c.args.sessions) c.args.line.now) (sym c.turns_of-found.ensures) (turns_tell c.args.sessions c.args.line.now (omega (arith, c.ranges.sessions.fits))))
    c.push_value.ensures.ok

pub returns-clause-fault : goal.returns-clause-fault
returns-clause-fault c =
    stops_line (IsTurnsLine c.args.sessions) c.push_value.result c.args.number c.args.line.now c.turns_of-found.result c.args.turns.now.items
    (sym (ap not c.if-is_skipped.ensures))
    (subst (Tells (IsTurnsLine c.args.sessions) c.args.line.now) (sym c.turns_of-found.ensures) (turns_tell c.args.sessions c.args.line.now (omega (arith, c.ranges.sessions.fits))))
    c.push_value.ensures.fault
