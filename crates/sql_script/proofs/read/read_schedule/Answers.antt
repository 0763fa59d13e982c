use Rattle.std.proofs.Common.{arith}
use Rattle.spec_script.specs.Lines.{IsTurnsLine}
use Rattle.sql_script.proofs.TextSteps.{goes_on}
use Rattle.sql_script.proofs.read.read_schedule.Goals as goal

pub loop-rest-preserved : goal.loop-rest-preserved
loop-rest-preserved c = record {
  read = goes_on (IsTurnsLine c.args.sessions) c.args.bytes.now c.loop-rest.number c.loop-rest.rest.now c.first_line.result.0.now c.first_line.result.1.now
      c.loop-rest.turns.items c.take_turns.new.turns.items c.loop-rest.invariant.read c.first_line.ensures.lines c.in_ok-take_turns.ensures.ok;
  taken = omega (arith, c.loop-rest.invariant.taken, c.first_line.ensures.rest);
  size = c.loop-rest.invariant.size;
}
