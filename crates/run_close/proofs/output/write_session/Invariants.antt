use Rattle.std.proofs.Common.{take, false}
use Rattle.spec_script.specs.Replies.{session_text}
use Rattle.vol_dev.specs.Output.{Wrote}
use Rattle.run_close.proofs.output.write_session.Given as goal

abbrev pub invariant-loop-i : goal.invariant-loop-i
invariant-loop-i g l = Wrote g.K.Sink l.fn.out l.out (session_text l.session 1 (take l.i l.replies)) false
