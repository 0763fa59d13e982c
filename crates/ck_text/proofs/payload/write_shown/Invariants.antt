use Rattle.std.proofs.Common.{take, flat_map, false}
use Rattle.spec_script.specs.Replies.{shown_byte}
use Rattle.vol_dev.specs.Output.{Wrote}
use Rattle.ck_text.proofs.payload.write_shown.Given as goal

abbrev pub invariant-loop-b : goal.invariant-loop-b
invariant-loop-b g l = Wrote g.K.Sink l.initial.out l.out (flat_map (shown_byte) (take l.b-index l.payload)) false
