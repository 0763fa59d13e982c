use Rattle.std.proofs.Common.{take, flat_map, false}
use Rattle.spec_script.specs.Replies.{payload_line}
use Rattle.vol_dev.specs.Output.{Wrote}
use Rattle.ck_text.proofs.payload.write_payloads.Given as goal

abbrev pub invariant-loop-payload : goal.invariant-loop-payload
invariant-loop-payload g l = Wrote g.K.Sink l.initial.out l.out (flat_map (payload_line) (take l.payload-index l.payloads)) false
