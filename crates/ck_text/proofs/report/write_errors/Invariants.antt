use Rattle.std.proofs.Common.{take, flat_map, false}
use Rattle.spec_check.specs.Text.{error_line}
use Rattle.vol_dev.specs.Output.{Wrote}
use Rattle.ck_text.proofs.report.write_errors.Given as goal

abbrev pub invariant-loop-error : goal.invariant-loop-error
invariant-loop-error g l = Wrote g.K.Sink l.initial.out l.out (flat_map (error_line) (take l.error-index l.errors)) false
