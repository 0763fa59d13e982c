use Rattle.std.proofs.Common.{take, flat_map, false}
use Rattle.spec_check.specs.Text.{table_line}
use Rattle.vol_dev.specs.Output.{Wrote}
use Rattle.ck_text.proofs.report.write_tables.Given as goal

abbrev pub invariant-loop-table : goal.invariant-loop-table
invariant-loop-table g l = Wrote g.K.Sink l.initial.out l.out (flat_map (table_line) (take l.table-index l.tables)) false
