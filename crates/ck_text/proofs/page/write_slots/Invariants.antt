use Rattle.std.proofs.Common.{take, flat_map, false}
use Rattle.std.specs.List.{range_with_len}
use Rattle.spec_script.specs.PageText.{slot_line}
use Rattle.vol_dev.specs.Output.{Wrote}
use Rattle.ck_text.proofs.page.write_slots.Given as goal

abbrev pub invariant-loop-i : goal.invariant-loop-i
invariant-loop-i g l = Wrote g.K.Sink l.initial.out l.out (flat_map (slot_line l.page.bytes) (take l.i (range_with_len 0 l.count))) false
