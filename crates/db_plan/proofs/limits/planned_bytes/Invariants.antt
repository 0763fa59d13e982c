use Rattle.std.proofs.Common.{◌≡◌, ◌-◌, ◌^◌, min, take}
use Rattle.spec_plan.specs.Planned.{planned_size}
use Rattle.db_plan.proofs.limits.planned_bytes.Given as goal

abbrev pub invariant-loop-change : goal.invariant-loop-change
invariant-loop-change l = l.size ≡ min (planned_size (take l.change-index l.changes)) (2 ^ 64 - 1)
