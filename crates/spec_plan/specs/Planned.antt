-- How many bytes planned changes have in the log.
use Rattle.std.specs.Prelude.{ℕ, List, length, sum_by}
use Rattle.spec_log.specs.Bytes.{change_length}
use Rattle.spec_plan.specs.declared.plan.Planned.{Planned}

abbrev pub planned_size : List Planned → ℕ
planned_size changes = sum_by (λ (c : Planned). change_length (length c.after)) changes
