-- When the changes of a statement pass a limit of the log, by the sums so far.
use Rattle.std.specs.Prelude.{ℕ, ◌+◌, ◌*◌, ◌==◌, ◌&&◌, ◌||◌, not, nat_lt, Bool, List, length}
use Rattle.spec_log.specs.declared.limits.TheConstants.{MOST_CHANGES, MOST_ITEMS, MOST_BYTES}
use Rattle.spec_plan.specs.declared.plan.Planned.{Planned}
use Rattle.spec_plan.specs.Planned.{planned_size}
use Rattle.db_plan.specs.declared.planned.PlanAt.{PlanAt}

-- n changes of so many bytes pass a limit, beside what the transaction and the log announce already
abbrev pub exceeds : ℕ → ℕ → ℕ → ℕ → ℕ → Bool
exceeds used all size n bytes =
    not (n == 0) && (nat_lt MOST_CHANGES (used + n) || nat_lt MOST_ITEMS (2 * (all + n)) || nat_lt MOST_BYTES (size + (bytes + 17 * n)))

abbrev pub passes : PlanAt → List Planned → Bool
passes at changes = exceeds at.used_changes at.announced_changes at.announced_bytes (length changes) (planned_size changes)
