-- The sums of a log that are limited, and when a statement's changes pass a limit. Only Starts count in
-- them, so that Snap and CheckEnd count nowhere (the limits are this project's own).
use Rattle.std.specs.Prelude.{ℕ, ◌+◌, ◌*◌, ◌==◌, ◌&&◌, ◌||◌, not, nat_lt, Bool, if◌then◌else◌, List, [], ◌∷◌}
use Rattle.spec_log.specs.declared.limits.TheConstants.{MOST_CHANGES, MOST_ITEMS, MOST_BYTES}
use Rattle.spec_log.specs.declared.item.Record.{Record}
use Rattle.spec_log.specs.declared.item.Record.TheVariants.{Start}

-- how many changes the Starts of a transaction announce
abbrev pub changes_of : ℕ → List Record → ℕ
changes_of t [] = 0
changes_of t (Start session index tran number changes size takes ∷ older) = (if tran.0 == t then changes else 0) + changes_of t older
changes_of t (other ∷ older) = changes_of t older

-- how many changes all Starts announce
abbrev pub all_changes : List Record → ℕ
all_changes [] = 0
all_changes (Start session index tran number changes size takes ∷ older) = changes + all_changes older
all_changes (other ∷ older) = all_changes older

-- the bytes of all changes that the Starts announce, and of an Undo for each
abbrev pub all_bytes : List Record → ℕ
all_bytes [] = 0
all_bytes (Start session index tran number changes size takes ∷ older) = (size + 17 * changes) + all_bytes older
all_bytes (other ∷ older) = all_bytes older

-- a statement of transaction t with n changes of so many bytes passes a limit
abbrev pub passes_limit : List Record → ℕ → ℕ → ℕ → Bool
passes_limit log t n bytes =
    not (n == 0) && (nat_lt MOST_CHANGES (changes_of t log + n) || nat_lt MOST_ITEMS (2 * (all_changes log + n))
    || nat_lt MOST_BYTES (all_bytes log + (bytes + 17 * n)))
