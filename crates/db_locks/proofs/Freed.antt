-- What is left where the holdings of one transaction are taken out.
use Rattle.std.proofs.Common.{◌≡◌, ◌==◌, Bool, true, false, not, refl, Option, Some, None}
use Rattle.std.specs.Prelude.{if◌then◌else◌}
use Rattle.std.proofs.lemmas.Map.Entries.{option_filter}
use Rattle.spec_file.specs.declared.data.Tran.{Tran}
use Rattle.db_locks.specs.Locks.{released}

abbrev pub is_other : Tran → Tran → Bool
is_other by holder = not (holder.0 == by.0)

pub released-filter : (by : Tran) (o : Option Tran) → option_filter (is_other by) o ≡ released by o
released-filter by None = refl
released-filter by (Some holder) = by_test (holder.0 == by.0) holder
  where
    by_test : (b : Bool) (h : Tran) → (if not b then Some h else None) ≡ (if b then None else Some h)
    by_test true h = refl
    by_test false h = refl
