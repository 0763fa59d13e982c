-- What a lock table says.
use Rattle.std.specs.Prelude.{◌≡◌, ◌≢◌, ℕ, ◌==◌, if◌then◌else◌, Option, Some, None}
use Rattle.std.specs.Option.{option_map}
use Rattle.std.specs.HashMap.{get, spare}
use Rattle.spec_file.specs.declared.data.Resource.{Resource}
use Rattle.spec_file.specs.declared.data.Tran.{Tran}
use Rattle.db_locks.specs.declared.table.LockTable.{LockTable}
use Rattle.db_locks.specs.Keys.{key_of, is_same_key}

-- the transaction that holds a resource
abbrev pub holder_of : LockTable → Resource → Option Tran
holder_of table r = get is_same_key table.holders (key_of r)

-- how many resources can be taken without memory
abbrev pub room_of : LockTable → ℕ
room_of table = spare table.holders

-- who holds a resource after a transaction ends, by who held it before
abbrev pub released : Tran → Option Tran → Option Tran
released by None = None
released by (Some holder) = if holder.0 == by.0 then None else Some holder

-- both tables say the same of all resources
abbrev pub HoldSame : LockTable → LockTable → Type 0
HoldSame old new = (r : Resource) → holder_of new r ≡ holder_of old r

-- both tables say the same of all resources but one
abbrev pub HoldSameBeside : Resource → LockTable → LockTable → Type 0
HoldSameBeside r old new = (other : Resource) → other ≢ r → holder_of new other ≡ holder_of old other

-- who holds a resource, as the numbers of transactions
abbrev pub others_of : LockTable → Resource → Option ℕ
others_of table r = option_map (λ t. t.0) (holder_of table r)
