-- A row as the definitions see it.
use Rattle.std.specs.Prelude.{◌≡◌, ℕ, ◌+◌, ◌≤◌, List, ◌++◌, length, take, drop, Option, Some, None, ⊤}
use Rattle.spec_file.specs.declared.sizes.TheConstants.{PAYLOAD_LIMIT}
use Rattle.spec_rows.specs.Rows.{PageRow, DataRow, IndexRow}
use Rattle.pg_row.specs.declared.row.Row.{Row}
use Rattle.pg_row.specs.declared.row.Row.TheVariants.{Leaf, Index}

abbrev pub meaning : Row → PageRow
meaning (Leaf key payload) = DataRow key payload.now
meaning (Index key child) = IndexRow key child.0

abbrev pub meaning_of : Option Row → Option PageRow
meaning_of None = None
meaning_of (Some row) = Some (meaning row)

-- the payload leaves room for what stands before it
abbrev pub IsShort : Row → Type 0
IsShort (Leaf key payload) = length payload.now ≤ PAYLOAD_LIMIT
IsShort (Index key child) = ⊤

-- bytes that follow those before a place, and what stands behind them stays
pub record PutsBytes (at : ℕ) (bytes before now : List ℕ) : Type 0 where
  pub front : take (at + length bytes) now ≡ take at before ++ bytes
  pub back : drop (at + length bytes) now ≡ drop (at + length bytes) before
