-- Bytes that may be put into a cell.
use Rattle.std.specs.Prelude.{◌≡◌, ℕ, ◌+◌, ◌-◌, ◌<◌, ◌≤◌, List, [], ◌∷◌, length, slice_get, Some}
use Rattle.spec_file.specs.Image.{Image}
use Rattle.spec_file.specs.declared.sizes.TheConstants.{PAGE_SIZE}
use Rattle.spec_file.specs.declared.sizes.TheConstants.{BIT_COUNT}
use Rattle.spec_log.specs.declared.item.Record.{Record}
use Rattle.spec_log.specs.declared.item.Record.TheVariants.{Change}
use Rattle.spec_log.specs.Images.{page_of_cell}
use Rattle.spec_log.specs.declared.item.Cell.{Cell}
use Rattle.spec_log.specs.declared.item.Cell.TheVariants.{Bytes, Bit}

abbrev pub FitsCell : Cell → List ℕ → Type 0
FitsCell (Bytes page off) bytes = off + length bytes ≤ PAGE_SIZE
FitsCell (Bit page n) bytes = (n < BIT_COUNT) × (0 < length bytes)

-- what a Change had found may be put back
abbrev pub MayPutBack : Image → Record → Type 0
MayPutBack image (Change tran cell before after) = (page_of_cell cell < length image) × FitsCell cell before
MayPutBack image other = Unit {0}

-- the item of the change that is undone next, if any, may be put back
abbrev pub MayUndo : Image → List Record → List ℕ → Type 0
MayUndo image items [] = Unit {0}
MayUndo image items (n ∷ rest) = (0 < n) × (n ≤ length items) × ((x : Record) → slice_get items (n - 1) ≡ Some x → MayPutBack image x)
