-- What an item of the log is of, and the form that an item has (this project's own).
use Rattle.std.specs.Prelude.{ℕ, ◌+◌, ◌==◌, ◌&&◌, Bool, true, nat_lt, nat_le, List, length, slice_index}
use Rattle.spec_file.specs.declared.data.Resource.{Resource}
use Rattle.spec_file.specs.declared.data.Resource.TheVariants.{Catalog, Table, Extent, Byte, Page}
use Rattle.spec_file.specs.declared.sizes.TheConstants.{BIT_COUNT}
use Rattle.spec_file.specs.Image.{page_size}
use Rattle.spec_log.specs.declared.limits.TheConstants.{MOST_CHANGES, MOST_SIZE, SHORT}
use Rattle.spec_log.specs.declared.item.Cell.{Cell}
use Rattle.spec_log.specs.declared.item.Cell.TheVariants.{Bytes, Bit}
use Rattle.spec_log.specs.declared.item.Record.{Record}
use Rattle.spec_log.specs.declared.item.Record.TheVariants.{Start, Change, Undo, Commit, Abort, Snap, Failed, CheckEnd}

-- the grain of a resource, and its number in that grain
abbrev pub grain_of : Resource → ℕ
grain_of Catalog = 1
grain_of (Table o) = 2
grain_of (Extent e) = 3
grain_of (Byte p) = 4
grain_of (Page p) = 5

abbrev pub number_of : Resource → ℕ
number_of Catalog = 0
number_of (Table o) = o.0
number_of (Extent e) = e.0
number_of (Byte p) = p.0
number_of (Page p) = p.0

abbrev pub is_same : Resource → Resource → Bool
is_same r s = (grain_of r == grain_of s) && (number_of r == number_of s)

-- the transaction of an item, 0 where it has none
abbrev pub tran_of : Record → ℕ
tran_of (Start session index tran number changes size takes) = tran.0
tran_of (Change tran cell before after) = tran.0
tran_of (Undo tran change) = tran.0
tran_of (Commit tran) = tran.0
tran_of (Abort tran) = tran.0
tran_of (Snap session index) = 0
tran_of (Failed session index page) = 0
tran_of (CheckEnd session index outcome) = 0

-- the cell of a change: 1 to 8,192 bytes inside the page, or one bit that turns
abbrev pub has_cell_form : Cell → List ℕ → List ℕ → Bool
has_cell_form (Bytes page off) before after =
    nat_lt 0 (length after) && nat_le (off + length after) page_size && (length before == length after)
has_cell_form (Bit page n) before after =
    nat_lt n BIT_COUNT && (length before == 1) && (length after == 1) && (slice_index before 0 + slice_index after 0 == 1)

-- the item has the form of the log's grammar
abbrev pub has_form : Record → Bool
has_form (Start session index tran number changes size takes) =
    nat_lt 0 session && nat_lt 0 index && nat_le changes MOST_CHANGES && nat_le size MOST_SIZE && nat_lt (length takes) 4294967296
has_form (Change tran cell before after) = has_cell_form cell before after
has_form (Undo tran change) = true
has_form (Commit tran) = true
has_form (Abort tran) = true
has_form (Snap session index) = nat_lt 0 session && nat_lt 0 index
has_form (Failed session index page) = nat_lt 0 session && nat_lt 0 index
has_form (CheckEnd session index outcome) = nat_lt 0 session && nat_lt 0 index && nat_le outcome SHORT
