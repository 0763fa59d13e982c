-- The grammar of a row (this project's own): a data row has its length in its header, an index row is
-- always of one length.
use Rattle.std.specs.Prelude.{ℕ, ◌+◌, ◌^◌, ◌==◌, ◌&&◌, ◌<◌, ◌≤◌, Bool, List, ◌∷◌, ◌++◌, length, drop, nat_le, slice_index, if◌then◌else◌, Option, Some, None}
use Rattle.byteorder.specs.Endian.{little_bytes}
use Rattle.spec_file.specs.declared.data.Kind.{Kind}
use Rattle.spec_file.specs.declared.data.Kind.TheVariants.{Heap, Clustered}
use Rattle.spec_file.specs.declared.sizes.TheConstants.{ROW_LIMIT}
use Rattle.spec_file.specs.Image.{number_at}
use Rattle.spec_rows.specs.declared.sizes.TheConstants.{DATA_HEAD, DATA_STATUS, INDEX_LENGTH, INDEX_STATUS}

-- a row of a heap or of a leaf, or a row that names the child below its key
pub data PageRow : Type 0 where
  DataRow : (key : ℕ) → (payload : List ℕ) → PageRow
  IndexRow : (key : ℕ) → (child : ℕ) → PageRow

-- the first byte of a row
abbrev pub data_status : ℕ
data_status = DATA_STATUS

abbrev pub index_status : ℕ
index_status = INDEX_STATUS

-- status, length and key stand before the payload
abbrev pub data_head : ℕ
data_head = DATA_HEAD

abbrev pub row_limit : ℕ
row_limit = ROW_LIMIT

abbrev pub index_length : ℕ
index_length = INDEX_LENGTH

-- how a row is written: status, in a data row the length of the whole, key, payload or child
unfoldable pub row_bytes : PageRow → List ℕ
row_bytes (DataRow key payload) =
    data_status ∷ little_bytes 2 (data_head + length payload) ++ little_bytes 8 key ++ payload
row_bytes (IndexRow key child) = index_status ∷ little_bytes 8 key ++ little_bytes 4 child

-- a row that can be written
abbrev pub Fits : PageRow → Type 0
Fits (DataRow key payload) = (key < 2 ^ 64) × (data_head + length payload ≤ row_limit)
Fits (IndexRow key child) = (key < 2 ^ 64) × (child < 2 ^ 32)

-- what follows the status is that of one whole data row
abbrev pub has_data_form : List ℕ → Bool
has_data_form bytes = (number_at 2 1 bytes == length bytes) && nat_le data_head (length bytes) && nat_le (length bytes) row_limit

-- the bytes are one whole data row
abbrev pub is_data_row : List ℕ → Bool
is_data_row bytes = (slice_index bytes 0 == data_status) && has_data_form bytes

-- A row on a data page of a table of this kind may begin with this byte. It is here that a kind of table
-- with further rows of that form says so.
abbrev pub is_data_status : Kind → ℕ → Bool
is_data_status Heap b = b == data_status
is_data_status Clustered b = b == data_status

-- the bytes are one whole row of a data page of a table of this kind
abbrev pub is_leaf_row : Kind → List ℕ → Bool
is_leaf_row kind bytes = is_data_status kind (slice_index bytes 0) && has_data_form bytes

-- the bytes are one whole index row
abbrev pub is_index_row : List ℕ → Bool
is_index_row bytes = (slice_index bytes 0 == index_status) && (length bytes == index_length)

-- the row that the bytes are, where they are one whole row
abbrev pub row_of : List ℕ → Option PageRow
row_of bytes =
    if is_data_row bytes then Some (DataRow (number_at 8 3 bytes) (drop data_head bytes))
    else (if is_index_row bytes then Some (IndexRow (number_at 8 1 bytes) (number_at 4 9 bytes)) else None)

-- the key of a row's bytes
abbrev pub row_key : List ℕ → ℕ
row_key bytes = if slice_index bytes 0 == data_status then number_at 8 3 bytes else number_at 8 1 bytes

-- the page that an index row names
abbrev pub row_child : List ℕ → ℕ
row_child bytes = number_at 4 9 bytes
