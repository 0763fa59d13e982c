-- What a cell of an image of bytes holds are bytes.
use Rattle.std.proofs.Common.{ℕ, ◌+◌, ◌/◌, ◌%◌, ◌<◌, zero, suc, [], ◌∷◌, arith}
use Rattle.std.specs.Prelude.{slice_index}
use Rattle.std.specs.Int.{bit_at}
use Rattle.spec_file.specs.Image.{Image, AreBytes, page, maps_start}
use Rattle.spec_log.specs.declared.item.Cell.{Cell}
use Rattle.spec_log.specs.declared.item.Cell.TheVariants.{Bytes, Bit}
use Rattle.spec_log.specs.Cells.{read_cell}
use Rattle.law_net.proofs.RowBytes.{low_bytes, bytes_low, low_range}

bit_is_low : (x i : ℕ) → bit_at x i < 256
bit_is_low x i = omega arith

pub cell_bytes : (image : Image) (cell : Cell) (size : ℕ) → ((p : ℕ) → AreBytes (page image p)) → AreBytes (read_cell image cell size)
cell_bytes image (Bytes p off) size low = low_bytes _ (low_range (page image p.0) off (off + size) (bytes_low (page image p.0) (low p.0)))
cell_bytes image (Bit p n) size low =
    let bit = bit_at (slice_index (page image p.0) (maps_start + n / 8)) (n % 8) in
    low_bytes (bit ∷ []) (bit_is_low (slice_index (page image p.0) (maps_start + n / 8)) (n % 8), tt)
