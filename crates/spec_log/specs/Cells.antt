-- Cells of an image: what stands there, and the image with other bytes there.
use Rattle.std.specs.Prelude.{◌≡◌, ℕ, ◌+◌, ◌-◌, ◌/◌, ◌%◌, ◌^◌, ◌==◌, ◌&&◌, nat_le, nat_lt, if◌then◌else◌, bit_xor, List, [], ◌∷◌, length, map, All, slice_index, slice_set, slice_range}
use Rattle.std.specs.List.{range_with_len}
use Rattle.std.specs.Int.{bit_at}
use Rattle.spec_file.specs.Image.{Image, page, page_size, maps_start}
use Rattle.spec_log.specs.declared.item.Cell.{Cell}
use Rattle.spec_log.specs.declared.item.Cell.TheVariants.{Bytes, Bit}

-- each page of the image has its 8,192 bytes
abbrev pub HasWholePages : Image → Type 0
HasWholePages image = All (λ bytes. length bytes ≡ page_size) image

-- byte i of a page with these bytes put at an offset
abbrev pub byte_with : List ℕ → ℕ → List ℕ → ℕ → ℕ
byte_with old off bytes i = if nat_le off i && nat_lt i (off + length bytes) then slice_index bytes (i - off) else slice_index old i

-- the page with these bytes put at an offset
abbrev pub with_bytes : List ℕ → ℕ → List ℕ → List ℕ
with_bytes old off bytes = map (byte_with old off bytes) (range_with_len 0 (length old))

-- the byte with bit i turned to v, a 0 or a 1
abbrev pub with_bit : ℕ → ℕ → ℕ → ℕ
with_bit byte i v = if bit_at byte i == v then byte else bit_xor byte (2 ^ i)

-- the map page with bit n turned to v
abbrev pub with_map_bit : List ℕ → ℕ → ℕ → List ℕ
with_map_bit old n v = slice_set old (maps_start + n / 8) (with_bit (slice_index old (maps_start + n / 8)) (n % 8) v)

-- bit n of a map page, a 0 or a 1
abbrev pub map_bit : List ℕ → ℕ → ℕ
map_bit bytes n = bit_at (slice_index bytes (maps_start + n / 8)) (n % 8)

-- the so many bytes that stand in a cell
abbrev pub read_cell : Image → Cell → ℕ → List ℕ
read_cell image (Bytes p off) size = slice_range (page image p.0) off (off + size)
read_cell image (Bit p n) size = map_bit (page image p.0) n ∷ []

-- the image with these bytes in a cell
abbrev pub put : Image → Cell → List ℕ → Image
put image (Bytes p off) bytes = slice_set image p.0 (with_bytes (page image p.0) off bytes)
put image (Bit p n) bytes = slice_set image p.0 (with_map_bit (page image p.0) n (slice_index bytes 0))
