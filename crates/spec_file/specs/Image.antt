-- An image: a file as the list of its pages, each the list of its 8,192 bytes
-- (Pages and Extents Architecture Guide).
use Rattle.std.specs.Prelude.{ℕ, ◌+◌, ◌*◌, ◌/◌, ◌%◌, ◌==◌, ◌<◌, Bool, List, [], length, take, drop, map, flat_map, slice_index, slice_index_or}
use Rattle.std.specs.List.{range_with_len}
use Rattle.std.specs.Int.{bit_at}
use Rattle.byteorder.specs.Endian.{little_number}
use Rattle.spec_file.specs.declared.sizes.TheConstants.{PAGE_SIZE, MAPS_START}

abbrev pub Image : Type 0
Image = List (List ℕ)

-- each is below 256
abbrev pub AreBytes : List ℕ → Type 0
AreBytes bytes = (i : ℕ) → slice_index bytes i < 256

abbrev pub page_size : ℕ
page_size = PAGE_SIZE

-- page p of the bytes of a file
abbrev pub page_at : List ℕ → ℕ → List ℕ
page_at bytes p = take page_size (drop (page_size * p) bytes)

-- the whole pages of the bytes of a file
unfoldable pub pages_of : List ℕ → Image
pages_of bytes = map (page_at bytes) (range_with_len 0 (length bytes / page_size))

-- page p of an image
abbrev pub page : Image → ℕ → List ℕ
page image p = slice_index_or image p []

-- the number of the n bytes from `at`, the lowest first
unfoldable pub number_at : ℕ → ℕ → List ℕ → ℕ
number_at n at bytes = little_number n (drop at bytes)

-- where the bits of a map page and the bytes of a PFS page begin
abbrev pub maps_start : ℕ
maps_start = MAPS_START

-- bit n of a map page is 1; the lowest bit of a byte comes first
abbrev pub bit : List ℕ → ℕ → Bool
bit bytes n = bit_at (slice_index bytes (maps_start + n / 8)) (n % 8) == 1

-- the pages of an image, one after another
abbrev pub bytes_of : Image → List ℕ
bytes_of image = flat_map (λ page. page) image
