-- Where the fields of a page's header stand (the layout is this project's own).
use Rattle.std.specs.Prelude.{ℕ, ◌==◌, ◌&&◌, Bool, List, slice_index}
use Rattle.spec_file.specs.Image.{number_at}
use Rattle.spec_file.specs.declared.header.Header.{Header}

abbrev pub header_version : List ℕ → ℕ
header_version bytes = slice_index bytes 0

abbrev pub page_type : List ℕ → ℕ
page_type bytes = slice_index bytes 1

abbrev pub page_id : List ℕ → ℕ
page_id bytes = number_at 4 4 bytes

abbrev pub header_of : List ℕ → Header
header_of bytes = record {
  page_type = page_type bytes;
  level = slice_index bytes 2;
  page_id = record { 0 = page_id bytes };
  object = record { 0 = number_at 4 8 bytes };
  prev = record { 0 = number_at 4 12 bytes };
  next = record { 0 = number_at 4 16 bytes };
  slots = number_at 2 20 bytes;
  free_count = number_at 2 22 bytes;
  free_from = number_at 2 24 bytes;
  ghosts = number_at 2 26 bytes;
}

-- a page has this type, and its own number
abbrev pub says : ℕ → ℕ → List ℕ → Bool
says type p bytes = (page_type bytes == type) && (page_id bytes == p)
