-- Where the parts of an IAM page stand (the layout is this project's own).
use Rattle.std.specs.Prelude.{ℕ, ◌+◌, ◌*◌, ◌/◌, ◌%◌, ◌==◌, ◌&&◌, Bool, List, map, nat_lt, slice_index}
use Rattle.std.specs.List.{range_with_len}
use Rattle.std.specs.Int.{bit_at}
use Rattle.spec_file.specs.declared.geometry.Geometry.{Geometry}
use Rattle.spec_file.specs.declared.page_type.TheConstants.{IAM_TYPE}
use Rattle.spec_file.specs.Image.{number_at}
use Rattle.spec_file.specs.Header.{says}
use Rattle.spec_file.specs.Places.{interval_start}

-- the interval that the page speaks of
abbrev pub iam_interval : List ℕ → ℕ
iam_interval bytes = number_at 4 96 bytes

-- how many pages the chain had before it
abbrev pub iam_sequence : List ℕ → ℕ
iam_sequence bytes = number_at 4 100 bytes

abbrev pub single_slot_count : ℕ
single_slot_count = 8

-- the page in single-page slot i; 0 stands for none
abbrev pub iam_slot : List ℕ → ℕ → ℕ
iam_slot bytes i = number_at 4 (104 + 4 * i) bytes

abbrev pub iam_slots : List ℕ → List ℕ
iam_slots bytes = map (iam_slot bytes) (range_with_len 0 single_slot_count)

-- the page marks extent n of its interval
abbrev pub iam_mark : List ℕ → ℕ → Bool
iam_mark bytes n = bit_at (slice_index bytes (136 + n / 8)) (n % 8) == 1

-- a file of so many pages has this interval
abbrev pub has_interval : Geometry → ℕ → ℕ → Bool
has_interval g pages m = nat_lt (interval_start g m) pages

-- page p is an IAM page of an interval that the file has
abbrev pub is_iam_page : Geometry → ℕ → ℕ → List ℕ → Bool
is_iam_page g pages p bytes = says IAM_TYPE p bytes && has_interval g pages (iam_interval bytes)
