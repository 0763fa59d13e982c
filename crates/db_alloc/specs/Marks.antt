-- Which pages the IAM pages of a chain give to their object, by the bytes of these pages in their order.
use Rattle.std.specs.Prelude.{ℕ, ◌/◌, ◌%◌, ◌==◌, ◌&&◌, ◌||◌, not, Bool, List, [], ◌∷◌, replicate}
use Rattle.std.specs.List.{list_any}
use Rattle.spec_file.specs.declared.geometry.Geometry.{Geometry}
use Rattle.spec_file.specs.Iam.{iam_interval, iam_mark, iam_slots, single_slot_count}
use Rattle.spec_file.specs.Places.{interval_size, interval_of_page}

-- an IAM page marks the extent of page p
abbrev pub marks : Geometry → ℕ → List ℕ → Bool
marks g p iam = (iam_interval iam == interval_of_page g p) && iam_mark iam ((p / 8) % interval_size g)

-- the single-page slots of a chain are those of its first page; 0 stands for none
abbrev pub first_slots : List (List ℕ) → List ℕ
first_slots [] = replicate single_slot_count 0
first_slots (iam ∷ rest) = iam_slots iam

-- one of these slots holds page p
abbrev pub is_in_slot : List ℕ → ℕ → Bool
is_in_slot slots p = not (p == 0) && list_any (λ q. q == p) slots

-- the PFS byte of page p is read: it is in a single-page slot, or in a marked extent
abbrev pub has_byte : Geometry → List (List ℕ) → ℕ → Bool
has_byte g iams p = is_in_slot (first_slots iams) p || list_any (marks g p) iams
