-- How long the lists of a map are.
use Rattle.std.specs.Prelude.{◌≡◌, ℕ, ◌/◌, ◌≤◌}

-- the catalog has at most 128 objects, and each extent and page of the file has its place
pub record HasSizes (pages object_count extent_count byte_count : ℕ) : Type 0 where
  pub objects : object_count ≤ 128
  pub extents : extent_count ≡ pages / 8
  pub bytes : byte_count ≡ pages
