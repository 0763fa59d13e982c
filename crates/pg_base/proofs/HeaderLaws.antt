-- A header is told by the first 96 bytes.
use Rattle.std.proofs.Common.{◌≡◌, ℕ, List, take, refl, arith}
use Rattle.spec_file.specs.Header.{header_of}
use Rattle.pg_base.proofs.NumberLaws.{same_number, same_byte}

pub same_header : (xs ys : List ℕ) → take 96 xs ≡ take 96 ys → header_of xs ≡ header_of ys
same_header xs ys same =
    rw (
      same_byte 1 96 xs ys same (omega arith),
      same_byte 2 96 xs ys same (omega arith),
      same_number 4 4 96 xs ys same (omega arith),
      same_number 4 8 96 xs ys same (omega arith),
      same_number 4 12 96 xs ys same (omega arith),
      same_number 4 16 96 xs ys same (omega arith),
      same_number 2 20 96 xs ys same (omega arith),
      same_number 2 22 96 xs ys same (omega arith),
      same_number 2 24 96 xs ys same (omega arith),
      same_number 2 26 96 xs ys same (omega arith),
    ) refl
