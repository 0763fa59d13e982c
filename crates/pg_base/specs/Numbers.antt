-- A number put into bytes, the lowest byte first.
use Rattle.std.specs.Prelude.{◌≡◌, ℕ, ◌+◌, List, take, drop}
use Rattle.spec_file.specs.Image.{number_at}

-- the n bytes from `at` are now those of a number, and the bytes around them are as before
pub record PutsNumber (n at value : ℕ) (before now : List ℕ) : Type 0 where
  pub number : number_at n at now ≡ value
  pub front : take at now ≡ take at before
  pub back : drop (at + n) now ≡ drop (at + n) before
