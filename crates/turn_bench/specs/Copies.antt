-- The list of a page that is copied: an entry for each copy.
use Rattle.std.specs.Prelude.{ℕ, List, replicate}

abbrev pub copies_of : ℕ → List ℕ
copies_of n = replicate n 0
