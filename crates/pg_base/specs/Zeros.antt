-- The bytes of a page of zeros. The word stays closed in proofs, since it would open into 8,192 zeros.
use Rattle.std.specs.Prelude.{ℕ, List, replicate}
use Rattle.spec_file.specs.Image.{page_size}

unfoldable pub zero_page : List ℕ
zero_page = replicate page_size 0
