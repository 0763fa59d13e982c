-- The uses of pages that stand together.
use Rattle.std.specs.Prelude.{ℕ, not, nat_lt, List, filter}
use Rattle.std.specs.List.Sorted.{IsNonDecreasingBy}
use Rattle.ck_facts.specs.declared.map.PageUse.{PageUse}

-- uses in the order of their pages
pub record IsByPage (uses : List PageUse) : Type 0 where
  pub rises : IsNonDecreasingBy (λ u. u.page) uses

-- the uses of the pages from low up to high
abbrev pub uses_between : ℕ → ℕ → List PageUse → List PageUse
uses_between low high uses = filter (λ u. nat_lt u.page high) (filter (λ u. not (nat_lt u.page low)) uses)
