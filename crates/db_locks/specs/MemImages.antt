-- The pages of a view in memory.
use Rattle.std.specs.Prelude.{◌≡◌, ℕ, ◌<◌, List, length, map, Contains}
use Rattle.spec_file.specs.declared.data.PageNo.{PageNo}
use Rattle.spec_file.specs.declared.geometry.Geometry.{Geometry}
use Rattle.spec_file.specs.Image.{Image, page}
use Rattle.spec_words.specs.NetChanges.{FileShape}
use Rattle.pg_base.specs.declared.page.Page.{Page}

abbrev pub image_of : List Page → Image
image_of pages = map (λ p. p.bytes) pages

abbrev pub shape_of : Geometry → ℕ → List Page → FileShape
shape_of geometry version pages = record { geometry = geometry; version = version; pages = length pages }

-- two images differ only on pages that were put
pub record DifferWherePut (put : List PageNo) (first now : Image) : Type 0 where
  pub inside : (p : PageNo) → Contains put p → p.0 < length now
  pub others : (p : PageNo) → (Contains put p → ⊥) → page first p.0 ≡ page now p.0
