-- How many pages a file that passes its tests has.
use Rattle.std.proofs.Common.{◌≡◌, ℕ, ◌*◌, ◌%◌, ◌≤◌, ◌==◌, ◌&&◌, nat_le, Bool, true, false, IsTrue, not, if◌then◌else◌, List, length, Option, Some, None, refl, sym, arith}
use Rattle.std.proofs.lemmas.Bool.{and_parts, eqb-true, leb-true}
use Rattle.std.proofs.lemmas.Option.{none-some}
use Rattle.spec_file.specs.declared.geometry.Geometry.{Geometry}
use Rattle.spec_file.specs.declared.sizes.TheConstants.{EXTENT_SIZE, SMALLEST_FILE, LARGEST_FILE}
use Rattle.spec_file.specs.Image.{Image, page, page_size, number_at}
use Rattle.spec_file.specs.Places.{page_limit, HasShape}
use Rattle.spec_file.specs.FileForm.{size_passes, header_passes, version_passes, geometry_of, count_passes}
use Rattle.spec_start.specs.declared.why.FileWhy.{FileWhy}
use Rattle.spec_start.specs.declared.why.FileWhy.TheVariants as why
use Rattle.spec_start.specs.Files.{count_fault, opening_fault, PassesTests}

-- whole extents, at least two
size_parts : (n : ℕ) → IsTrue (size_passes n) → (n % EXTENT_SIZE ≡ 0) × (SMALLEST_FILE ≤ n)
size_parts n passes =
    let front = and_parts ((n % EXTENT_SIZE == 0) && nat_le SMALLEST_FILE n) (nat_le n LARGEST_FILE) passes in
    let parts = and_parts (n % EXTENT_SIZE == 0) (nat_le SMALLEST_FILE n) front.0 in
    (eqb-true (n % EXTENT_SIZE) 0 parts.0, leb-true SMALLEST_FILE n parts.1)

count_part : (b : Bool) → (if b then None else Some why.Count) ≡ None → b ≡ true
count_part true none = refl
count_part false none = absurd (none-some why.Count (sym none))

by_count : (said : Option Geometry) (pages : ℕ) (first : List ℕ) → count_fault said pages first ≡ None → (g : Geometry) × (said ≡ Some g) × (pages ≤ page_limit g)
by_count None pages first none = absurd (none-some why.Geometry (sym none))
by_count (Some g) pages first none =
    let passes = count_part (count_passes g pages first) none in
    (g, refl, leb-true pages (page_limit g) (and_parts (number_at 4 108 first == pages) (nat_le pages (page_limit g)) passes).1)

by_tests : (header version : Bool) (rest : Option FileWhy)
    → (if not header then Some why.Header else (if not version then Some why.Version else rest)) ≡ None → rest ≡ None
by_tests true true rest none = none
by_tests true false rest none = absurd (none-some why.Version (sym none))
by_tests false version rest none = absurd (none-some why.Header (sym none))

-- page 0 that fails no test names a geometry, which allows so many pages
geometry_allows : (pages : ℕ) (first : List ℕ) → opening_fault pages first ≡ None → (g : Geometry) × (geometry_of first ≡ Some g) × (pages ≤ page_limit g)
geometry_allows pages first none =
    by_count (geometry_of first) pages first (by_tests (header_passes first) (version_passes first) (count_fault (geometry_of first) pages first) none)

-- a file that passes its tests has whole extents, as its geometry allows
pub tested_shape : (image : Image) → PassesTests image → (g : Geometry) × (geometry_of (page image 0) ≡ Some g) × HasShape g (length image)
tested_shape image tested =
    let said = geometry_allows (length image) (page image 0) tested.first in
    let size = size_parts (page_size * length image) tested.size in
    (said.0, said.1, record { low = omega (arith, size.1); high = said.2; whole = omega (arith, size.0) })
