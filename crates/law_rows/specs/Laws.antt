-- What a plan says of the catalog and of a heap's pages is what the relations of pages say.
use Rattle.std.specs.Prelude.{◌≡◌, ◌↔◌, ◌+◌, ◌≤◌, true, List, length, ℕ}
use Rattle.spec_file.specs.declared.data.Kind.TheVariants.{Heap}
use Rattle.spec_file.specs.declared.sizes.TheConstants.{PAGE_SIZE}
use Rattle.spec_file.specs.Catalog.{PassesCatalog}
use Rattle.spec_file.specs.Header.{header_of}
use Rattle.spec_rows.specs.Slots.{slot_count}
use Rattle.spec_rows.specs.PageTest.{HoldsRows, PassesTest}
use Rattle.spec_rows.specs.Changes.{IsInserted}
use Rattle.spec_plan.specs.Reading.{passes_catalog}
use Rattle.spec_plan.specs.Rows.{passes_page, with_row}
use Rattle.spec_file.specs.Image.{AreBytes}

-- the catalog passes the test of a plan exactly where it passes that of page 9
abbrev pub CatalogPasses : Type 0
CatalogPasses = (boot : List ℕ) → (passes_catalog boot ≡ true) ↔ PassesCatalog boot

-- a page passes the test of a plan exactly where it passes the page test as a heap's
abbrev pub PagePasses : Type 0
PagePasses = (p o : ℕ) (bytes : List ℕ) → (passes_page p o bytes ≡ true) ↔ PassesTest p o Heap bytes

-- a row put in behind the last one of a page makes the page that a plan says
abbrev pub InsertedIsWithRow : Type 0
InsertedIsWithRow = (old new row : List ℕ) → AreBytes old → AreBytes new → length old ≡ PAGE_SIZE → HoldsRows Heap old → length row + 2 ≤ (header_of old).free_count →
    IsInserted (slot_count old) row old new → new ≡ with_row old row
