-- Whether a catalog has a clustered table.
use Rattle.std.proofs.Common.{◌≡◌, ℕ, true, false, List, refl}
use Rattle.std.specs.List.{list_any}
use Rattle.std.proofs.lemmas.Bool.{and_parts, false_from_ne_true}
use Rattle.spec_file.specs.declared.page_type.TheConstants.{BOOT_TYPE}
use Rattle.spec_file.specs.Header.{says}
use Rattle.spec_file.specs.Kinds.{is_clustered}
use Rattle.spec_file.specs.Catalog.{PassesCatalog}
use Rattle.spec_file.specs.CatalogRows.{CatalogRow, rows_of}
use Rattle.spec_plan.specs.Reading.{is_catalog, passes_catalog}
use Rattle.law_rows.specs.Laws.{CatalogPasses}
use Rattle.spec_start.specs.Files.{has_clustered_table}

-- a page that doesn't say that it is page 9 has none
pub no_boot : (boot : List ℕ) → says BOOT_TYPE 9 boot ≡ false → has_clustered_table boot ≡ false
no_boot boot other = rw other refl

-- nor has a catalog that fails its test
pub no_catalog : (boot : List ℕ) → CatalogPasses → (PassesCatalog boot → ⊥) → has_clustered_table boot ≡ false
no_catalog boot laws fails =
    false_from_ne_true (has_clustered_table boot) (λ has.
    let good = (and_parts (is_catalog boot) (list_any (λ row. is_clustered row.kind) (rows_of boot)) has).0 in
    fails ((laws boot).0 (and_parts (says BOOT_TYPE 9 boot) (passes_catalog boot) good).1))

-- else its rows tell
pub by_rows : (boot : List ℕ) (rows : List CatalogRow) → CatalogPasses → says BOOT_TYPE 9 boot ≡ true → PassesCatalog boot → rows ≡ rows_of boot
    → list_any (λ row. is_clustered row.kind) rows ≡ has_clustered_table boot
by_rows boot rows laws own good same = rw (own, (laws boot).1 good, same) refl
