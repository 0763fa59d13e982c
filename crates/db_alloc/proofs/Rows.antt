-- The objects of the catalog, and the one of a name.
use Rattle.std.proofs.Common.{◌≡◌, refl, ℕ, suc, ◌+◌, ◌<◌, ◌≤◌, true, false, List, ◌∷◌, length, get_or, drop, map, bytes_eq, ap, sym, ◌∙◌, add-one, drop-cons, Some, None, Ok, Err}
use Rattle.std.specs.Prelude.{[]}
use Rattle.std.proofs.lemmas.Bool.{and_parts, and_from, false_from_ne_true}
use Rattle.std.proofs.lemmas.List.{get_or_default, drop_all}
use Rattle.spec_file.specs.declared.page_type.TheConstants.{BOOT_TYPE}
use Rattle.spec_file.specs.declared.data.Resource.TheVariants as resource
use Rattle.spec_file.specs.Catalog.{PassesCatalog}
use Rattle.spec_file.specs.CatalogRows.{CatalogRow, rows_of}
use Rattle.spec_file.specs.Header.{says}
use Rattle.spec_plan.specs.Reading.{is_catalog, passes_catalog, named_among}
use Rattle.spec_plan.specs.Refusals.{no_table}
use Rattle.law_rows.specs.Laws.{CatalogPasses}
use Rattle.spec_words.specs.Views.{Plan}
use Rattle.spec_words.specs.Words.{◌then◌, give, refuse, where_good, found_or, look, unless_held}
use Rattle.spec_words.specs.Tables.{table_of}
use Rattle.db_cat.specs.Rows.{row_of}
use Rattle.db_cat.specs.declared.rows.CatRow.{CatRow}
use Rattle.db_locks.specs.declared.plan_pages.PageStop.TheVariants.{Bad}
use Rattle.db_locks.specs.States.{PlanState}
use Rattle.db_locks.specs.Does.{Does, stop_of}
use Rattle.db_locks.proofs.PlanLaws.{does_then, does_stop, does_give, does_good, does_bad}
use Rattle.db_alloc.specs.Tables.{catalog_rows, named_row}
use Rattle.db_alloc.proofs.Steps.{then_assoc, give_then, then_same}

-- ---- the test of the catalog

pub passes : (boot : List ℕ) → CatalogPasses → says BOOT_TYPE 9 boot ≡ true → PassesCatalog boot → is_catalog boot ≡ true
passes boot laws own h = and_from (says BOOT_TYPE 9 boot) (passes_catalog boot) own ((laws boot).1 h)

pub says_other : (boot : List ℕ) → says BOOT_TYPE 9 boot ≡ false → is_catalog boot ≡ false
says_other boot e = rw e refl

pub fails : (boot : List ℕ) → CatalogPasses → (PassesCatalog boot → ⊥) → is_catalog boot ≡ false
fails boot laws h = false_from_ne_true (is_catalog boot) (λ e. h ((laws boot).0 (and_parts (says BOOT_TYPE 9 boot) (passes_catalog boot) e).1))

pub rows_good : (a : PlanState) (boot : List ℕ) (rows : List CatalogRow) → is_catalog boot ≡ true → rows ≡ rows_of boot → Does a a (catalog_rows boot) (Ok rows)
rows_good a boot rows good e = rw e (does_then (λ _. give (rows_of boot)) (does_good [] a (is_catalog boot) 9 (λ told. good)) (does_give [] a (rows_of boot)))

pub rows_bad : (a : PlanState) (boot : List ℕ) → is_catalog boot ≡ false → Does a a (catalog_rows boot) (Err (Bad (record { 0 = 9 })))
rows_bad a boot bad = does_stop {meaning = stop_of} stop_of (λ _. give (rows_of boot)) (Bad (record { 0 = 9 })) refl (does_bad [] a (is_catalog boot) 9 (Bad (record { 0 = 9 })) refl (λ told. bad))

-- ---- the object of a name

named_first : (row : CatRow) (rows : List CatRow) (name : List ℕ) → bytes_eq (row_of row).name name ≡ true → named_among (map row_of (row ∷ rows)) name ≡ Some (row_of row)
named_first row rows name e = rw e refl

named_later : (row : CatRow) (rows : List CatRow) (name : List ℕ) → bytes_eq (row_of row).name name ≡ false → named_among (map row_of (row ∷ rows)) name ≡ named_among (map row_of rows) name
named_later row rows name e = rw e refl

pub named_at : (rows : List CatRow) (i : ℕ) (row : CatRow) (name : List ℕ) → i < length rows → row ≡ get_or rows i row → bytes_eq (row_of row).name name ≡ true
    → named_among (map row_of (drop i rows)) name ≡ Some (row_of row)
named_at rows i row name lt is e =
    ap (λ rs. named_among (map row_of rs) name) (drop-cons rows i row lt) ∙ ap (λ r. named_among (map row_of (r ∷ drop (suc i) rows)) name) (sym is)
    ∙ named_first row (drop (suc i) rows) name e

pub named_behind : (rows : List CatRow) (i : ℕ) (row : CatRow) (name : List ℕ) → i < length rows → row ≡ get_or rows i row → bytes_eq (row_of row).name name ≡ false
    → named_among (map row_of (drop i rows)) name ≡ named_among (map row_of (drop (i + 1) rows)) name
named_behind rows i row name lt is e =
    ap (λ rs. named_among (map row_of rs) name) (drop-cons rows i row lt) ∙ ap (λ r. named_among (map row_of (r ∷ drop (suc i) rows)) name) (sym is)
    ∙ named_later row (drop (suc i) rows) name e ∙ ap (λ n. named_among (map row_of (drop n rows)) name) (sym (add-one i))

pub named_end : (rows : List CatRow) (i : ℕ) (name : List ℕ) → length rows ≤ i → named_among (map row_of (drop i rows)) name ≡ None
named_end rows i name e = ap (λ rs. named_among (map row_of rs) name) (drop_all i rows e)

pub same_at : {X : Type 0} (xs : List X) (i : ℕ) (x y : X) → i < length xs → x ≡ get_or xs i x → y ≡ get_or xs i y → x ≡ y
same_at xs i x y lt a b = a ∙ get_or_default xs i x y lt ∙ sym b

-- ---- the plan, by its parts

-- what comes behind the object
abbrev pub held_test : CatalogRow → Plan CatalogRow
held_test row = unless_held (resource.Table (record { 0 = row.id })) then (λ _. give row)

named_then : (name boot : List ℕ)
    → (named_row name boot then held_test) ≡ (where_good (is_catalog boot) 9 then (λ _. found_or (named_among (rows_of boot) name) (refuse (no_table name)) then held_test))
named_then name boot =
    then_assoc (catalog_rows boot) (λ rows. found_or (named_among rows name) (refuse (no_table name))) held_test
    ∙ then_assoc (where_good (is_catalog boot) 9) (λ _. give (rows_of boot)) (λ rows. found_or (named_among rows name) (refuse (no_table name)) then held_test)
    ∙ then_same (where_good (is_catalog boot) 9) (λ _. give_then (rows_of boot) (λ rows. found_or (named_among rows name) (refuse (no_table name)) then held_test))

pub table_parts : (name : List ℕ) → (look resource.Catalog 9 then (λ boot. named_row name boot then held_test)) ≡ table_of name
table_parts name = then_same (look resource.Catalog 9) (named_then name)
