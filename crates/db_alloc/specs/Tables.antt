-- Parts of the plans on tables that calls of their own carry out.
use Rattle.std.specs.Prelude.{ℕ, ◌==◌, ◌||◌, not, List, length, map, Box}
use Rattle.std.specs.Global.{Global}
use Rattle.spec_file.specs.declared.data.PageNo.{PageNo}
use Rattle.spec_file.specs.declared.data.Resource.TheVariants as resource
use Rattle.spec_file.specs.Places.{is_inside, pfs_page}
use Rattle.spec_file.specs.Header.{says}
use Rattle.spec_file.specs.declared.page_type.TheConstants.{PFS_TYPE}
use Rattle.spec_file.specs.CatalogRows.{CatalogRow, rows_of}
use Rattle.spec_chain.specs.Chains.{next_of}
use Rattle.spec_plan.specs.Refusals.{no_table}
use Rattle.spec_plan.specs.Reading.{is_catalog, named_among, are_slots_inside}
use Rattle.pg_base.specs.declared.page.Page.{Page}
use Rattle.spec_words.specs.NetChanges.{FileShape}
use Rattle.spec_words.specs.Views.{Plan}
use Rattle.spec_words.specs.Words.{◌then◌, give, refuse, sees, look, where_good, found_or}
use Rattle.spec_words.specs.Tables.{is_chain_page}

-- the numbers of pages
abbrev pub numbers : List PageNo → List ℕ
numbers pages = map (λ (p : PageNo). p.0) pages

-- the bytes of pages
abbrev pub bytes_of : List (Box Page Global) → List (List ℕ)
bytes_of pages = map (λ (page : Box Page Global). page.value.bytes) pages

-- the objects of a page that is to be the catalog: 824 for page 9
abbrev pub catalog_rows : List ℕ → Plan (List CatalogRow)
catalog_rows boot = where_good (is_catalog boot) 9 then (λ _. give (rows_of boot))

-- the object of this name: 824 for page 9, 208
abbrev pub named_row : List ℕ → List ℕ → Plan CatalogRow
named_row name boot = catalog_rows boot then (λ rows. found_or (named_among rows name) (refuse (no_table name)))

-- page p, whose number stands on page `from`, as a page of a chain that has met these pages; and the next
abbrev pub chain_link : FileShape → CatalogRow → List ℕ → ℕ → ℕ → Plan ℕ
chain_link shape row met from p =
    where_good (is_inside shape.pages p) from then (λ _.
    look (resource.Page (record { 0 = p })) p then (λ bytes.
    where_good (is_chain_page shape row met p bytes) p then (λ _.
    sees (λ view. not (length met == 0) || are_slots_inside view.now p) then (λ slots.
    where_good slots p then (λ _.
    give (next_of bytes))))))

-- the PFS byte of page p is read: 1222, and 824 where its PFS page isn't one
abbrev pub byte_looked : FileShape → ℕ → Plan (Unit {0})
byte_looked shape p =
    look (resource.Byte (record { 0 = p })) (pfs_page shape.geometry p) then (λ bytes.
    where_good (says PFS_TYPE (pfs_page shape.geometry p) bytes) (pfs_page shape.geometry p))
