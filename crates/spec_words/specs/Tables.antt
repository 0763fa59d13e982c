-- What every statement on a table reads, in the words of plans: page 9, the chain of IAM pages, the PFS bytes (the order
-- is this project's own).
use Rattle.std.specs.Prelude.{ℕ, zero, suc, ◌==◌, ◌&&◌, ◌||◌, not, is_none, Bool, if◌then◌else◌, List, [], ◌∷◌, ◌++◌, length, filter}
use Rattle.std.specs.List.{list_any}
use Rattle.spec_file.specs.declared.data.Resource.TheVariants as resource
use Rattle.spec_file.specs.declared.page_type.TheConstants.{PFS_TYPE}
use Rattle.spec_file.specs.Header.{says}
use Rattle.spec_file.specs.Places.{pfs_page, is_inside}
use Rattle.spec_file.specs.CatalogRows.{CatalogRow, rows_of}
use Rattle.spec_file.specs.Roles.{is_ordinary}
use Rattle.spec_chain.specs.Chains.{is_last, fault_of_bytes, next_of}
use Rattle.spec_chain.specs.Uses.{is_allocated}
use Rattle.spec_plan.specs.Refusals.{bad_page, no_table}
use Rattle.spec_plan.specs.Reading.{is_catalog, named_among, are_slots_inside, is_single, is_marked}
use Rattle.spec_words.specs.NetChanges.{FileShape, pages_of}
use Rattle.spec_words.specs.Views.{View, Plan}
use Rattle.spec_words.specs.Words.{◌then◌, give, refuse, sees, unless_held, where_good, look, found_or, for_each}

-- the table of this name: 1222 on the catalog, 824 for page 9, 208, 1222 on the table
abbrev pub table_of : List ℕ → Plan CatalogRow
table_of name =
    look resource.Catalog 9 then (λ boot.
    where_good (is_catalog boot) 9 then (λ _.
    found_or (named_among (rows_of boot) name) (refuse (no_table name)) then (λ row.
    unless_held (resource.Table (record { 0 = row.id })) then (λ _.
    give row))))

-- page p goes on with a chain that has met these pages: an ordinary page that is an IAM page of the object
abbrev pub is_chain_page : FileShape → CatalogRow → List ℕ → ℕ → List ℕ → Bool
is_chain_page shape row met p bytes =
    is_ordinary shape.geometry p && is_none (fault_of_bytes shape.geometry shape.pages row.id p bytes) && not (list_any (λ q. q == p) met)

-- the chain, from the page that the number p names, which stands on page `from`, after the pages `met`. A number outside
-- the file is 824 at the page that holds it; single-page slots count on the first page alone
abbrev pub chain_from : ℕ → FileShape → CatalogRow → List ℕ → ℕ → ℕ → Plan (List ℕ)
chain_from zero shape row met from p = refuse (bad_page p)
chain_from (suc n) shape row met from p =
    if is_last (length met) p then give met
    else (where_good (is_inside shape.pages p) from then (λ _.
    look (resource.Page (record { 0 = p })) p then (λ bytes.
    where_good (is_chain_page shape row met p bytes) p then (λ _.
    sees (λ view. not (length met == 0) || are_slots_inside view.now p) then (λ slots.
    where_good slots p then (λ _.
    chain_from n shape row (met ++ p ∷ []) p (next_of bytes)))))))

-- no chain has more pages than the file
abbrev pub chain_of : FileShape → CatalogRow → Plan (List ℕ)
chain_of shape row = chain_from (suc (suc shape.pages)) shape row [] 9 row.first_iam

-- the PFS bytes of these pages are read
abbrev pub bytes_read : FileShape → List ℕ → Plan (Unit {0})
bytes_read shape = for_each (λ p.
    look (resource.Byte (record { 0 = p })) (pfs_page shape.geometry p) then (λ bytes.
    where_good (says PFS_TYPE (pfs_page shape.geometry p) bytes) (pfs_page shape.geometry p)))

-- the pages whose PFS bytes are read: those in single-page slots, and all of marked extents; rising
abbrev pub byte_pages : FileShape → List ℕ → View → List ℕ
byte_pages shape chain view = filter (λ p. is_single view.now chain p || is_marked shape.geometry view.now chain p) (pages_of shape)

-- the allocated pages of the object, rising
abbrev pub object_pages : FileShape → List ℕ → View → List ℕ
object_pages shape chain view =
    filter (λ p. is_single view.now chain p || (is_marked shape.geometry view.now chain p && is_allocated shape.geometry view.now p)) (pages_of shape)

-- the allocated pages of a table: its chain and their PFS bytes are read
abbrev pub table_pages : FileShape → CatalogRow → Plan (List ℕ)
table_pages shape row =
    chain_of shape row then (λ chain.
    sees (byte_pages shape chain) then (λ pages.
    bytes_read shape pages then (λ _.
    sees (object_pages shape chain))))
