-- What allocation does for CREATE and DROP (this project's own).
use Rattle.std.specs.Prelude.{ℕ, ◌+◌, ◌*◌, ◌==◌, ◌&&◌, not, if◌then◌else◌, List, [], length, filter, replicate, Option}
use Rattle.std.specs.List.{list_any, range_with_len}
use Rattle.spec_file.specs.declared.data.Resource.TheVariants as resource
use Rattle.spec_file.specs.declared.pfs.PfsKind.TheVariants as kinds
use Rattle.spec_file.specs.Catalog.{entry_count, entry_at, entry_id, is_zeros}
use Rattle.spec_file.specs.CatalogRows.{CatalogRow, rows_of}
use Rattle.spec_file.specs.Pfs.{expected}
use Rattle.spec_file.specs.Roles.{is_ordinary}
use Rattle.spec_plan.specs.Reading.{is_marked}
use Rattle.spec_words.specs.NetChanges.{FileShape, extents_of}
use Rattle.spec_words.specs.Views.{View, Plan}
use Rattle.spec_words.specs.Words.{◌then◌, give, sees, where_good, take, put_gam, put_page, put_catalog, found_or, for_each}
use Rattle.spec_words.specs.Tables.{object_pages}
use Rattle.spec_alloc.specs.Search.{first_in, gam_read}
use Rattle.spec_alloc.specs.SinglePages.{single_page, no_page}
use Rattle.spec_alloc.specs.Chains.{chain_now, page_taken, new_iam_page}
use Rattle.spec_alloc.specs.Freeing.{is_in_use, shared_freed, marked_freed, is_shared_page}

-- the smallest id that no object has: of one more than there are objects, one is free
abbrev pub free_id : List ℕ → Option ℕ
free_id boot =
    first_in (filter (λ id. not (list_any (λ row. row.id == id) (rows_of boot))) (range_with_len 1 (length (rows_of boot) + 1)))

-- the lowest empty entry of the catalog
abbrev pub free_entry : List ℕ → Option ℕ
free_entry boot = first_in (filter (λ i. is_zeros (entry_at boot i)) (range_with_len 0 entry_count))

-- the lowest entry of the object with this id
abbrev pub entry_of : List ℕ → ℕ → Option ℕ
entry_of boot id = first_in (filter (λ i. not (is_zeros (entry_at boot i)) && (entry_id (entry_at boot i) == id)) (range_with_len 0 entry_count))

-- entry i is emptied
abbrev pub entry_emptied : ℕ → Plan (Unit {0})
entry_emptied i = put_catalog (96 + 40 * i) (replicate 40 0)

-- CREATE gives the object of this id its first IAM page: a single page, for the first interval
abbrev pub new_chain : FileShape → ℕ → Plan ℕ
new_chain shape id =
    single_page shape (expected kinds.Iam 0) then (λ found.
    found_or found (no_page shape) then (λ q.
    page_taken [] q then (λ _.
    put_page q (new_iam_page id q 0 0 0) then (λ _.
    give q))))

-- DROP leaves the bytes of pages, slots and marks among them
abbrev pub page_dropped : FileShape → List ℕ → ℕ → Plan (Unit {0})
page_dropped shape chain p =
    sees (is_shared_page chain p) then (λ shared.
    if shared then shared_freed shape p else (marked_freed shape p then (λ _. give tt)))

-- the extents of the file that the chain marks and that aren't in use, rising
abbrev pub left_extents : FileShape → List ℕ → View → List ℕ
left_extents shape chain view =
    filter (λ e. is_marked shape.geometry view.now chain (8 * e) && not (is_in_use shape e view)) (extents_of shape)

abbrev pub left_freed : FileShape → ℕ → Plan (Unit {0})
left_freed shape e =
    take (resource.Extent (record { 0 = e })) then (λ _.
    gam_read shape e then (λ _.
    put_gam shape e 1))

-- DROP gives back the pages of the object, rising; then those of its chain, in its order; then each extent that it marks
-- and that isn't in use. Once the PFS bytes are read, the lowest page that isn't ordinary is 824
abbrev pub pages_dropped : FileShape → CatalogRow → Plan (Unit {0})
pages_dropped shape row =
    chain_now shape row then (λ chain.
    sees (object_pages shape chain) then (λ pages.
    for_each (λ p. where_good (is_ordinary shape.geometry p) p) pages then (λ _.
    for_each (page_dropped shape chain) pages then (λ _.
    for_each (shared_freed shape) chain then (λ _.
    sees (left_extents shape chain) then (λ extents.
    for_each (left_freed shape) extents))))))
