-- How an object gets one more page (this project's own).
use Rattle.std.specs.Prelude.{ℕ, ◌/◌, ◌==◌, ◌&&◌, if◌then◌else◌, List, ◌++◌, length, filter, Option}
use Rattle.spec_file.specs.declared.pfs.PfsKind.TheVariants as kinds
use Rattle.spec_file.specs.Image.{page}
use Rattle.spec_file.specs.Pfs.{expected}
use Rattle.spec_file.specs.Places.{interval_of_page}
use Rattle.spec_file.specs.CatalogRows.{CatalogRow}
use Rattle.spec_file.specs.Iam.{iam_interval}
use Rattle.spec_chain.specs.Uses.{pfs_byte}
use Rattle.spec_log.specs.Cells.{with_bit}
use Rattle.spec_plan.specs.Changes.{last_of}
use Rattle.spec_plan.specs.Reading.{is_marked}
use Rattle.spec_words.specs.NetChanges.{FileShape, pages_of}
use Rattle.spec_words.specs.Views.{View, Plan}
use Rattle.spec_words.specs.Words.{◌then◌, give, sees, put_gam, put_pfs, put_page, found_or}
use Rattle.spec_alloc.specs.Search.{search_from, where_found, either, first_in, is_spare, search}
use Rattle.spec_alloc.specs.SinglePages.{is_unused, first_page_of, single_page, no_page}
use Rattle.spec_alloc.specs.Chains.{chain_now, page_taken, put_slot, slots_with, put_mark, put_next, new_iam_page}

-- a single page goes into slot i of the chain
abbrev pub page_in_slot : FileShape → List ℕ → List ℕ → ℕ → Plan (Option ℕ)
page_in_slot shape chain path i =
    single_page shape (expected kinds.Single 0) then (λ found.
    where_found found (λ p.
    page_taken (chain ++ path) p then (λ _.
    put_slot chain p i then (λ _.
    give p))))

-- the lowest slot that holds no page gets one
abbrev pub slot_page : FileShape → List ℕ → List ℕ → Plan (Option ℕ)
slot_page shape chain path =
    sees (λ view. first_in (slots_with chain 0 view)) then (λ slot.
    search_from slot (page_in_slot shape chain path))

-- bit 6 is set, the others stay
abbrev pub as_allocated : ℕ → ℕ
as_allocated byte = with_bit byte 6 1

-- page p of a marked extent becomes allocated, and is taken
abbrev pub marked_page_taken : FileShape → List ℕ → ℕ → Plan ℕ
marked_page_taken shape standing p =
    sees (λ view. pfs_byte shape.geometry view.now p) then (λ byte.
    put_pfs shape p (as_allocated byte) then (λ _.
    page_taken standing p))

-- the lowest page that can be had of an extent of the file that the object marks
abbrev pub lowest_marked : FileShape → List ℕ → View → Option ℕ
lowest_marked shape chain view = first_in (filter (λ p. is_marked shape.geometry view.now chain p && is_spare shape view p) (pages_of shape))

abbrev pub marked_page : FileShape → List ℕ → List ℕ → Plan (Option ℕ)
marked_page shape chain path =
    sees (lowest_marked shape chain) then (λ found.
    where_found found (marked_page_taken shape (chain ++ path)))

-- a single page becomes the last of the chain, for the interval of page p. Where none is to be had, neither is page p
abbrev pub new_iam : FileShape → CatalogRow → List ℕ → List ℕ → ℕ → Plan ℕ
new_iam shape row chain path p =
    single_page shape (expected kinds.Iam 0) then (λ found.
    found_or found (no_page shape) then (λ q.
    page_taken (chain ++ path) q then (λ _.
    put_page q (new_iam_page row.id q (last_of 0 chain) (interval_of_page shape.geometry p) (length chain)) then (λ _.
    put_next (last_of 0 chain) q then (λ _.
    give q)))))

-- the first page of the chain that speaks of the interval of page p
abbrev pub iam_of : FileShape → List ℕ → ℕ → View → Option ℕ
iam_of shape chain p view = first_in (filter (λ q. iam_interval (page view.now q) == interval_of_page shape.geometry p) chain)

-- page p is the first of a free extent. It is taken first; then the object marks the extent, on a new IAM page where the
-- chain has none of its interval
abbrev pub extent_marked : FileShape → CatalogRow → List ℕ → List ℕ → ℕ → Plan ℕ
extent_marked shape row chain path p =
    put_gam shape (p / 8) 0 then (λ _.
    marked_page_taken shape (chain ++ path) p then (λ _.
    sees (iam_of shape chain p) then (λ iam.
    found_or iam (new_iam shape row chain path p) then (λ q.
    put_mark shape (p / 8) 1 q then (λ _.
    give p)))))

-- the lowest free extent is marked
abbrev pub extent_page : FileShape → CatalogRow → List ℕ → List ℕ → Plan (Option ℕ)
extent_page shape row chain path =
    search shape (is_unused shape) (first_page_of shape) then (λ found.
    where_found found (extent_marked shape row chain path))

-- one more page for the object: the first of these three that can be had. `path` are the pages that its statement is on
abbrev pub object_page : FileShape → CatalogRow → List ℕ → Plan ℕ
object_page shape row path =
    chain_now shape row then (λ chain.
    either (slot_page shape chain path) (either (marked_page shape chain path) (extent_page shape row chain path)) then (λ found.
    found_or found (no_page shape)))
