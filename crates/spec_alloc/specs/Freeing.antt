-- How an object gives a page back (this project's own).
use Rattle.std.specs.Prelude.{ℕ, ◌/◌, ◌==◌, ◌||◌, Bool, if◌then◌else◌, List, [], ◌∷◌, filter}
use Rattle.std.specs.List.{list_any}
use Rattle.spec_file.specs.declared.data.Resource.TheVariants as resource
use Rattle.spec_file.specs.CatalogRows.{CatalogRow}
use Rattle.spec_plan.specs.Reading.{is_single, is_marked}
use Rattle.spec_words.specs.NetChanges.{FileShape}
use Rattle.spec_words.specs.Views.{View, Plan}
use Rattle.spec_words.specs.Words.{◌then◌, give, sees, where_good, take, put_gam, put_sgam, put_pfs, for_each}
use Rattle.spec_words.specs.Tables.{object_pages}
use Rattle.spec_alloc.specs.Search.{gam_read, sgam_read, pfs_read, counts_as_allocated, pages_in}
use Rattle.spec_alloc.specs.Chains.{chain_now, put_slot, slots_with, put_mark}

-- some page of extent e counts as allocated, be it ordinary or not
abbrev pub is_in_use : FileShape → ℕ → View → Bool
is_in_use shape e view = list_any (counts_as_allocated shape view) (pages_in e)

-- extent e is mixed and has a free page, or is free
abbrev pub put_bits : FileShape → ℕ → Bool → Plan (Unit {0})
put_bits shape e in_use =
    if in_use then put_sgam shape e 1
    else (put_sgam shape e 0 then (λ _. put_gam shape e 1))

-- a page of a mixed extent is given back
abbrev pub shared_freed : FileShape → ℕ → Plan (Unit {0})
shared_freed shape p =
    pfs_read shape p then (λ _.
    take (resource.Extent (record { 0 = p / 8 })) then (λ _.
    gam_read shape (p / 8) then (λ _.
    sgam_read shape (p / 8) then (λ _.
    put_pfs shape p 0 then (λ _.
    sees (is_in_use shape (p / 8)) then (λ in_use.
    put_bits shape (p / 8) in_use))))))

-- the maps of extent e are read, and it becomes free where it isn't in use any more: then it is taken first
abbrev pub extent_freed : FileShape → ℕ → Bool → Plan (Unit {0})
extent_freed shape e in_use =
    if in_use then (gam_read shape e then (λ _. sgam_read shape e))
    else (take (resource.Extent (record { 0 = e })) then (λ _.
    gam_read shape e then (λ _.
    sgam_read shape e then (λ _.
    put_gam shape e 1))))

-- a page of a marked extent is given back; whether the extent is in use still
abbrev pub marked_freed : FileShape → ℕ → Plan Bool
marked_freed shape p =
    pfs_read shape p then (λ _.
    put_pfs shape p 0 then (λ _.
    sees (is_in_use shape (p / 8)) then (λ in_use.
    extent_freed shape (p / 8) in_use then (λ _.
    give in_use))))

-- no slot of the chain holds page p any more
abbrev pub slots_emptied : List ℕ → ℕ → Plan (Unit {0})
slots_emptied chain p = sees (slots_with chain p) then (λ slots. for_each (put_slot chain 0) slots)

-- no page of the chain marks the extent of page p any more
abbrev pub marks_emptied : FileShape → List ℕ → ℕ → Plan (Unit {0})
marks_emptied shape chain p =
    sees (λ view. filter (λ q. is_marked shape.geometry view.now (q ∷ []) p) chain) then (λ marking.
    for_each (put_mark shape (p / 8) 0) marking)

-- page p of the object is in one of its slots, or in its chain; else it is a page of an extent that it marks
abbrev pub is_shared_page : List ℕ → ℕ → View → Bool
is_shared_page chain p view = is_single view.now chain p || list_any (λ q. q == p) chain

abbrev pub page_freed : FileShape → List ℕ → ℕ → Bool → Plan (Unit {0})
page_freed shape chain p shared =
    if shared then (shared_freed shape p then (λ _. slots_emptied chain p))
    else (marked_freed shape p then (λ in_use. if in_use then give tt else marks_emptied shape chain p))

-- page p of the object is given back: 824 at it, before anything of its freeing is read, where it isn't allocated to the
-- object as the view stands by then
abbrev pub object_page_freed : FileShape → CatalogRow → ℕ → Plan (Unit {0})
object_page_freed shape row p =
    chain_now shape row then (λ chain.
    sees (λ view. list_any (λ q. q == p) (object_pages shape chain view)) then (λ own.
    where_good own p then (λ _.
    sees (is_shared_page chain p) then (λ shared.
    page_freed shape chain p shared))))
