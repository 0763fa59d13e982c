-- A single page: one of a mixed extent, which several objects may share (this project's own).
use Rattle.std.specs.Prelude.{ℕ, ◌*◌, ◌/◌, ◌&&◌, not, Bool, if◌then◌else◌, filter, Option, Some, None}
use Rattle.std.specs.List.{list_any}
use Rattle.spec_file.specs.declared.data.Resource.TheVariants as resource
use Rattle.spec_file.specs.Places.{is_free, is_mixed}
use Rattle.spec_file.specs.Roles.{is_system_extent}
use Rattle.spec_plan.specs.Refusals.{no_room}
use Rattle.spec_words.specs.NetChanges.{FileShape, extents_of}
use Rattle.spec_words.specs.Views.{View, Plan}
use Rattle.spec_words.specs.Words.{◌then◌, give, refuse, sees, unless_held, take, put_gam, put_sgam, put_pfs, for_each}
use Rattle.spec_alloc.specs.Search.{where_found, either, first_in, is_spare, pages_in, search}

-- extent e is mixed and has a free page: GAM 0 and SGAM 1
abbrev pub is_shared : FileShape → View → ℕ → Bool
is_shared shape view e = not (is_free shape.geometry view.now e) && is_mixed shape.geometry view.now e

-- extent e is free: GAM 1 and SGAM 0
abbrev pub is_unused : FileShape → View → ℕ → Bool
is_unused shape view e = is_free shape.geometry view.now e && not (is_mixed shape.geometry view.now e)

-- the lowest page of extent e that can be had
abbrev pub spare_page : FileShape → View → ℕ → Option ℕ
spare_page shape view e = first_in (filter (is_spare shape view) (pages_in e))

-- the first page of extent e, unless that is a system extent
abbrev pub first_page_of : FileShape → View → ℕ → Option ℕ
first_page_of shape view e = if is_system_extent shape.geometry e then None else Some (8 * e)

-- SGAM becomes 0 where no page of extent e is left
abbrev pub lower_sgam : FileShape → ℕ → Plan (Unit {0})
lower_sgam shape e =
    sees (λ view. list_any (is_spare shape view) (pages_in e)) then (λ left.
    if left then give tt else put_sgam shape e 0)

-- page p of a mixed extent gets this PFS byte, and its extent is taken
abbrev pub of_mixed : FileShape → ℕ → ℕ → Plan ℕ
of_mixed shape byte p =
    take (resource.Extent (record { 0 = p / 8 })) then (λ _.
    put_pfs shape p byte then (λ _.
    lower_sgam shape (p / 8) then (λ _.
    give p)))

-- page p is the first of a free extent, which is mixed from here on
abbrev pub of_free : FileShape → ℕ → ℕ → Plan ℕ
of_free shape byte p =
    put_gam shape (p / 8) 0 then (λ _.
    put_sgam shape (p / 8) 1 then (λ _.
    of_mixed shape byte p))

-- a single page with this PFS byte: of the lowest mixed extent that has one, else of the lowest free extent
abbrev pub single_page : FileShape → ℕ → Plan (Option ℕ)
single_page shape byte =
    either
    (search shape (is_shared shape) (spare_page shape) then (λ found. where_found found (of_mixed shape byte)))
    (search shape (is_unused shape) (first_page_of shape) then (λ found. where_found found (of_free shape byte)))

-- no page is to be had: 1222 for the lowest extent of the file that another transaction holds, else 1105
abbrev pub no_page : {A : Type 0} → FileShape → Plan A
no_page shape = for_each (λ e. unless_held (resource.Extent (record { 0 = e }))) (extents_of shape) then (λ _. refuse no_room)
