-- How a statement searches the extents of the file, and which of their pages can be had (this project's own).
use Rattle.std.specs.Prelude.{ℕ, ◌*◌, ◌&&◌, ◌||◌, not, is_some, Bool, if◌then◌else◌, List, [], ◌∷◌, Option, Some, None}
use Rattle.std.specs.List.{range_with_len}
use Rattle.spec_file.specs.declared.data.Resource.{Resource}
use Rattle.spec_file.specs.declared.data.Resource.TheVariants as resource
use Rattle.spec_file.specs.declared.page_type.TheConstants.{GAM_TYPE, SGAM_TYPE, PFS_TYPE}
use Rattle.spec_file.specs.Header.{says}
use Rattle.spec_file.specs.Places.{gam_place, sgam_place, pfs_page}
use Rattle.spec_file.specs.Roles.{is_ordinary}
use Rattle.spec_chain.specs.Uses.{is_allocated}
use Rattle.spec_words.specs.NetChanges.{FileShape, extents_of}
use Rattle.spec_words.specs.Views.{View, Plan}
use Rattle.spec_words.specs.Words.{◌then◌, give, sees, where_good, reach, or_later, first_of}

-- a search that goes on from what was found, if anything was
abbrev pub search_from : {A B : Type 0} → Option A → (A → Plan (Option B)) → Plan (Option B)
search_from None next = give None
search_from (Some x) next = next x

-- what is done with what was found, if anything was
abbrev pub where_found : {A B : Type 0} → Option A → (A → Plan B) → Plan (Option B)
where_found found next = search_from found (λ x. next x then (λ y. give (Some y)))

-- what the first of two plans finds, or else the second
abbrev pub either : {A : Type 0} → Plan (Option A) → Plan (Option A) → Plan (Option A)
either first second = first then (λ found. or_later found second)

-- the first of a list
abbrev pub first_in : List ℕ → Option ℕ
first_in [] = None
first_in (x ∷ xs) = Some x

-- a map page is read, under no resource: 824 where its type or its number is wrong
abbrev pub map_read : ℕ → ℕ → Plan (Unit {0})
map_read type p = reach p then (λ bytes. where_good (says type p bytes) p)

-- the GAM page that speaks of extent e, the SGAM page, and the PFS page that speaks of page p
abbrev pub gam_read : FileShape → ℕ → Plan (Unit {0})
gam_read shape e = map_read GAM_TYPE (gam_place shape.geometry e).page

abbrev pub sgam_read : FileShape → ℕ → Plan (Unit {0})
sgam_read shape e = map_read SGAM_TYPE (sgam_place shape.geometry e).page

abbrev pub pfs_read : FileShape → ℕ → Plan (Unit {0})
pfs_read shape p = map_read PFS_TYPE (pfs_page shape.geometry p)

-- another transaction holds the resource
abbrev pub is_held : View → Resource → Bool
is_held view r = is_some (view.other r)

-- page p counts as allocated: its PFS byte says so, or another transaction holds that byte
abbrev pub counts_as_allocated : FileShape → View → ℕ → Bool
counts_as_allocated shape view p = is_allocated shape.geometry view.now p || is_held view (resource.Byte (record { 0 = p }))

-- page p can be had
abbrev pub is_spare : FileShape → View → ℕ → Bool
is_spare shape view p = is_ordinary shape.geometry p && not (counts_as_allocated shape view p)

-- the eight pages of extent e
abbrev pub pages_in : ℕ → List ℕ
pages_in e = range_with_len (8 * e) 8

-- what a search finds in extent e. One that another transaction holds is passed over; of each other one the GAM page and
-- the SGAM page are read, and where its bits fit, the PFS page
abbrev pub search_at : FileShape → (View → ℕ → Bool) → (View → ℕ → Option ℕ) → ℕ → Plan (Option ℕ)
search_at shape fits find e =
    sees (λ view. is_held view (resource.Extent (record { 0 = e }))) then (λ held.
    if held then give None
    else (gam_read shape e then (λ _.
    sgam_read shape e then (λ _.
    sees (λ view. fits view e) then (λ fit.
    if fit then (pfs_read shape (8 * e) then (λ _. sees (λ view. find view e))) else give None)))))

-- a search goes from the lowest extent of the file up, and ends at the first in which it finds something
abbrev pub search : FileShape → (View → ℕ → Bool) → (View → ℕ → Option ℕ) → Plan (Option ℕ)
search shape fits find = first_of (search_at shape fits find) (extents_of shape)
