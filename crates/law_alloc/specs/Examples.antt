-- Pages found and given back in a small file of 24 pages, worked by hand. Its pages hold only the bytes that count.
use Rattle.std.specs.Prelude.{◌≡◌, ℕ, true, false, List, [], ◌∷◌, ◌++◌, length, flat_map, replicate, if◌then◌else◌, Option, Some, None}
use Rattle.spec_file.specs.declared.data.Resource.{Resource}
use Rattle.spec_file.specs.declared.data.Resource.TheVariants.{Extent, Byte, Page}
use Rattle.spec_file.specs.declared.geometry.Geometry.TheVariants.{Small}
use Rattle.spec_file.specs.declared.data.Kind.TheVariants.{Heap}
use Rattle.spec_file.specs.Image.{Image, page_size}
use Rattle.spec_file.specs.Header.{header_of}
use Rattle.spec_file.specs.CatalogRows.{CatalogRow}
use Rattle.spec_file.specs.Iam.{iam_interval, iam_sequence}
use Rattle.spec_log.specs.Items.{is_same}
use Rattle.spec_plan.specs.Refusals.{held_by, no_room, bad_page}
use Rattle.spec_words.specs.NetChanges.{FileShape}
use Rattle.spec_words.specs.Views.{View, End, Gives, Stops, Plan, beginning}
use Rattle.spec_alloc.specs.SinglePages.{single_page, no_page}
use Rattle.spec_alloc.specs.Chains.{new_iam_page}
use Rattle.spec_alloc.specs.ObjectPages.{object_page}
use Rattle.spec_alloc.specs.Objects.{free_id, free_entry, entry_of}
use Rattle.spec_alloc.specs.Freeing.{shared_freed, marked_freed, object_page_freed}

abbrev pub small_file : FileShape
small_file = record { geometry = Small; version = 1; pages = 24 }

-- a map page of this type and number
abbrev pub map_page : ℕ → ℕ → List ℕ → List ℕ
map_page type p bytes = 1 ∷ type ∷ 0 ∷ 0 ∷ p ∷ replicate 91 0 ++ bytes

-- the maps: the PFS bytes of pages 8 to 23, and the GAM and SGAM bits of extents 0 to 2, as a byte each
abbrev pub maps : List ℕ → ℕ → ℕ → Image
maps pfs gam sgam =
    [] ∷ map_page 11 1 (replicate 4 68 ++ (replicate 4 0 ++ pfs)) ∷ map_page 8 2 (gam ∷ []) ∷ map_page 9 3 (sgam ∷ []) ∷ []

-- what transaction 5 holds, and nobody else anything
abbrev pub held : List Resource → Resource → Option ℕ
held [] r = None
held (s ∷ rest) r = if is_same s r then Some 5 else held rest r

abbrev pub view_of : List Resource → Image → View
view_of other image = beginning small_file image (held other) (λ r. false)

-- what a plan gives, the maps as they are then, and what was taken, the last first; or why it stops
abbrev pub ends : {A : Type 0} → End A → A → Image → List Resource → Type 0
ends (Gives given view) x image taken = (given ≡ x) × (view.now ≡ image) × (view.taken ≡ taken)
ends (Stops refusal) x image taken = ⊥

abbrev pub Finds : {A : Type 0} → Plan A → View → A → Image → List Resource → Type 0
Finds plan view x image taken = ends (plan view).ending x image taken

-- the bytes of extent 1 of a new file, whose second page is the boot page, and of extent 2
abbrev pub new_bytes : List ℕ
new_bytes = 0 ∷ 100 ∷ replicate 14 0

-- of a new file, extent 1 is mixed and extent 2 free: an IAM page is page 8
abbrev pub LowestIsTaken : Type 0
LowestIsTaken =
    Finds (single_page small_file 112) (view_of [] (maps new_bytes 4 2)) (Some 8) (maps (112 ∷ 100 ∷ replicate 14 0) 4 2)
    (Byte (record { 0 = 8 }) ∷ Extent (record { 0 = 1 }) ∷ [])

-- where another transaction holds extent 1, extent 2 becomes mixed
abbrev pub HeldExtentIsPassedOver : Type 0
HeldExtentIsPassedOver =
    Finds (single_page small_file 112) (view_of (Extent (record { 0 = 1 }) ∷ []) (maps new_bytes 4 2)) (Some 16)
    (maps (0 ∷ 100 ∷ replicate 6 0 ++ (112 ∷ replicate 7 0)) 0 6) (Byte (record { 0 = 16 }) ∷ Extent (record { 0 = 2 }) ∷ [])

-- where it holds the byte of page 8, the next page that objects may own is page 10
abbrev pub HeldByteIsPassedOver : Type 0
HeldByteIsPassedOver =
    Finds (single_page small_file 96) (view_of (Byte (record { 0 = 8 }) ∷ []) (maps new_bytes 4 2)) (Some 10)
    (maps (0 ∷ 100 ∷ 96 ∷ replicate 13 0) 4 2) (Byte (record { 0 = 10 }) ∷ Extent (record { 0 = 1 }) ∷ [])

-- with the last page of extent 1 its SGAM bit becomes 0
abbrev pub LastPageLowersSgam : Type 0
LastPageLowersSgam =
    Finds (single_page small_file 96) (view_of [] (maps (96 ∷ 100 ∷ replicate 5 96 ++ replicate 9 0) 4 2)) (Some 15)
    (maps (96 ∷ 100 ∷ replicate 6 96 ++ replicate 8 0) 4 0) (Byte (record { 0 = 15 }) ∷ Extent (record { 0 = 1 }) ∷ [])

-- where no extent is mixed or free, nothing is found
abbrev pub NothingIsLeft : Type 0
NothingIsLeft = Finds (single_page small_file 96) (view_of [] (maps (replicate 16 96) 0 0)) None (maps (replicate 16 96) 0 0) []

-- then the lowest extent is told that another transaction holds, if it holds any
abbrev pub LowestHeldIsTold : Type 0
LowestHeldIsTold =
    ((no_page {A = ℕ} small_file (view_of (Extent (record { 0 = 2 }) ∷ Extent (record { 0 = 1 }) ∷ []) [])).ending ≡ Stops (held_by (Extent (record { 0 = 1 })) 5))
    × ((no_page {A = ℕ} small_file (view_of [] [])).ending ≡ Stops no_room)

-- page 8 is given back: the boot page keeps extent 1 in use
abbrev pub BootKeepsItsExtent : Type 0
BootKeepsItsExtent =
    Finds (shared_freed small_file 8) (view_of [] (maps (112 ∷ 100 ∷ replicate 14 0) 4 0)) tt (maps new_bytes 4 2)
    (Byte (record { 0 = 8 }) ∷ Extent (record { 0 = 1 }) ∷ [])

-- page 16 is given back, the last of its extent, which becomes free
abbrev pub LastPageFreesItsExtent : Type 0
LastPageFreesItsExtent =
    Finds (shared_freed small_file 16) (view_of [] (maps (0 ∷ 100 ∷ replicate 6 0 ++ (96 ∷ replicate 7 0)) 0 6)) tt (maps new_bytes 4 2)
    (Byte (record { 0 = 16 }) ∷ Extent (record { 0 = 2 }) ∷ [])

-- of a marked extent two pages are allocated. The first that is given back leaves the extent in use, and takes only its
-- byte; a byte that another transaction holds keeps it in use too
abbrev pub MarkedExtentStaysInUse : Type 0
MarkedExtentStaysInUse =
    Finds (marked_freed small_file 16) (view_of [] (maps (0 ∷ 100 ∷ replicate 6 0 ++ (64 ∷ 64 ∷ replicate 6 0)) 0 2)) true
    (maps (0 ∷ 100 ∷ replicate 6 0 ++ (0 ∷ 64 ∷ replicate 6 0)) 0 2) (Byte (record { 0 = 16 }) ∷ [])
    × Finds (marked_freed small_file 16) (view_of (Byte (record { 0 = 18 }) ∷ []) (maps (0 ∷ 100 ∷ replicate 6 0 ++ (64 ∷ replicate 7 0)) 0 2)) true
    (maps new_bytes 0 2) (Byte (record { 0 = 16 }) ∷ [])

-- the last one frees the extent, which is taken
abbrev pub MarkedExtentIsFreed : Type 0
MarkedExtentIsFreed =
    Finds (marked_freed small_file 17) (view_of [] (maps (0 ∷ 100 ∷ replicate 6 0 ++ (0 ∷ 64 ∷ replicate 6 0)) 0 2)) false
    (maps new_bytes 4 2) (Extent (record { 0 = 2 }) ∷ Byte (record { 0 = 17 }) ∷ [])

-- a map page of another type is 824 where it is read
abbrev pub BadMapIsTold : Type 0
BadMapIsTold = (single_page small_file 96 (view_of [] ([] ∷ [] ∷ map_page 8 2 (4 ∷ []) ∷ map_page 8 3 (2 ∷ []) ∷ []))).ending ≡ Stops (bad_page 3)

-- the IAM page 8 of object 1, for the first interval, with these bytes of slots, and the first byte of its marks
abbrev pub iam_bytes : List ℕ → ℕ → List ℕ
iam_bytes slots marks =
    1 ∷ 10 ∷ 0 ∷ 0 ∷ 8 ∷ 0 ∷ 0 ∷ 0 ∷ 1 ∷ replicate 87 0 ++ (replicate 8 0 ++ (slots ++ (marks ∷ [])))

-- a file of 24 pages with this IAM page behind the maps
abbrev pub file_with : Image → List ℕ → Image
file_with before iam = before ++ (replicate 4 [] ++ (iam ∷ replicate 15 []))

abbrev pub object_one : CatalogRow
object_one = record { id = 1; kind = Heap; name = []; first_iam = 8; root = 0 }

-- slots that hold nothing, the first of which holds page 10, and that are all in use
abbrev pub no_slots : List ℕ
no_slots = replicate 32 0

abbrev pub one_slot : List ℕ
one_slot = 10 ∷ replicate 31 0

abbrev pub all_slots : List ℕ
all_slots = flat_map (λ p. p ∷ 0 ∷ 0 ∷ 0 ∷ []) (10 ∷ 11 ∷ 12 ∷ 13 ∷ 14 ∷ 15 ∷ 10 ∷ 11 ∷ [])

-- the bytes of extent 1 where all its pages are in use, and of extent 2
abbrev pub full_bytes : List ℕ → List ℕ
full_bytes second = 112 ∷ 100 ∷ replicate 6 96 ++ second

-- an object without pages gets a single page, and its lowest slot holds it
abbrev pub SlotComesFirst : Type 0
SlotComesFirst =
    Finds (object_page small_file object_one []) (view_of [] (file_with (maps (112 ∷ 100 ∷ replicate 14 0) 4 2) (iam_bytes no_slots 4))) 10
    (file_with (maps (112 ∷ 100 ∷ 96 ∷ replicate 13 0) 4 2) (iam_bytes one_slot 4)) (Page (record { 0 = 8 }) ∷ Byte (record { 0 = 10 }) ∷ Extent (record { 0 = 1 }) ∷ [])

-- where all slots are in use, the lowest page of the marked extent is taken; only its byte is
abbrev pub MarkedPageComesNext : Type 0
MarkedPageComesNext =
    Finds (object_page small_file object_one []) (view_of [] (file_with (maps (full_bytes (64 ∷ replicate 7 0)) 0 0) (iam_bytes all_slots 4))) 17
    (file_with (maps (full_bytes (64 ∷ 64 ∷ replicate 6 0)) 0 0) (iam_bytes all_slots 4)) (Byte (record { 0 = 17 }) ∷ [])

-- where it marks none, the free extent is marked
abbrev pub FreeExtentIsMarked : Type 0
FreeExtentIsMarked =
    Finds (object_page small_file object_one []) (view_of [] (file_with (maps (full_bytes (replicate 8 0)) 4 0) (iam_bytes all_slots 0))) 16
    (file_with (maps (full_bytes (64 ∷ replicate 7 0)) 0 0) (iam_bytes all_slots 4))
    (Page (record { 0 = 8 }) ∷ Byte (record { 0 = 16 }) ∷ Extent (record { 0 = 2 }) ∷ [])

-- and that page, given back, leaves all as it was
abbrev pub MarkIsTakenBack : Type 0
MarkIsTakenBack =
    Finds (object_page_freed small_file object_one 16) (view_of [] (file_with (maps (full_bytes (64 ∷ replicate 7 0)) 0 0) (iam_bytes all_slots 4))) tt
    (file_with (maps (full_bytes (replicate 8 0)) 4 0) (iam_bytes all_slots 0))
    (Page (record { 0 = 8 }) ∷ Extent (record { 0 = 2 }) ∷ Byte (record { 0 = 16 }) ∷ [])

-- a new IAM page has a whole page's bytes, and says what it is, its interval and its sequence
abbrev pub NewIamPageSays : Type 0
NewIamPageSays =
    (length (new_iam_page 3 18 8 1 2) ≡ page_size)
    × (header_of (new_iam_page 3 18 8 1 2) ≡ record {
      page_type = 10;
      level = 0;
      page_id = record { 0 = 18 };
      object = record { 0 = 3 };
      prev = record { 0 = 8 };
      next = record { 0 = 0 };
      slots = 0;
      free_count = 0;
      free_from = 0;
      ghosts = 0;
    })
    × (iam_interval (new_iam_page 3 18 8 1 2) ≡ 1) × (iam_sequence (new_iam_page 3 18 8 1 2) ≡ 2)

-- page 9 whose first entry, and whose third, are of objects with these ids
abbrev pub entry_bytes : ℕ → List ℕ
entry_bytes id = id ∷ 0 ∷ 0 ∷ 0 ∷ 1 ∷ 1 ∷ 97 ∷ replicate 33 0

abbrev pub two_entries : ℕ → ℕ → List ℕ
two_entries first third = replicate 96 0 ++ (entry_bytes first ++ (replicate 40 0 ++ entry_bytes third))

-- CREATE takes the smallest id that no object has, wherever that stands, and the lowest empty entry
abbrev pub LowestAreCreated : Type 0
LowestAreCreated =
    (free_id (two_entries 1 3) ≡ Some 2) × (free_id (two_entries 2 1) ≡ Some 3) × (free_id (two_entries 3 2) ≡ Some 1)
    × (free_id [] ≡ Some 1) × (free_entry (two_entries 2 1) ≡ Some 1) × (free_entry [] ≡ Some 0)

-- DROP finds the entry by the object's id
abbrev pub EntryIsFound : Type 0
EntryIsFound = (entry_of (two_entries 2 1) 1 ≡ Some 2) × (entry_of (two_entries 2 1) 2 ≡ Some 0) × (entry_of (two_entries 2 1) 3 ≡ None)
