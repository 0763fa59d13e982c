-- The page test, for page p of object o (the tests and their order are this project's own). The first
-- test that fails gives the fault.
use Rattle.std.specs.Prelude.{◌≡◌, ◌⊎◌, ℕ, ◌+◌, ◌*◌, ◌<◌, ◌≤◌, ◌==◌, ◌&&◌, ◌||◌, Bool, true, false, not, IsTrue, List, nat_le, nat_lt, if◌then◌else◌, Option, Some, None}
use Rattle.spec_file.specs.declared.data.Kind.{Kind}
use Rattle.spec_file.specs.declared.page_type.TheConstants.{DATA_TYPE, INDEX_TYPE}
use Rattle.spec_file.specs.declared.sizes.TheConstants.{MAPS_START, PAGE_SIZE, ROOM}
use Rattle.spec_file.specs.Kinds.{is_clustered}
use Rattle.spec_file.specs.Header.{header_of, header_version}
use Rattle.spec_file.specs.declared.header.Header.{Header}
use Rattle.spec_rows.specs.declared.fault.SlotFault.{SlotFault}
use Rattle.spec_rows.specs.Slots.{slot_limit, slot_count, rows_end, slot_at, begins_row, row_end, rows_size}

-- The tests of the header h, in their order.

abbrev pub is_own_page : ℕ → Header → Bool
is_own_page p h = h.page_id.0 == p

-- rows stand on data pages, in a clustered table also on index pages
abbrev pub has_row_type : Kind → Header → Bool
has_row_type kind h =
    if is_clustered kind then (h.page_type == DATA_TYPE) || (h.page_type == INDEX_TYPE) else h.page_type == DATA_TYPE

abbrev pub belongs_to : ℕ → Header → Bool
belongs_to o h = h.object.0 == o

-- a data page has level 0, an index page 1 to 15
abbrev pub has_level : Header → Bool
has_level h = if h.page_type == DATA_TYPE then h.level == 0 else (nat_le 1 h.level && nat_le h.level 15)

-- an index page has rows
abbrev pub has_rows : Header → Bool
has_rows h = not ((h.page_type == INDEX_TYPE) && (h.slots == 0))

-- outside a tree a page has no neighbours
abbrev pub has_links : Kind → Header → Bool
has_links kind h = if is_clustered kind then true else (h.prev.0 == 0) && (h.next.0 == 0)

-- the rows end between the header and the slots
abbrev pub has_room : Header → Bool
has_room h = nat_le h.slots slot_limit && nat_le MAPS_START h.free_from && nat_le (h.free_from + 2 * h.slots) PAGE_SIZE

abbrev pub has_no_ghosts : Header → Bool
has_no_ghosts h = h.ghosts == 0

abbrev pub fault : ℕ → ℕ → ℕ → SlotFault
fault number slot value = record { number = number; other = 0; slot = slot; value = value }

-- whose page it is: 8909, 8938 or 2534
abbrev pub owner_fault : ℕ → ℕ → Kind → Header → Option SlotFault
owner_fault p o kind h =
    if not (is_own_page p h) then Some (fault 8909 0 h.page_id.0)
    else (if not (has_row_type kind h) then Some (fault 8938 0 h.page_type)
    else (if not (belongs_to o h) then Some (record { number = 2534; other = h.object.0; slot = 0; value = 0 })
    else None))

-- how the page is made: 8939, with the number of the part that fails
abbrev pub form_fault : Kind → ℕ → Header → Option SlotFault
form_fault kind version h =
    if not (version == 1) then Some (fault 8939 0 1)
    else (if not (has_level h) then Some (fault 8939 0 2)
    else (if not (has_rows h) then Some (fault 8939 0 3)
    else (if not (has_links kind h) then Some (fault 8939 0 4)
    else (if not (has_room h) then Some (fault 8939 0 5)
    else (if not (has_no_ghosts h) then Some (fault 8939 0 6)
    else None)))))

-- The tests of the slots.

-- 8941 where no row begins, 8943 where the row passes the end of the rows
abbrev pub slot_fault : Kind → List ℕ → ℕ → Option SlotFault
slot_fault kind bytes i =
    if not (begins_row kind bytes i) then Some (fault 8941 i (slot_at bytes i))
    else (if nat_lt (rows_end bytes) (row_end bytes i) then Some (fault 8943 i (row_end bytes i))
    else None)

-- the fault is that of a slot, and no earlier slot has one
pub record IsFirstSlotFault (kind : Kind) (bytes : List ℕ) (x : SlotFault) : Type 0 where
  pub slot : ℕ
  pub within : slot < slot_count bytes
  pub here : slot_fault kind bytes slot ≡ Some x
  pub earlier : (i : ℕ) → i < slot → slot_fault kind bytes i ≡ None

-- The test of the rows in the order of offset, then slot.

abbrev pub ComesBefore : List ℕ → ℕ → ℕ → Type 0
ComesBefore bytes i j = (slot_at bytes i < slot_at bytes j) ⊎ ((slot_at bytes i ≡ slot_at bytes j) × (i < j))

-- the row of slot i is the one before that of slot j
pub record IsOneBefore (bytes : List ℕ) (i j : ℕ) : Type 0 where
  pub first : i < slot_count bytes
  pub second : j < slot_count bytes
  pub before : ComesBefore bytes i j
  pub none_between : (k : ℕ) → k < slot_count bytes → ComesBefore bytes i k → ComesBefore bytes k j → ⊥

-- 8942: in that order, the first row that begins before the end of the one before
pub record IsFirstOverlap (bytes : List ℕ) (x : SlotFault) : Type 0 where
  pub one_before : ℕ
  pub slot : ℕ
  pub next : IsOneBefore bytes one_before slot
  pub overlaps : slot_at bytes slot < row_end bytes one_before
  pub earlier : (i j : ℕ) → IsOneBefore bytes i j → ComesBefore bytes j slot → row_end bytes i ≤ slot_at bytes j
  pub is : x ≡ fault 8942 slot (slot_at bytes slot)

-- what neither the header nor rows nor slots use is free
abbrev pub has_free_count : List ℕ → Bool
has_free_count bytes =
    (header_of bytes).free_count + rows_size bytes (slot_count bytes) + 2 * slot_count bytes == ROOM

-- The whole test.

-- what the rows of a page of a table need, by the table's kind; the calls that change rows keep it
pub record HoldsRows (kind : Kind) (bytes : List ℕ) : Type 0 where
  pub type : IsTrue (has_row_type kind (header_of bytes))
  pub version : header_version bytes ≡ 1
  pub level : IsTrue (has_level (header_of bytes))
  pub room : IsTrue (has_room (header_of bytes))
  pub ghosts : IsTrue (has_no_ghosts (header_of bytes))
  pub slots : (i : ℕ) → i < slot_count bytes → slot_fault kind bytes i ≡ None
  pub order : (i j : ℕ) → IsOneBefore bytes i j → row_end bytes i ≤ slot_at bytes j
  pub free : IsTrue (has_free_count bytes)

-- the page passes every test but the one that an index page has rows
pub record PassesButRows (p o : ℕ) (kind : Kind) (bytes : List ℕ) : Type 0 where
  pub own : IsTrue (is_own_page p (header_of bytes))
  pub object : IsTrue (belongs_to o (header_of bytes))
  pub links : IsTrue (has_links kind (header_of bytes))
  pub holds : HoldsRows kind bytes

-- the page passes its test
pub record PassesTest (p o : ℕ) (kind : Kind) (bytes : List ℕ) : Type 0 where
  pub rest : PassesButRows p o kind bytes
  pub rows : IsTrue (has_rows (header_of bytes))

-- no test before those of the slots fails
pub record HeaderPasses (p o : ℕ) (kind : Kind) (bytes : List ℕ) : Type 0 where
  pub owner : owner_fault p o kind (header_of bytes) ≡ None
  pub form : form_fault kind (header_version bytes) (header_of bytes) ≡ None

abbrev pub SlotsPass : Kind → List ℕ → Type 0
SlotsPass kind bytes = (i : ℕ) → i < slot_count bytes → slot_fault kind bytes i ≡ None

abbrev pub OrderPasses : List ℕ → Type 0
OrderPasses bytes = (i j : ℕ) → IsOneBefore bytes i j → row_end bytes i ≤ slot_at bytes j

-- the fault is that of the first test that fails
pub data IsFirstFault (p o : ℕ) (kind : Kind) (bytes : List ℕ) (x : SlotFault) : Type 0 where
  Owner : owner_fault p o kind (header_of bytes) ≡ Some x → IsFirstFault p o kind bytes x
  Form : owner_fault p o kind (header_of bytes) ≡ None → form_fault kind (header_version bytes) (header_of bytes) ≡ Some x → IsFirstFault p o kind bytes x
  Slot : HeaderPasses p o kind bytes → IsFirstSlotFault kind bytes x → IsFirstFault p o kind bytes x
  Order : HeaderPasses p o kind bytes → SlotsPass kind bytes → IsFirstOverlap bytes x → IsFirstFault p o kind bytes x
  Free : HeaderPasses p o kind bytes → SlotsPass kind bytes → OrderPasses bytes → has_free_count bytes ≡ false
      → x ≡ fault 8939 0 7 → IsFirstFault p o kind bytes x
