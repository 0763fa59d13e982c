-- What the rules of pages and trees read of rows is what the grammar reads, and an image has no two reports.
use Rattle.std.specs.Prelude.{◌≡◌, ◌<◌, ◌-◌, ◌+◌, ◌==◌, if◌then◌else◌, nat_lt, ℕ, List, length, Option, Some, None, option_map}
use Rattle.spec_file.specs.declared.data.Kind.{Kind}
use Rattle.spec_file.specs.declared.geometry.Geometry.{Geometry}
use Rattle.spec_file.specs.declared.page_type.TheConstants.{DATA_TYPE, INDEX_TYPE}
use Rattle.spec_file.specs.Header.{page_type}
use Rattle.spec_file.specs.Image.{Image, page, page_size}
use Rattle.spec_log.specs.Cells.{HasWholePages}
use Rattle.spec_rows.specs.Rows.{PageRow, DataRow, IndexRow, row_of, row_key, row_child}
use Rattle.spec_rows.specs.Slots.{slot_count, page_row}
use Rattle.spec_rows.specs.PageTest.{PassesTest}
use Rattle.spec_check.specs.declared.report.CheckReport.{CheckReport}
use Rattle.spec_tree.specs.declared.known.PageHead.{PageHead}
use Rattle.spec_tree.specs.declared.known.IndexRow as known
use Rattle.spec_tables.specs.Heads.{key_at}
use Rattle.spec_tables.specs.KnownPages.{IsHeadIn, IsIndexRowIn}
use Rattle.spec_tables.specs.Written.{IsCheckOf}

-- the key of a row
abbrev pub key_of : PageRow → ℕ
key_of (DataRow key payload) = key
key_of (IndexRow key child) = key

-- the page that a row names; 0 where it names none
abbrev pub child_of : PageRow → ℕ
child_of (DataRow key payload) = 0
child_of (IndexRow key child) = child

-- the same of a row that may be there
abbrev pub child_in : Option PageRow → ℕ
child_in None = 0
child_in (Some row) = child_of row

-- data rows stand on pages of one type, index rows on those of another
abbrev pub StandsOn : ℕ → PageRow → Type 0
StandsOn type (DataRow key payload) = type ≡ DATA_TYPE
StandsOn type (IndexRow key child) = type ≡ INDEX_TYPE

-- the row that the grammar reads in slot i of a page, where the page has that slot
abbrev pub row_at : List ℕ → ℕ → Option PageRow
row_at bytes i = if nat_lt i (slot_count bytes) then row_of (page_row bytes i) else None

-- the key read from the bytes of a row is the row's
abbrev pub KeyIsRead : Type 0
KeyIsRead = (bytes : List ℕ) (row : PageRow) → row_of bytes ≡ Some row → row_key bytes ≡ key_of row

-- so is the page read from the bytes of an index row
abbrev pub ChildIsRead : Type 0
ChildIsRead = (bytes : List ℕ) (key child : ℕ) → row_of bytes ≡ Some (IndexRow key child) → row_child bytes ≡ child

-- each slot of a page that passes its test has a row, of the page's type
abbrev pub SlotHasRow : Type 0
SlotHasRow = (p o : ℕ) (kind : Kind) (bytes : List ℕ) (i : ℕ) → length bytes ≡ page_size → PassesTest p o kind bytes → i < slot_count bytes →
    (row : PageRow) × (row_at bytes i ≡ Some row) × StandsOn (page_type bytes) row

-- the key that the rules read in a slot of such a page is that of its row; they read none where it has none
abbrev pub SlotKeyIsRead : Type 0
SlotKeyIsRead = (p o : ℕ) (kind : Kind) (bytes : List ℕ) (i : ℕ) → length bytes ≡ page_size → PassesTest p o kind bytes →
    key_at bytes i ≡ option_map key_of (row_at bytes i)

-- what is known of a page's rows is what stands in its first and its last slot
pub record IsHeadRead (bytes : List ℕ) (s : PageHead) : Type 0 where
  pub first : s.first ≡ option_map key_of (row_at bytes 0)
  pub last : s.last ≡ option_map key_of (row_at bytes (slot_count bytes - 1))
  pub last_child : s.last_child.0 ≡ child_in (row_at bytes (slot_count bytes - 1))

-- what is known of an index row is what stands in its slot, and in those beside it
pub record IsIndexRowRead (bytes : List ℕ) (c : known.IndexRow) : Type 0 where
  pub here : row_at bytes c.slot ≡ Some (IndexRow c.key c.child.0)
  pub next : c.next_key ≡ option_map key_of (row_at bytes (c.slot + 1))
  pub before : c.before.0 ≡ (if c.slot == 0 then 0 else child_in (row_at bytes (c.slot - 1)))

-- in a file of whole pages, what the rules of trees know of a page is read from the page by the grammar
abbrev pub HeadIsRead : Type 0
HeadIsRead = (g : Geometry) (image : Image) (s : PageHead) → HasWholePages image → IsHeadIn g image s → IsHeadRead (page image s.page.0) s

-- so is what they know of an index row
abbrev pub IndexRowIsRead : Type 0
IndexRowIsRead = (g : Geometry) (image : Image) (c : known.IndexRow) → HasWholePages image → IsIndexRowIn g image c → IsIndexRowRead (page image c.parent.0) c

-- an image has no two reports
abbrev pub OneReport : Type 0
OneReport = (g : Geometry) (image : Image) (report report' : CheckReport) → IsCheckOf g image report → IsCheckOf g image report' → report ≡ report'
