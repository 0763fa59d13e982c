-- What a page that passed its test shows by itself, said by its rows alone.
use Rattle.std.specs.Prelude.{◌≡◌, ◌≢◌, ◌⊎◌, ℕ, ◌+◌, ◌%◌, ◌≤◌, IsTrue, List}
use Rattle.spec_file.specs.Kinds.{is_clustered}
use Rattle.spec_rows.specs.Rows.{row_key}
use Rattle.spec_rows.specs.Slots.{slot_count, page_row}
use Rattle.spec_check.specs.declared.report.CheckError.{CheckError}
use Rattle.spec_check.specs.Pages.{wrong_byte}
use Rattle.spec_tables.specs.PageRules.{wrong_order, fullness_in}
use Rattle.pg_slots.specs.Views.{bytes_of}
use Rattle.ck_error.specs.Gathered.{Below}
use Rattle.ck_facts.specs.declared.page.TestedPage.{TestedPage}

abbrev pub page_bytes : TestedPage → List ℕ
page_bytes t = bytes_of t.view

-- the key of the row of slot i
abbrev pub slot_key : List ℕ → ℕ → ℕ
slot_key bytes i = row_key (page_row bytes i)

-- the key of the slot isn't above that of the slot before
pub record FallsAt (o p : ℕ) (bytes : List ℕ) (slot : ℕ) (x : CheckError) : Type 0 where
  pub before : ℕ
  pub next : slot ≡ before + 1
  pub falls : slot_key bytes slot ≤ slot_key bytes before
  pub is : x ≡ wrong_order o p slot (slot_key bytes slot)

-- the same of any slot of the page
abbrev pub Falls : TestedPage → CheckError → Type 0
Falls t = Below (slot_count (page_bytes t)) (FallsAt t.object.0 t.number.0 (page_bytes t))

-- the same in a clustered table
abbrev pub IsOutOfOrder : TestedPage → CheckError → Type 0
IsOutOfOrder t x = IsTrue (is_clustered t.kind) × Falls t x

-- the bits of the fullness in the page's PFS byte are others
abbrev pub HasOtherFullness : TestedPage → ℕ → CheckError → Type 0
HasOtherFullness t pfs x =
    (pfs % 8 ≢ fullness_in t.kind (page_bytes t)) × (x ≡ wrong_byte 8914 t.object.0 t.number.0 pfs)

abbrev pub IsShownBy : TestedPage → ℕ → CheckError → Type 0
IsShownBy t pfs x = IsOutOfOrder t x ⊎ HasOtherFullness t pfs x
