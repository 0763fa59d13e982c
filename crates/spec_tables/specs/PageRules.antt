-- The rules that one page shows by itself, and those of its object's PFS byte that rest on its rows.
use Rattle.std.specs.Prelude.{◌≡◌, ◌≢◌, ◌⊎◌, ℕ, ◌+◌, ◌%◌, ◌≤◌, true, false, IsTrue, if◌then◌else◌, List, Some}
use Rattle.spec_file.specs.declared.geometry.Geometry.{Geometry}
use Rattle.spec_file.specs.declared.data.Kind.{Kind}
use Rattle.spec_file.specs.Image.{Image, page}
use Rattle.spec_file.specs.Header.{header_of}
use Rattle.spec_file.specs.Pfs.{fullness_of}
use Rattle.spec_file.specs.Kinds.{is_clustered}
use Rattle.spec_file.specs.CatalogRows.{CatalogRow}
use Rattle.spec_file.specs.Roles.{is_ordinary}
use Rattle.spec_chain.specs.Chains.{IsObject}
use Rattle.spec_chain.specs.Uses.{IsAllocatedTo, pfs_byte}
use Rattle.spec_rows.specs.declared.fault.SlotFault.{SlotFault}
use Rattle.spec_rows.specs.PageTest.{PassesTest, IsFirstFault}
use Rattle.spec_check.specs.declared.report.CheckError.{CheckError}
use Rattle.spec_check.specs.Pages.{wrong_byte}
use Rattle.spec_tables.specs.Heads.{key_at}

-- 8928: a page that no object may own
abbrev pub not_ordinary : ℕ → ℕ → CheckError
not_ordinary o p = record { number = 8928; object = o; page = p; other = 0; slot = 0; value = 0 }

-- the error of the first test that page p of object o fails
abbrev pub fault_error : ℕ → ℕ → SlotFault → CheckError
fault_error o p fault =
    record { number = fault.number; object = o; page = p; other = fault.other; slot = fault.slot; value = fault.value }

-- 2511, with the key of the slot
abbrev pub wrong_order : ℕ → ℕ → ℕ → ℕ → CheckError
wrong_order o p slot key = record { number = 2511; object = o; page = p; other = 0; slot = slot; value = key }

-- the bytes of page p of the object fail a test, of which this is the first
pub record HasFault (row : CatalogRow) (p : ℕ) (bytes : List ℕ) (x : CheckError) : Type 0 where
  pub fault : SlotFault
  pub first : IsFirstFault p row.id row.kind bytes fault
  pub is : x ≡ fault_error row.id p fault

-- in a clustered table the key of a slot isn't above that of the slot before
pub record HasWrongOrder (row : CatalogRow) (p : ℕ) (bytes : List ℕ) (x : CheckError) : Type 0 where
  pub before : ℕ
  pub low : ℕ
  pub key : ℕ
  pub clustered : IsTrue (is_clustered row.kind)
  pub passes : PassesTest p row.id row.kind bytes
  pub first : key_at bytes before ≡ Some low
  pub second : key_at bytes (before + 1) ≡ Some key
  pub falls : key ≤ low
  pub is : x ≡ wrong_order row.id p (before + 1) key

-- bits 0 to 2 of the PFS byte of a page that passes its test: the fullness, but 0 in a clustered table
abbrev pub fullness_in : Kind → List ℕ → ℕ
fullness_in kind bytes = if is_clustered kind then 0 else fullness_of (header_of bytes).free_count

-- 8914: these bits of the page's PFS byte are others
pub record HasWrongFullness (row : CatalogRow) (p pfs : ℕ) (bytes : List ℕ) (x : CheckError) : Type 0 where
  pub passes : PassesTest p row.id row.kind bytes
  pub differs : pfs % 8 ≢ fullness_in row.kind bytes
  pub is : x ≡ wrong_byte 8914 row.id p pfs

-- what one page of an object shows by itself, with its PFS byte
abbrev pub IsErrorOn : CatalogRow → ℕ → ℕ → List ℕ → CheckError → Type 0
IsErrorOn row p pfs bytes x = HasFault row p bytes x ⊎ (HasWrongOrder row p bytes x ⊎ HasWrongFullness row p pfs bytes x)

-- what a page that is allocated to the object shows: that no object may own it, or what its bytes show
abbrev pub IsErrorOf : Geometry → Image → CatalogRow → ℕ → CheckError → Type 0
IsErrorOf g image row p x =
    ((is_ordinary g p ≡ false) × (x ≡ not_ordinary row.id p))
    ⊎ ((is_ordinary g p ≡ true) × IsErrorOn row p (pfs_byte g image p) (page image p) x)

-- an error of a page of an object, by itself
pub record IsPageError (g : Geometry) (image : Image) (x : CheckError) : Type 0 where
  pub row : CatalogRow
  pub number : ℕ
  pub object : IsObject image row
  pub allocated : IsAllocatedTo g image row number
  pub is : IsErrorOf g image row number x
