-- What an insert knows of the pages of its table.
use Rattle.std.specs.Prelude.{◌≡◌, ℕ, ◌<◌, true, IsTrue, List, Contains, None}
use Rattle.spec_file.specs.declared.data.Resource.TheVariants as resource
use Rattle.spec_file.specs.Image.{page}
use Rattle.spec_file.specs.Places.{pfs_page}
use Rattle.spec_file.specs.CatalogRows.{CatalogRow}
use Rattle.spec_file.specs.Roles.{is_ordinary}
use Rattle.spec_plan.specs.Rows.{passes_page, has_room_for}
use Rattle.spec_words.specs.Views.{View}
use Rattle.db_locks.specs.States.{PlanState}

-- the PFS byte of page p was read: its page is one of those that were looked at, and no other transaction holds the byte
pub record WasByteRead (looked : List ℕ) (view : View) (p : ℕ) : Type 0 where
  pub reached : Contains looked (pfs_page view.shape.geometry p)
  pub free : view.other (resource.Byte (record { 0 = p })) ≡ None

-- a page of a heap has room for a row of so many bytes; its own bytes are as the transaction sees them
pub record HasRoomOn (state : PlanState) (row : CatalogRow) (size p : ℕ) (bytes : List ℕ) : Type 0 where
  pub inside : p < state.view.shape.pages
  pub ordinary : is_ordinary state.view.shape.geometry p ≡ true
  pub heap : passes_page p row.id bytes ≡ true
  pub room : IsTrue (has_room_for bytes size)
  pub seen : IsTrue state.told → bytes ≡ page state.view.now p
