-- CREATE and DROP, as changes of an image (what is written is this project's own).
use Rattle.std.specs.Prelude.{◌≡◌, ◌⊎◌, ℕ, ◌/◌, ◌<◌, true, IsTrue, List, length}
use Rattle.spec_file.specs.declared.geometry.Geometry.{Geometry}
use Rattle.spec_file.specs.declared.pfs.PfsKind.TheVariants.{Iam}
use Rattle.spec_file.specs.Image.{Image, page}
use Rattle.spec_file.specs.Places.{is_free, extent_count}
use Rattle.spec_file.specs.Roles.{is_ordinary}
use Rattle.spec_file.specs.Catalog.{entry_at}
use Rattle.spec_file.specs.CatalogRows.{CatalogRow, row_of_entry}
use Rattle.spec_chain.specs.Chains.{IsInChain}
use Rattle.spec_chain.specs.Marks.{IsMarked}
use Rattle.spec_chain.specs.Uses.{IsUseBy, IsAllocatedTo, pfs_byte}
use Rattle.spec_steps.specs.AtMost.{Changed, AtMost, page_of, either, maps_of}
use Rattle.spec_steps.specs.IamPages.{IsOnlyIam}
use Rattle.spec_steps.specs.Taking.{IsTakeable, IsHeldAs}
use Rattle.spec_steps.specs.Freeing.{IsLeftShared}
use Rattle.spec_steps.specs.Entries.{AddsEntry, EmptiesEntry}

-- an object with one IAM page, page p, and nothing else: the page is taken as a single page, and an empty entry of
-- the catalog gets the object
pub record CreatesObject (g : Geometry) (image image' : Image) (row : CatalogRow) (p : ℕ) : Type 0 where
  pub takeable : IsTakeable g image p
  pub most : AtMost g (either (maps_of p) (either (page_of p) (page_of 9))) image image'
  pub taken : IsHeldAs g image' p Iam
  pub new : IsOnlyIam row.id p (page image' p)
  pub place : ℕ
  pub entry : List ℕ
  pub adds : AddsEntry place entry (page image 9) (page image' 9)
  pub is : row ≡ row_of_entry entry
  pub first : row.first_iam ≡ p

-- the object has the page: it is allocated to it, or one of its chain
abbrev pub Has : Geometry → Image → CatalogRow → ℕ → Type 0
Has g image row p = IsAllocatedTo g image row p ⊎ IsInChain g image row p

-- the object uses a page of the extent
abbrev pub UsesOf : Geometry → Image → CatalogRow → ℕ → Type 0
UsesOf g image row e = (p : ℕ) × (p / 8 ≡ e) × (place : ℕ) × IsUseBy g image p row place

-- the bits of the extents that the object marks or uses pages of, the PFS bytes of the pages that it has, and page 9
abbrev pub dropped : Geometry → Image → CatalogRow → Changed
dropped g image row = record {
  free = λ e. IsMarked g image row e ⊎ UsesOf g image row e;
  mixed = UsesOf g image row;
  bytes = Has g image row;
  pages = λ q. q ≡ 9;
}

-- the object's entry is emptied, the PFS bytes of its pages are 0, the extents that it marked are free, and those of
-- its single pages mixed or free. All its pages are ordinary, and none is written: slots and marks stay.
pub record DropsObject (g : Geometry) (image image' : Image) (row : CatalogRow) : Type 0 where
  pub ordinary : (p : ℕ) → IsAllocatedTo g image row p → IsTrue (is_ordinary g p)
  pub most : AtMost g (dropped g image row) image image'
  pub bytes : (p : ℕ) → p < length image → Has g image row p → pfs_byte g image' p ≡ 0
  pub marked : (e : ℕ) → e < extent_count image → IsMarked g image row e → is_free g image' e ≡ true
  pub shared : (e : ℕ) → e < extent_count image → UsesOf g image row e → IsLeftShared g image' e
  pub place : ℕ
  pub empties : EmptiesEntry place (page image 9) (page image' 9)
  pub is : row ≡ row_of_entry (entry_at (page image 9) place)
