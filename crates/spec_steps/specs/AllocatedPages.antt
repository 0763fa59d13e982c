-- What a step does to the pages that are allocated to its object.
use Rattle.std.specs.Prelude.{◌≡◌, ◌≢◌, ◌⊎◌, ◌↔◌, ℕ, IsTrue}
use Rattle.spec_file.specs.declared.geometry.Geometry.{Geometry}
use Rattle.spec_file.specs.Image.{Image, page}
use Rattle.spec_file.specs.Roles.{is_ordinary}
use Rattle.spec_file.specs.CatalogRows.{CatalogRow}
use Rattle.spec_chain.specs.Chains.{IsObject}
use Rattle.spec_chain.specs.Uses.{IsAllocatedTo, pfs_byte}

-- the page has the same bytes and the same PFS byte
pub record IsSamePage (g : Geometry) (image image' : Image) (q : ℕ) : Type 0 where
  pub bytes : page image' q ≡ page image q
  pub pfs : pfs_byte g image' q ≡ pfs_byte g image q

-- the same pages are allocated to the object, and they are as they were
pub record KeepsPages (g : Geometry) (image image' : Image) (row : CatalogRow) : Type 0 where
  pub object : IsObject image' row
  pub allocated : (q : ℕ) → IsAllocatedTo g image' row q ↔ IsAllocatedTo g image row q
  pub same : (q : ℕ) → IsAllocatedTo g image row q → IsTrue (is_ordinary g q) → IsSamePage g image image' q

-- page p, which wasn't, is allocated to the object; so are those that were, which are as they were
pub record GetsPage (g : Geometry) (image image' : Image) (row : CatalogRow) (p : ℕ) : Type 0 where
  pub object : IsObject image' row
  pub new : IsAllocatedTo g image row p → ⊥
  pub allocated : (q : ℕ) → IsAllocatedTo g image' row q ↔ (IsAllocatedTo g image row q ⊎ (q ≡ p))
  pub same : (q : ℕ) → IsAllocatedTo g image row q → IsTrue (is_ordinary g q) → IsSamePage g image image' q

-- page p, which was, isn't allocated to the object any more; the others that were are as they were
pub record GivesPage (g : Geometry) (image image' : Image) (row : CatalogRow) (p : ℕ) : Type 0 where
  pub object : IsObject image' row
  pub old : IsAllocatedTo g image row p
  pub allocated : (q : ℕ) → IsAllocatedTo g image' row q ↔ (IsAllocatedTo g image row q × (q ≢ p))
  pub same : (q : ℕ) → IsAllocatedTo g image row q → q ≢ p → IsTrue (is_ordinary g q) → IsSamePage g image image' q
