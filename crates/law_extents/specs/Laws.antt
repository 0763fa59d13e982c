-- The rules of extents and of pages, judged extent by extent: by what each shows, by its kind, and by how a
-- statement changes it.
use Rattle.std.specs.Prelude.{◌≡◌, ◌⊎◌, ◌↔◌, ℕ, ◌/◌, ◌%◌, ◌<◌, IsTrue, List, length, Contains}
use Rattle.spec_file.specs.declared.geometry.Geometry.{Geometry}
use Rattle.spec_file.specs.Image.{Image}
use Rattle.spec_file.specs.Places.{is_free, extent_count}
use Rattle.spec_file.specs.Roles.{is_system_extent}
use Rattle.spec_chain.specs.Marks.{IsMarker}
use Rattle.spec_chain.specs.Uses.{Use}
use Rattle.spec_check.specs.declared.report.CheckError.{CheckError}
use Rattle.spec_check.specs.Allocation.{IsExtentError, IsUseError}
use Rattle.spec_extents.specs.Extents.{extent_of, IsMixed, IsGoodExtent, AreGoodExtents}
use Rattle.spec_extents.specs.Kinds.{IsFree, IsShared, IsOwned}
use Rattle.spec_extents.specs.Changes.{ShowsSame, TakesSingle, FillsSingle, ChangesByte, TakesExtent, FreesSingles, FreesExtent}

-- an error of the rules of extents and of pages; each names a page
abbrev pub IsMapError : Geometry → Image → CheckError → Type 0
IsMapError g image x = IsExtentError g image x ⊎ IsUseError g image x

-- none of a page of extent e stands
abbrev pub HasNoErrorAt : Geometry → Image → ℕ → Type 0
HasNoErrorAt g image e = (x : CheckError) → IsMapError g image x → x.page / 8 ≡ e → ⊥

-- no error stands at an extent of the file exactly where what the extent shows is good
abbrev pub ExtentIsLocal : Type 0
ExtentIsLocal = (g : Geometry) (image : Image) (e : ℕ) → e < extent_count image → HasNoErrorAt g image e ↔ IsGoodExtent g e (extent_of g image e)

-- in a file of whole extents none stands anywhere exactly where all are good
abbrev pub ExtentsAreAll : Type 0
ExtentsAreAll = (g : Geometry) (image : Image) → length image % 8 ≡ 0 → ((x : CheckError) → IsMapError g image x → ⊥) ↔ AreGoodExtents g image

-- extent e of the image is good
abbrev pub IsGoodAt : Geometry → Image → ℕ → Type 0
IsGoodAt g image e = IsGoodExtent g e (extent_of g image e)

-- the extents that show what a free one shows are the good ones whose GAM bit is 1
abbrev pub FreeIsKind : Type 0
FreeIsKind = (g : Geometry) (image : Image) (e : ℕ) → (IsGoodAt g image e × IsTrue (is_free g image e)) ↔ IsFree g e (extent_of g image e)

-- those that show what a shared one shows are the good ones that single pages claim
abbrev pub SharedIsKind : Type 0
SharedIsKind = (g : Geometry) (image : Image) (e : ℕ)
    → (IsGoodAt g image e × IsMixed e (extent_of g image e)) ↔ IsShared g e (extent_of g image e)

-- those that show what one of object o shows are the good ones that it marks
abbrev pub OwnedIsKind : Type 0
OwnedIsKind = (g : Geometry) (image : Image) (e o : ℕ)
    → (IsGoodAt g image e × IsMarker g image e o) ↔ IsOwned g e (extent_of g image e) o

-- a good extent which isn't the system's is of one of the three kinds: it can't be that it is of none
abbrev pub HasKind : Geometry → Image → ℕ → Type 0
HasKind g image e =
    IsFree g e (extent_of g image e) ⊎ (IsShared g e (extent_of g image e) ⊎ ((o : ℕ) × IsOwned g e (extent_of g image e) o))

abbrev pub GoodHasKind : Type 0
GoodHasKind = (g : Geometry) (image : Image) (e : ℕ) → IsGoodAt g image e → (IsTrue (is_system_extent g e) → ⊥) → (HasKind g image e → ⊥) → ⊥

-- each change keeps extent e good
abbrev pub SameKeepsGood : Type 0
SameKeepsGood = (g : Geometry) (image image' : Image) (e : ℕ) → IsGoodAt g image e
    → ShowsSame e (extent_of g image e) (extent_of g image' e) → IsGoodAt g image' e

abbrev pub SingleKeepsGood : Type 0
SingleKeepsGood = (g : Geometry) (image image' : Image) (e p : ℕ) (u : Use) → IsGoodAt g image e
    → TakesSingle g e p u (extent_of g image e) (extent_of g image' e) → IsGoodAt g image' e

abbrev pub FillingKeepsGood : Type 0
FillingKeepsGood = (g : Geometry) (image image' : Image) (e p : ℕ) (u : Use) → IsGoodAt g image e
    → FillsSingle g e p u (extent_of g image e) (extent_of g image' e) → IsGoodAt g image' e

abbrev pub ByteKeepsGood : Type 0
ByteKeepsGood = (g : Geometry) (image image' : Image) (e p : ℕ) → IsGoodAt g image e
    → ChangesByte g e p (extent_of g image e) (extent_of g image' e) → IsGoodAt g image' e

abbrev pub ExtentKeepsGood : Type 0
ExtentKeepsGood = (g : Geometry) (image image' : Image) (e p o : ℕ) → IsGoodAt g image e
    → TakesExtent g e p o (extent_of g image e) (extent_of g image' e) → IsGoodAt g image' e

-- the pages that lose their uses are those of a list
abbrev pub FreeingKeepsGood : Type 0
FreeingKeepsGood = (g : Geometry) (image image' : Image) (e : ℕ) (gone : List ℕ) → IsGoodAt g image e
    → FreesSingles g e (Contains gone) (extent_of g image e) (extent_of g image' e) → IsGoodAt g image' e

abbrev pub UnmarkingKeepsGood : Type 0
UnmarkingKeepsGood = (g : Geometry) (image image' : Image) (e : ℕ) → IsGoodAt g image e
    → FreesExtent g e (extent_of g image e) (extent_of g image' e) → IsGoodAt g image' e
