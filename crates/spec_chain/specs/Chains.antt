-- The IAM chains of an image (Pages and Extents Architecture Guide; what ends a chain is this project's
-- own).
use Rattle.std.specs.Prelude.{◌≡◌, ℕ, zero, suc, ◌<◌, ◌==◌, ◌&&◌, Bool, not, if◌then◌else◌, Option, Some, None, unwrap_or, List, length, Contains}
use Rattle.spec_file.specs.declared.geometry.Geometry.{Geometry}
use Rattle.spec_file.specs.declared.page_type.TheConstants.{IAM_TYPE}
use Rattle.spec_file.specs.Image.{Image, page, number_at}
use Rattle.spec_file.specs.Header.{says}
use Rattle.spec_file.specs.Places.{is_inside}
use Rattle.spec_file.specs.Roles.{is_ordinary}
use Rattle.spec_file.specs.CatalogRows.{CatalogRow, rows_of}
use Rattle.spec_file.specs.Iam.{iam_interval, has_interval}
use Rattle.spec_chain.specs.declared.end.ChainEnd.{ChainEnd}
use Rattle.spec_chain.specs.declared.end.ChainEnd.TheVariants as end

-- the image's catalog has the object
abbrev pub IsObject : Image → CatalogRow → Type 0
IsObject image row = Contains (rows_of (page image 9)) row

-- the object and the neighbours of a page's header
abbrev pub object_of : List ℕ → ℕ
object_of bytes = number_at 4 8 bytes

abbrev pub prev_of : List ℕ → ℕ
prev_of bytes = number_at 4 12 bytes

abbrev pub next_of : List ℕ → ℕ
next_of bytes = number_at 4 16 bytes

-- the first that is there
abbrev pub or_else : Option ChainEnd → Option ChainEnd → Option ChainEnd
or_else (Some fault) other = Some fault
or_else None other = other

-- the k-th pointer of an object's chain, from 0: the first stands in the catalog, each other in the page
-- that the pointer before it names
abbrev pub pointer : Image → CatalogRow → ℕ → ℕ
pointer image row zero = row.first_iam
pointer image row (suc k) = next_of (page image (pointer image row k))

-- the page that holds the k-th pointer: the boot page holds the first
abbrev pub holder : Image → CatalogRow → ℕ → ℕ
holder image row zero = 9
holder image row (suc k) = pointer image row k

-- pointer 0 ends a chain of at least one page
abbrev pub is_last : ℕ → ℕ → Bool
is_last n q = (q == 0) && not (n == 0)

-- what is wrong with the n-th pointer q by its number alone: it is no page of the file, or no ordinary one
abbrev pub fault_of_number : Geometry → ℕ → ℕ → ℕ → Option ChainEnd
fault_of_number g pages n q =
    if not (is_inside pages q) then Some (if is_last n q then end.Whole else end.Outside)
    else (if not (is_ordinary g q) then Some end.NotIam else None)

-- what is wrong with the bytes of page q: it isn't of IAM type or says another number, it is of another
-- object, or its interval isn't one of the file
abbrev pub fault_of_bytes : Geometry → ℕ → ℕ → ℕ → List ℕ → Option ChainEnd
fault_of_bytes g pages id q bytes =
    if not (says IAM_TYPE q bytes) then Some end.NotIam
    else (if not (object_of bytes == id) then Some end.OtherObject
    else (if not (has_interval g pages (iam_interval bytes)) then Some end.WrongInterval else None))

-- the first test that the page of the n-th pointer fails; none where it is an IAM page of the object
abbrev pub first_fault : Geometry → Image → CatalogRow → ℕ → Option ChainEnd
first_fault g image row n =
    or_else (fault_of_number g (length image) n (pointer image row n))
    (fault_of_bytes g (length image) row.id (pointer image row n) (page image (pointer image row n)))

-- an earlier pointer of the chain names the page
abbrev pub IsMet : Image → CatalogRow → ℕ → ℕ → Type 0
IsMet image row n q = (j : ℕ) × (j < n) × (pointer image row j ≡ q)

-- the chain goes on with its n-th pointer: to an IAM page of the object that it hasn't met
abbrev pub GoesOn : Geometry → Image → CatalogRow → ℕ → Type 0
GoesOn g image row n = (first_fault g image row n ≡ None) × (IsMet image row n (pointer image row n) → ⊥)

-- how a chain ends at its n-th pointer, where it doesn't go on
abbrev pub end_at : Geometry → Image → CatalogRow → ℕ → ChainEnd
end_at g image row n = unwrap_or (first_fault g image row n) end.Met

-- the first n pointers name pages of the chain
abbrev pub HasPages : Geometry → Image → CatalogRow → ℕ → Type 0
HasPages g image row n = (k : ℕ) → k < n → GoesOn g image row k

-- the k-th pointer names the k-th page of the chain, from 0
abbrev pub IsChainPage : Geometry → Image → CatalogRow → ℕ → Type 0
IsChainPage g image row k = HasPages g image row (suc k)

-- the page is one of the chain
abbrev pub IsInChain : Geometry → Image → CatalogRow → ℕ → Type 0
IsInChain g image row p = (k : ℕ) × IsChainPage g image row k × (pointer image row k ≡ p)

-- the chain has n pages and no more
pub record HasLength (g : Geometry) (image : Image) (row : CatalogRow) (n : ℕ) : Type 0 where
  pub pages : HasPages g image row n
  pub ends : GoesOn g image row n → ⊥
