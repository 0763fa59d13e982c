-- The rules of IAM chains, each for one object.
use Rattle.std.specs.Prelude.{◌≡◌, ◌≢◌, ◌⊎◌, ℕ, zero, suc, ◌+◌, ◌*◌, ◌<◌, ◌≤◌, IsTrue, List, length, Option, Some, None}
use Rattle.spec_file.specs.declared.geometry.Geometry.{Geometry}
use Rattle.spec_file.specs.Image.{Image, page}
use Rattle.spec_file.specs.Places.{interval_size, extent_count}
use Rattle.spec_file.specs.CatalogRows.{CatalogRow}
use Rattle.spec_file.specs.Iam.{iam_interval, iam_sequence, iam_mark}
use Rattle.spec_chain.specs.declared.end.ChainEnd.{ChainEnd}
use Rattle.spec_chain.specs.declared.end.ChainEnd.TheVariants as end
use Rattle.spec_chain.specs.Chains.{IsObject, object_of, prev_of, pointer, holder, IsChainPage, HasLength, end_at}
use Rattle.spec_chain.specs.Uses.{IsSlot}
use Rattle.spec_check.specs.declared.report.CheckError.{CheckError}

abbrev pub error : ℕ → ℕ → ℕ → ℕ → ℕ → ℕ → CheckError
error number o p other slot value = record { number = number; object = o; page = p; other = other; slot = slot; value = value }

-- what each end of a chain gives: 8968 for a pointer out of range, 2575 for a page that is no IAM page, 8959
-- for one of another object, 8968 for an interval that the file hasn't, 8969 for a page met before. The
-- pointer q, which page p holds, ended the chain.
abbrev pub error_of_end : ℕ → ℕ → ℕ → List ℕ → ChainEnd → Option CheckError
error_of_end id q p bytes end.Whole = None
error_of_end id q p bytes end.Outside = Some (error 8968 id p q 0 0)
error_of_end id q p bytes end.NotIam = Some (error 2575 id q p 0 0)
error_of_end id q p bytes end.OtherObject = Some (error 8959 id q p 0 (object_of bytes))
error_of_end id q p bytes end.WrongInterval = Some (error 8968 id q 0 0 (iam_interval bytes))
error_of_end id q p bytes end.Met = Some (error 8969 id q p 0 0)

-- what the end of a chain of n pages gives
abbrev pub end_error : Geometry → Image → CatalogRow → ℕ → Option CheckError
end_error g image row n =
    error_of_end row.id (pointer image row n) (holder image row n) (page image (pointer image row n)) (end_at g image row n)

-- an error at the chain's end
abbrev pub IsEndError : Geometry → Image → CatalogRow → CheckError → Type 0
IsEndError g image row x = (n : ℕ) × HasLength g image row n × (end_error g image row n ≡ Some x)

-- the page before the k-th, 0 for the first
abbrev pub before : Image → CatalogRow → ℕ → ℕ
before image row zero = 0
before image row (suc k) = pointer image row k

-- 8969: the k-th page doesn't name the page before it
abbrev pub HasWrongChainPrev : Image → CatalogRow → ℕ → CheckError → Type 0
HasWrongChainPrev image row k x =
    (prev_of (page image (pointer image row k)) ≢ before image row k)
    × (x ≡ error 8969 row.id (pointer image row k) (prev_of (page image (pointer image row k))) 0 1)

-- 2577: the k-th page has another sequence
abbrev pub HasWrongSequence : Image → CatalogRow → ℕ → CheckError → Type 0
HasWrongSequence image row k x =
    (iam_sequence (page image (pointer image row k)) ≢ k)
    × (x ≡ error 2577 row.id (pointer image row k) 0 0 (iam_sequence (page image (pointer image row k))))

-- the interval of the k-th page
abbrev pub interval_at : Image → CatalogRow → ℕ → ℕ
interval_at image row k = iam_interval (page image (pointer image row k))

-- the j-th page is the first of the chain with this interval
pub record IsFirstOf (image : Image) (row : CatalogRow) (m j : ℕ) : Type 0 where
  pub is : interval_at image row j ≡ m
  pub first : (i : ℕ) → i < j → interval_at image row i ≢ m

-- 8947: the k-th page has the interval of an earlier one
abbrev pub RepeatsInterval : Image → CatalogRow → ℕ → CheckError → Type 0
RepeatsInterval image row k x =
    (j : ℕ) × (j < k) × IsFirstOf image row (interval_at image row k) j
    × (x ≡ error 8947 row.id (pointer image row k) (pointer image row j) 0 0)

-- 2579: the k-th page marks an extent of its interval at or past the file's end
abbrev pub MarksOutside : Geometry → Image → CatalogRow → ℕ → CheckError → Type 0
MarksOutside g image row k x =
    (n : ℕ) × (n < interval_size g) × IsTrue (iam_mark (page image (pointer image row k)) n)
    × (extent_count image ≤ interval_size g * interval_at image row k + n)
    × (x ≡ error 2579 row.id (pointer image row k) 0 0 (interval_size g * interval_at image row k + n))

-- an error of the k-th page
abbrev pub IsErrorAt : Geometry → Image → CatalogRow → ℕ → CheckError → Type 0
IsErrorAt g image row k x =
    HasWrongChainPrev image row k x ⊎ (HasWrongSequence image row k x ⊎ (RepeatsInterval image row k x ⊎ MarksOutside g image row k x))

-- an error of a page of the chain
abbrev pub IsChainPageError : Geometry → Image → CatalogRow → CheckError → Type 0
IsChainPageError g image row x = (k : ℕ) × IsChainPage g image row k × IsErrorAt g image row k x

-- 8968: a single-page slot holds a number at or past the file's end
abbrev pub HasSlotOutside : Geometry → Image → CatalogRow → CheckError → Type 0
HasSlotOutside g image row x =
    (i q : ℕ) × IsSlot g image row i q × (length image ≤ q) × (x ≡ error 8968 row.id (pointer image row 0) q i 0)

-- an error of an object's chain
abbrev pub IsErrorOfChain : Geometry → Image → CatalogRow → CheckError → Type 0
IsErrorOfChain g image row x = IsEndError g image row x ⊎ (IsChainPageError g image row x ⊎ HasSlotOutside g image row x)

-- an error of the chain of some object of the catalog
abbrev pub IsChainError : Geometry → Image → CheckError → Type 0
IsChainError g image x = (row : CatalogRow) × IsObject image row × IsErrorOfChain g image row x
