-- The rules of uses and of PFS bytes.
use Rattle.std.specs.Prelude.{◌≡◌, ◌≢◌, ◌⊎◌, ℕ, ◌/◌, ◌%◌, ◌<◌, false, IsTrue, List, ◌∷◌, length, Option, Some, None}
use Rattle.spec_file.specs.declared.geometry.Geometry.{Geometry}
use Rattle.spec_file.specs.declared.role.Role.{Role}
use Rattle.spec_file.specs.declared.role.Role.TheVariants as role
use Rattle.spec_file.specs.declared.pfs.PfsKind.{PfsKind}
use Rattle.spec_file.specs.declared.pfs.PfsKind.TheVariants as kinds
use Rattle.spec_file.specs.Image.{Image}
use Rattle.spec_file.specs.Roles.{role_of, is_ordinary}
use Rattle.spec_file.specs.Pfs.{expected}
use Rattle.spec_file.specs.Iam.{single_slot_count}
use Rattle.spec_chain.specs.Marks.{IsMarker, HasMarker}
use Rattle.spec_chain.specs.Uses.{Use, IsUse, AreUses, HasUse, pfs_byte, is_allocated}
use Rattle.spec_check.specs.declared.report.CheckError.{CheckError}

-- 8906, with the page's PFS byte
abbrev pub lost_page : ℕ → ℕ → CheckError
lost_page p byte = record { number = 8906; object = 0; page = p; other = 0; slot = 0; value = byte }

-- nobody uses the page, and nobody marks its extent
abbrev pub IsUnowned : Geometry → Image → ℕ → Type 0
IsUnowned g image p = (HasUse g image p → ⊥) × (HasMarker g image (p / 8) → ⊥)

-- an ordinary page is allocated, and nobody owns it
abbrev pub IsLostPage : Geometry → Image → CheckError → Type 0
IsLostPage g image x =
    (p : ℕ) × (p < length image) × IsTrue (is_ordinary g p) × IsTrue (is_allocated g image p) × IsUnowned g image p
    × (x ≡ lost_page p (pfs_byte g image p))

-- 8910, with the objects of the first two uses, and how many there are
abbrev pub two_uses : ℕ → Use → Use → ℕ → CheckError
two_uses p first second count =
    record { number = 8910; object = first.object; page = p; other = second.object; slot = 0; value = count }

-- the uses are two or more
abbrev pub GivesTwoUses : ℕ → List Use → CheckError → Type 0
GivesTwoUses p uses x =
    (first second : Use) × (rest : List Use) × (uses ≡ first ∷ second ∷ rest) × (x ≡ two_uses p first second (length uses))

-- a page of the file has two uses
abbrev pub HasTwoUses : Geometry → Image → CheckError → Type 0
HasTwoUses g image x =
    (p : ℕ) × (p < length image) × (uses : List Use) × AreUses g image p uses × GivesTwoUses p uses x

-- the use that the PFS byte of a page should tell of, by its role; an ordinary page's isn't told by its role
abbrev pub kind_of_role : Role → Option PfsKind
kind_of_role role.FileHeader = Some kinds.System
kind_of_role role.Pfs = Some kinds.System
kind_of_role role.Gam = Some kinds.System
kind_of_role role.Sgam = Some kinds.System
kind_of_role role.Reserved = Some kinds.Reserved
kind_of_role role.Boot = Some kinds.Boot
kind_of_role role.Ordinary = None

-- a page in a single-page slot, or in a chain
abbrev pub IsKindOfUse : ℕ → PfsKind → Type 0
IsKindOfUse place kind = ((place < single_slot_count) × (kind ≡ kinds.Single)) ⊎ ((place ≡ single_slot_count) × (kind ≡ kinds.Iam))

-- a page of an extent that an object marks
abbrev pub IsKindOfMark : Geometry → Image → ℕ → PfsKind → Type 0
IsKindOfMark g image p kind =
    (IsTrue (is_allocated g image p) × (kind ≡ kinds.Uniform)) ⊎ ((is_allocated g image p ≡ false) × (kind ≡ kinds.Unused))

-- a page that isn't ordinary is tested by its role
abbrev pub IsTestedByRole : Geometry → ℕ → ℕ → PfsKind → Type 0
IsTestedByRole g p o kind = (kind_of_role (role_of g p) ≡ Some kind) × (o ≡ 0)

-- an ordinary page is tested for each use
abbrev pub IsTestedByUse : Geometry → Image → ℕ → ℕ → PfsKind → Type 0
IsTestedByUse g image p o kind =
    IsTrue (is_ordinary g p) × (place : ℕ) × IsUse g image p (record { object = o; place = place }) × IsKindOfUse place kind

-- and for each object that marks its extent
abbrev pub IsTestedByMark : Geometry → Image → ℕ → ℕ → PfsKind → Type 0
IsTestedByMark g image p o kind = IsTrue (is_ordinary g p) × IsMarker g image (p / 8) o × IsKindOfMark g image p kind

-- and once where nobody owns it and it isn't allocated
abbrev pub IsTestedAlone : Geometry → Image → ℕ → ℕ → PfsKind → Type 0
IsTestedAlone g image p o kind =
    IsTrue (is_ordinary g p) × (is_allocated g image p ≡ false) × IsUnowned g image p × (o ≡ 0) × (kind ≡ kinds.Unused)

-- the PFS byte of page p is tested as that of a page of this kind, for object o, 0 for none
abbrev pub IsTestedAs : Geometry → Image → ℕ → ℕ → PfsKind → Type 0
IsTestedAs g image p o kind =
    IsTestedByRole g p o kind ⊎ (IsTestedByUse g image p o kind ⊎ (IsTestedByMark g image p o kind ⊎ IsTestedAlone g image p o kind))

-- 8948 and 8914, with the PFS byte
abbrev pub wrong_byte : ℕ → ℕ → ℕ → ℕ → CheckError
wrong_byte number o p byte = record { number = number; object = o; page = p; other = 0; slot = 0; value = byte }

-- bits 3 to 7 of a page's PFS byte are those of another kind
abbrev pub HasWrongFlags : Geometry → Image → CheckError → Type 0
HasWrongFlags g image x =
    (p : ℕ) × (p < length image) × (o : ℕ) × (kind : PfsKind) × IsTestedAs g image p o kind
    × (pfs_byte g image p / 8 ≢ expected kind 0 / 8) × (x ≡ wrong_byte 8948 o p (pfs_byte g image p))

-- the fullness of a page that may hold rows is told by the page itself
abbrev pub MayHoldRows : PfsKind → Type 0
MayHoldRows kind = (kind ≡ kinds.Single) ⊎ (kind ≡ kinds.Uniform)

-- bits 0 to 2 are wrong, where they don't depend on the page's rows
abbrev pub HasWrongFullness : Geometry → Image → CheckError → Type 0
HasWrongFullness g image x =
    (p : ℕ) × (p < length image) × (o : ℕ) × (kind : PfsKind) × IsTestedAs g image p o kind × (MayHoldRows kind → ⊥)
    × (pfs_byte g image p % 8 ≢ expected kind 0 % 8) × (x ≡ wrong_byte 8914 o p (pfs_byte g image p))
