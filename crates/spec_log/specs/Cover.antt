-- What covers a change: each bit of a GAM or SGAM page and each byte of another page has one guard, the
-- resource that a transaction must hold to change it (this project's own).
use Rattle.std.specs.Prelude.{◌≡◌, ℕ, ◌+◌, ◌-◌, ◌*◌, ◌/◌, ◌<◌, ◌==◌, ◌&&◌, true, nat_lt, nat_le, if◌then◌else◌, List, Option, Some, None, IsSomeAnd}
use Rattle.spec_file.specs.declared.data.Resource.{Resource}
use Rattle.spec_file.specs.declared.data.Resource.TheVariants as resource
use Rattle.spec_file.specs.declared.geometry.Geometry.{Geometry}
use Rattle.spec_file.specs.declared.role.Role.{Role}
use Rattle.spec_file.specs.declared.role.Role.TheVariants.{Pfs, Gam, Sgam, Boot, Ordinary}
use Rattle.spec_file.specs.Image.{maps_start}
use Rattle.spec_file.specs.Places.{interval_size, interval_of_page, pfs_span}
use Rattle.spec_file.specs.Roles.{role_of}
use Rattle.spec_log.specs.declared.item.Cell.{Cell}
use Rattle.spec_log.specs.declared.item.Cell.TheVariants.{Bytes, Bit}
use Rattle.spec_log.specs.declared.item.Record.{Record}
use Rattle.spec_log.specs.Log.{holds}

-- the extent that bit n of a GAM or SGAM page speaks of
abbrev pub extent_at : Geometry → ℕ → ℕ → ℕ
extent_at g p n = interval_size g * interval_of_page g p + n

-- the page that the byte at an offset of a PFS page speaks of
abbrev pub paged_at : ℕ → ℕ → ℕ
paged_at p at = (if p == 1 then 0 else p) + (at - maps_start)

-- a bit of a GAM or SGAM page is guarded by its extent, where the file has that extent
abbrev pub extent_guard : Geometry → ℕ → ℕ → ℕ → Option Resource
extent_guard g pages p n =
    if nat_lt n (interval_size g) && nat_lt (extent_at g p n) (pages / 8) then Some (resource.Extent (record { 0 = extent_at g p n })) else None

-- a byte of a PFS page is guarded by the byte's own resource, where the file has the page that it speaks of
abbrev pub pfs_guard : Geometry → ℕ → ℕ → ℕ → Option Resource
pfs_guard g pages p at =
    if nat_le maps_start at && nat_lt (at - maps_start) (pfs_span g) && nat_lt (paged_at p at) pages
    then Some (resource.Byte (record { 0 = paged_at p at })) else None

abbrev pub bit_guard_by : Role → Geometry → ℕ → ℕ → ℕ → Option Resource
bit_guard_by Gam g pages p n = extent_guard g pages p n
bit_guard_by Sgam g pages p n = extent_guard g pages p n
bit_guard_by other g pages p n = None

-- nothing outside the file has a guard
abbrev pub in_file : ℕ → ℕ → Option Resource → Option Resource
in_file pages p guard = if nat_lt p pages then guard else None

-- the guard of bit n of page p, of a file with so many pages
abbrev pub bit_guard : Geometry → ℕ → ℕ → ℕ → Option Resource
bit_guard g pages p n = in_file pages p (bit_guard_by (role_of g p) g pages p n)

abbrev pub byte_guard_by : Role → Geometry → ℕ → ℕ → ℕ → Option Resource
byte_guard_by Pfs g pages p at = pfs_guard g pages p at
byte_guard_by Boot g pages p at = Some resource.Catalog
byte_guard_by Ordinary g pages p at = Some (resource.Page (record { 0 = p }))
byte_guard_by other g pages p at = None

-- the guard of the byte at an offset of page p
abbrev pub byte_guard : Geometry → ℕ → ℕ → ℕ → Option Resource
byte_guard g pages p at = in_file pages p (byte_guard_by (role_of g p) g pages p at)

-- the transaction holds the guard that stands there
abbrev pub HoldsGuard : List Record → ℕ → Option Resource → Type 0
HoldsGuard log t guard = IsSomeAnd guard (λ r. holds log t r ≡ true)

-- of a PFS page a change has bytes of pages of one extent alone
abbrev pub IsOfOneExtent : Role → ℕ → ℕ → ℕ → Type 0
IsOfOneExtent Pfs p off size = (i : ℕ) → i < size → paged_at p (off + i) / 8 ≡ paged_at p off / 8
IsOfOneExtent other p off size = Unit {0}

-- what the transaction holds covers the cell, of so many bytes
abbrev pub IsCovered : Geometry → ℕ → List Record → ℕ → Cell → ℕ → Type 0
IsCovered g pages log t (Bytes p off) size =
    ((i : ℕ) → i < size → HoldsGuard log t (byte_guard g pages p.0 (off + i))) × IsOfOneExtent (role_of g p.0) p.0 off size
IsCovered g pages log t (Bit p n) size = HoldsGuard log t (bit_guard g pages p.0 n)
