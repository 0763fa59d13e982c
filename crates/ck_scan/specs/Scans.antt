-- A check of a still file that goes on extent by extent.
use Rattle.std.specs.Prelude.{◌≡◌, ℕ, ◌+◌, ◌-◌, ◌/◌, ◌≤◌, Option, vec_len}
use Rattle.std.specs.Option.{ForSome}
use Rattle.spec_file.specs.Image.{Image}
use Rattle.ck_error.specs.Gathered.{Below}
use Rattle.ck_facts.specs.declared.map.AllocMap.{AllocMap}
use Rattle.ck_facts.specs.Maps.{HasNoSystemErrors}
use Rattle.ck_facts.specs.MapOf.{IsMapOf}
use Rattle.ck_facts.specs.Owners.{IsOwnerIn}
use Rattle.ck_merge.specs.Held.{roots_in, roots_of}
use Rattle.ck_scan.specs.declared.stepped.SteppedScan.{SteppedScan}
use Rattle.ck_scan.specs.declared.stepped.SteppedScan.TheVariants.{Unread, Pages}
use Rattle.ck_scan.specs.Found.{AreFound}
use Rattle.ck_scan.specs.Frames.{IsFrameOf}

-- how many extents are left to be read
abbrev pub extents_left : AllocMap → SteppedScan → ℕ
extents_left m Unread = 0
extents_left m (Pages next frame found) = m.pages / 8 - next

-- the scan was begun by these maps: it reads pages where no system page is wrong, with a line for each object
abbrev pub IsScanBy : AllocMap → SteppedScan → Type 0
IsScanBy m Unread = HasNoSystemErrors m → ⊥
IsScanBy m (Pages next frame found) =
    HasNoSystemErrors m × (next ≤ m.pages / 8) × (vec_len found.lines ≡ vec_len m.objects) × (roots_in found.parts ≡ roots_of m.objects.items)

-- all that the extents before the next one show is found
abbrev pub ShowsRead : Image → AllocMap → SteppedScan → Type 0
ShowsRead image m Unread = Unit {0}
ShowsRead image m (Pages next frame found) = AreFound image m (Below next (IsOwnerIn m.geometry image)) found × IsFrameOf image frame

-- the maps are those of the image, and so is all that is found
pub record IsScanOf (image : Image) (m : AllocMap) (scan : SteppedScan) : Type 0 where
  pub map : IsMapOf image m
  pub shows : ShowsRead image m scan

-- a scan by these maps that has read nothing: each extent is left, none where a system page is wrong
pub record IsBegun (m : AllocMap) (scan : SteppedScan) : Type 0 where
  pub by : IsScanBy m scan
  pub of : (image : Image) → IsMapOf image m → IsScanOf image m scan
  pub all : HasNoSystemErrors m → extents_left m scan ≡ m.pages / 8
  pub none : (HasNoSystemErrors m → ⊥) → extents_left m scan ≡ 0

-- one extent more of the image is read, if it is told
pub record ReadsNext (told : Option Image) (m : AllocMap) (old new : SteppedScan) : Type 0 where
  pub by : IsScanBy m new
  pub of : ForSome told (λ image. IsScanOf image m old → IsScanOf image m new)
  pub left : extents_left m old ≡ extents_left m new + 1
