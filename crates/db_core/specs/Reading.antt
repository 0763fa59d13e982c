-- A check reads its pages: the maps, then extent by extent.
use Rattle.spec_run.specs.Openings.{geometry_said}
use Rattle.std.specs.Prelude.{◌≡◌, ◌==◌, ℕ, ◌+◌, ◌/◌, Bool, true, false, length}
use Rattle.spec_file.specs.Image.{Image}
use Rattle.spec_file.specs.Places.{HasShape}
use Rattle.ck_facts.specs.declared.map.AllocMap.{AllocMap}
use Rattle.ck_facts.specs.MapOf.{IsMapOf}
use Rattle.ck_scan.specs.declared.stepped.SteppedScan.{SteppedScan}
use Rattle.ck_scan.specs.Scans.{extents_left, IsBegun, IsScanBy, IsScanOf}
use Rattle.db_core.specs.declared.session.Phase.{Phase}
use Rattle.db_core.specs.declared.session.Phase.TheVariants.{Back, Undone, Scanning}

-- items are being taken back
abbrev pub is_back : Phase → Bool
is_back Back = true
is_back Undone = false
is_back (Scanning map scan) = false

-- all extents are read
abbrev pub is_read : Phase → Bool
is_read Back = false
is_read Undone = false
is_read (Scanning map scan) = extents_left map scan == 0

-- the maps of these pages
pub record AreMapsOf (pages : Image) (map : AllocMap) : Type 0 where
  pub geometry : map.geometry ≡ geometry_said pages
  pub count : map.pages ≡ length pages
  pub of : IsMapOf pages map

-- a scan of these pages that is under way
pub record IsScan (pages : Image) (map : AllocMap) (scan : SteppedScan) : Type 0 where
  pub geometry : map.geometry ≡ geometry_said pages
  pub count : map.pages ≡ length pages
  pub by : IsScanBy map scan
  pub of : IsScanOf pages map scan

-- where the maps are read, the scan is one of these pages
abbrev pub IsPhaseOf : Image → Phase → Type 0
IsPhaseOf pages Back = Unit {0}
IsPhaseOf pages Undone = Unit {0}
IsPhaseOf pages (Scanning map scan) = IsScan pages map scan

-- one extent more of the pages is read
abbrev pub ReadsExtent : Image → AllocMap → SteppedScan → SteppedScan → Type 0
ReadsExtent pages map old new = IsScan pages map new × (extents_left map old ≡ extents_left map new + 1)

-- the maps are read, and no extent yet
abbrev pub BeginsScan : Image → Phase → Type 0
BeginsScan pages Back = ⊥
BeginsScan pages Undone = ⊥
BeginsScan pages (Scanning map scan) = IsScan pages map scan × IsBegun map scan

-- a scan goes on by the same maps
abbrev pub ScansOn : Image → AllocMap → SteppedScan → Phase → Type 0
ScansOn pages map old Back = ⊥
ScansOn pages map old Undone = ⊥
ScansOn pages map old (Scanning same new) = (same ≡ map) × ReadsExtent pages map old new

-- a turn that reads: all maps, or one extent
abbrev pub ReadsOn : Image → Phase → Phase → Type 0
ReadsOn pages Back new = ⊥
ReadsOn pages Undone new = BeginsScan pages new
ReadsOn pages (Scanning map scan) new = ScansOn pages map scan new

-- a check may go on behind what it takes back
pub record MayRead (pages : Image) (phase : Phase) : Type 0 where
  pub shape : HasShape (geometry_said pages) (length pages)
  pub behind : is_back phase ≡ false
  pub phase_is : IsPhaseOf pages phase

-- how many turns a check of so many pages takes at most until it finds that nothing is left to take back, has read the
-- maps, and each extent
abbrev pub reads_left : ℕ → Phase → ℕ
reads_left pages Back = pages / 8 + 2
reads_left pages Undone = pages / 8 + 1
reads_left pages (Scanning map scan) = extents_left map scan
