-- What a check reads, phase by phase.
use Rattle.std.proofs.Common.{◌≡◌, ℕ, ◌+◌, ◌/◌, ◌<◌, ◌≤◌, true, false, length, arith, refl, sym, ap, subst}
use Rattle.spec_file.specs.Image.{Image}
use Rattle.ck_facts.specs.declared.map.AllocMap.{AllocMap}
use Rattle.ck_scan.specs.declared.stepped.SteppedScan.{SteppedScan}
use Rattle.ck_scan.specs.declared.stepped.SteppedScan.TheVariants as scans
use Rattle.ck_scan.specs.Scans.{extents_left}
use Rattle.db_core.specs.declared.session.Phase.{Phase}
use Rattle.db_core.specs.declared.session.Phase.TheVariants.{Back, Undone, Scanning}
use Rattle.db_core.specs.Reading.{is_back, IsScan, IsPhaseOf, BeginsScan, ScansOn, ReadsOn, reads_left}

-- no more extents are left than there are
extents_few : (map : AllocMap) (scan : SteppedScan) → extents_left map scan ≤ map.pages / 8
extents_few map scans.Unread = omega arith
extents_few map (scans.Pages next frame found) = omega arith

-- while items are taken back all is still to be read
pub all_left : (n : ℕ) (phase : Phase) → is_back phase ≡ true → reads_left n phase ≡ n / 8 + 2
all_left n Back e = refl
all_left n Undone e = absurd (cc)
all_left n (Scanning map scan) e = absurd (cc)

begun_few : (pages : Image) (phase : Phase) → BeginsScan pages phase → reads_left (length pages) phase < length pages / 8 + 1
begun_few pages Back b = absurd b
begun_few pages Undone b = absurd b
begun_few pages (Scanning map scan) b = let few = extents_few map scan in let count = b.0.count in omega (arith, few, count)

scans_fewer : (pages : Image) (map : AllocMap) (old : SteppedScan) (phase : Phase) → ScansOn pages map old phase → reads_left (length pages) phase < extents_left map old
scans_fewer pages map old Back h = absurd h
scans_fewer pages map old Undone h = absurd h
scans_fewer pages map old (Scanning same new) h = let left = h.1.1 in let now = ap (λ m. extents_left m new) h.0 in omega (arith, left, now)

-- each turn that reads leaves one fewer
pub reads_fewer : (pages : Image) (old new : Phase) → ReadsOn pages old new → reads_left (length pages) new < reads_left (length pages) old
reads_fewer pages Back new h = absurd h
reads_fewer pages Undone new h = begun_few pages new h
reads_fewer pages (Scanning map scan) new h = scans_fewer pages map scan new h

begun_phase : (pages : Image) (phase : Phase) → BeginsScan pages phase → IsPhaseOf pages phase
begun_phase pages Back b = absurd b
begun_phase pages Undone b = absurd b
begun_phase pages (Scanning map scan) b = b.0

scans_phase : (pages : Image) (map : AllocMap) (old : SteppedScan) (phase : Phase) → ScansOn pages map old phase → IsPhaseOf pages phase
scans_phase pages map old Back h = absurd h
scans_phase pages map old Undone h = absurd h
scans_phase pages map old (Scanning same new) h = subst (λ m. IsScan pages m new) (sym h.0) h.1.0

-- and a scan of the pages
pub reads_phase : (pages : Image) (old new : Phase) → ReadsOn pages old new → IsPhaseOf pages new
reads_phase pages Back new h = absurd h
reads_phase pages Undone new h = begun_phase pages new h
reads_phase pages (Scanning map scan) new h = scans_phase pages map scan new h

-- a check reads only behind what it takes back
pub reads_behind : (pages : Image) (old new : Phase) → ReadsOn pages old new → is_back old ≡ false
reads_behind pages Back new h = absurd h
reads_behind pages Undone new h = refl
reads_behind pages (Scanning map scan) new h = refl
