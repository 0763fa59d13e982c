-- The report of a scan.
use Rattle.std.proofs.Common.{◌≡◌, ℕ, ◌+◌, ◌/◌, ◌<◌, Option, List, [], ◌∷◌, ◌++◌, length, arith, refl, sym, ap, subst, ◌∙◌, Result, Ok, Err, IfOk}
use Rattle.std.specs.Option.{ForSome}
use Rattle.spec_file.specs.Image.{Image}
use Rattle.spec_tables.specs.Written.{IsCheckOf}
use Rattle.spec_check.specs.declared.report.CheckReport.{CheckReport}
use Rattle.ck_error.specs.Gathered.{Below}
use Rattle.ck_facts.specs.declared.map.AllocMap.{AllocMap}
use Rattle.ck_facts.specs.MapOf.{IsMapOf}
use Rattle.ck_facts.specs.Owners.{IsOwnerIn}
use Rattle.ck_scan.specs.declared.findings.Findings.{Findings}
use Rattle.ck_scan.specs.declared.frame.Frame.{Frame}
use Rattle.ck_scan.specs.declared.stepped.SteppedScan.{SteppedScan}
use Rattle.ck_scan.specs.declared.stepped.SteppedScan.TheVariants.{Unread, Pages}
use Rattle.ck_claim.specs.Shown.{numbers_below}
use Rattle.ck_scan.specs.Found.{AreFound, AreFoundIn, IsLike}
use Rattle.ck_scan.specs.Frames.{IsFrameOf}
use Rattle.ck_scan.specs.Lines.{IsReportOfRules}
use Rattle.ck_scan.specs.Scans.{extents_left, IsScanBy, IsScanOf, ReadsNext}
use Rattle.ck_scan.proofs.OnceLaws.{found_below, next_found}
use Rattle.ck_scan.proofs.Reports.{check_of_rules, check_of_system}

-- the report of system errors
unread_report : (m : AllocMap) (report : CheckReport) → IsScanBy m Unread → report.errors ≡ m.system.items → report.tables ≡ [] → (image : Image) → IsScanOf image m Unread → IsCheckOf m.geometry image report
unread_report m report by errors tables image of =
    some_report m.system.items refl
  where
    some_report : (xs : _) → m.system.items ≡ xs → IsCheckOf m.geometry image report
    some_report [] e = absurd (by e)
    some_report (x ∷ xs) e = check_of_system m.geometry image m.system.items report (let long = ap length e in omega (arith, long)) of.map.system errors tables

-- the report where each extent is read
pages_report : (m : AllocMap) (report : CheckReport) (next : ℕ) (frame : Frame) (found : Findings) → IsScanBy m (Pages next frame found) → extents_left m (Pages next frame found) ≡ 0
    → ((image : Image) → IsMapOf image m → AreFound image m (Below (m.pages / 8) (IsOwnerIn m.geometry image)) found → IsReportOfRules m.geometry image report)
    → (image : Image) → IsScanOf image m (Pages next frame found) → IsCheckOf m.geometry image report
pages_report m report next frame found by none right image of =
    let low = by.1 in
    let end : next ≡ m.pages / 8 = omega (arith, low, none) in
    check_of_rules m.geometry image m.system.items report by.0 of.map.system
    (right image of.map (subst (λ (n : ℕ). AreFound image m (Below n (IsOwnerIn m.geometry image)) found) end of.shows.0))

pub unread_answer : {E : Type 0} (m : AllocMap) (scan : SteppedScan) (r : Result CheckReport E) → scan ≡ Unread → IsScanBy m scan → IfOk r (λ report. report.errors ≡ m.system.items) → IfOk r (λ report. report.tables ≡ [])
    → IfOk r (λ report. (image : Image) → IsScanOf image m scan → IsCheckOf m.geometry image report)
unread_answer {E} m scan (Ok report) is by errors tables = λ image of. unread_report m report (subst (IsScanBy m) is by) errors tables image (subst (IsScanOf image m) is of)
unread_answer {E} m scan (Err e) is by errors tables = tt

pub pages_answer : {E : Type 0} (m : AllocMap) (scan : SteppedScan) (next : ℕ) (frame : Frame) (found : Findings) (r : Result CheckReport E) → scan ≡ Pages next frame found → IsScanBy m scan → extents_left m scan ≡ 0
    → IfOk r (λ report. (image : Image) → IsMapOf image m → AreFound image m (Below (m.pages / 8) (IsOwnerIn m.geometry image)) found → IsReportOfRules m.geometry image report)
    → IfOk r (λ report. (image : Image) → IsScanOf image m scan → IsCheckOf m.geometry image report)
pages_answer {E} m scan next frame found (Ok report) is by none right = λ image of.
    pages_report m report next frame found (subst (IsScanBy m) is by) (subst (λ s. extents_left m s ≡ 0) is none) right image (subst (IsScanOf image m) is of)
pages_answer {E} m scan next frame found (Err e) is by none right = tt

-- one extent more is read
next_read : (image : Image) (m : AllocMap) (next : ℕ) (frame now : Frame) (found more : Findings)
    → ((others : List ℕ) → IsMapOf image m → IsFrameOf image frame → AreFoundIn image m others found → AreFoundIn image m (others ++ next ∷ []) more × IsFrameOf image now)
    → IsScanOf image m (Pages next frame found) → IsScanOf image m (Pages (next + 1) now more)
next_read image m next frame now found more reads of =
    let read = reads (numbers_below next) of.map of.shows.1 (found_below image m next found of.shows.0) in
    record { map = of.map; shows = (next_found image m next more read.0, read.1) }

next_of : (told : Option Image) (m : AllocMap) (next : ℕ) (frame now : Frame) (found more : Findings) → IsScanBy m (Pages next frame found)
    → 0 < extents_left m (Pages next frame found) → IsLike found more
    → ForSome told (λ image. (others : List ℕ) → IsMapOf image m → IsFrameOf image frame → AreFoundIn image m others found
    → AreFoundIn image m (others ++ next ∷ []) more × IsFrameOf image now)
    → ReadsNext told m (Pages next frame found) (Pages (next + 1) now more)
next_of told m next frame now found more by some like reads = record {
  by = (by.0, omega (arith, some), like.lines ∙ by.2, like.roots ∙ by.3);
  of = λ image at of. next_read image m next frame now found more (reads image at) of;
  left = omega (arith, some);
}

pub read_answer : (told : Option Image) (m : AllocMap) (scan : SteppedScan) (next : ℕ) (frame now : Frame) (found more : Findings) → scan ≡ Pages next frame found
    → IsScanBy m scan → 0 < extents_left m scan → IsLike found more
    → ForSome told (λ image. (others : List ℕ) → IsMapOf image m → IsFrameOf image frame → AreFoundIn image m others found
    → AreFoundIn image m (others ++ next ∷ []) more × IsFrameOf image now)
    → ReadsNext told m scan (Pages (next + 1) now more)
read_answer told m scan next frame now found more is by some like reads = subst (λ s. ReadsNext told m s (Pages (next + 1) now more)) (sym is)
    (next_of told m next frame now found more (subst (IsScanBy m) is by) (subst (λ s. 0 < extents_left m s) is some) like reads)
