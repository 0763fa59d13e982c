-- What a worker has, and what its work leaves.
use Rattle.std.specs.Prelude.{◌≡◌, ◌⊎◌, ℕ, ◌<◌, true, None, length, vec_len}
use Rattle.std.specs.Option.{ForSome}
use Rattle.spec_file.specs.Image.{Image}
use Rattle.pg_base.specs.declared.reader.SnapReader.{Ghosts}
use Rattle.pg_base.specs.Reading.{OnlyReads}
use Rattle.ck_claim.specs.Shown.{ClaimsModel, ClaimSeatModel, IsOf}
use Rattle.ck_facts.specs.declared.map.AllocMap.{AllocMap}
use Rattle.ck_facts.specs.MapOf.{IsMapOf}
use Rattle.ck_merge.specs.Held.{roots_in, roots_of, count_of}
use Rattle.ck_scan.specs.declared.findings.Findings.{Findings}
use Rattle.ck_scan.specs.declared.worker.Job.{Job}
use Rattle.ck_scan.specs.declared.worker.Worker.{Worker}
use Rattle.ck_scan.specs.Found.{AreFoundIn}
use Rattle.ck_scan.specs.Frames.{IsFrameOf}

-- findings for the objects of a map, in so many parts
pub record IsFor (m : AllocMap) (parts : ℕ) (found : Findings) : Type 0 where
  pub lines : vec_len found.lines ≡ vec_len m.objects
  pub roots : roots_in found.parts ≡ roots_of m.objects.items
  pub count : count_of found.parts ≡ parts

-- a job of one of the workers that draw from these claims; its findings have as many parts as there are workers
pub record IsJob (claims : ClaimsModel) (m : AllocMap) (job : Job) : Type 0 where
  pub of : IsOf claims job.seat
  pub one : job.seat.parts ≡ 1
  pub found : IsFor m claims.parts job.found

-- what the pages of the extents that the job's seat drew show
abbrev pub JobFound : Image → AllocMap → Job → Type 0
JobFound image m job = AreFoundIn image m job.seat.draws job.found

-- the seat knows that all is drawn, or has drawn more than there is
abbrev pub HasAll : ClaimsModel → ClaimSeatModel → Type 0
HasAll claims seat = (seat.knows_all ≡ true) ⊎ (claims.count < length seat.draws)

-- a job that has not begun
pub record IsBegun (claims : ClaimsModel) (m : AllocMap) (job : Job) : Type 0 where
  pub is : IsJob claims m job
  pub going : job.stop ≡ None
  pub holds : (image : Image) → JobFound image m job × IsFrameOf image job.frame

-- a job that came to its end
pub record IsDone (claims : ClaimsModel) (m : AllocMap) (job : Job) : Type 0 where
  pub is : IsJob claims m job
  pub all : HasAll claims job.seat

-- a worker that nothing has stopped
pub record IsGoing {X : Type 0} (r : Ghosts X) (claims : ClaimsModel) (m : AllocMap) (w : Worker X) : Type 0 where
  pub job : IsJob claims m w.job
  pub going : w.job.stop ≡ None
  pub pages : r.pages w.reader ≡ m.pages

-- what some of a worker's draws leave: where nothing stopped it, it has found what the extents drawn show
pub record HasDrawn {X : Type 0} (r : Ghosts X) (claims : ClaimsModel) (m : AllocMap) (old new : Worker X) : Type 0 where
  pub job : IsJob claims m new.job
  pub reads : OnlyReads r old.reader new.reader new.job.stop
  pub holds : new.job.stop ≡ None → ForSome (r.image old.reader) (λ image. IsMapOf image m
      → JobFound image m old.job × IsFrameOf image old.job.frame → JobFound image m new.job × IsFrameOf image new.job.frame)

-- what all of its draws leave
pub record HasWorked {X : Type 0} (r : Ghosts X) (claims : ClaimsModel) (m : AllocMap) (old new : Worker X) : Type 0 where
  pub drawn : HasDrawn r claims m old new
  pub all : new.job.stop ≡ None → HasAll claims new.job.seat
