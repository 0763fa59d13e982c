use Rattle.std.proofs.Common.{◌≡◌, ◌+◌, All, Contains, length, vec_len}
use Rattle.spec_file.specs.Image.{Image}
use Rattle.ck_claim.specs.Shown.{IsOf}
use Rattle.ck_facts.specs.declared.map.AllocMap.{AllocMap}
use Rattle.ck_scan.specs.declared.worker.Job.{Job}
use Rattle.ck_scan.specs.Found.{IsLike}
use Rattle.ck_scan.specs.Working.{HasAll, JobFound}
use Rattle.ck_scan.proofs.crew.join_all.Given as goal

abbrev pub invariant-jobs : goal.invariant-jobs
invariant-jobs l = record {
  of : IsOf l.claims l.all.seat;
  parts : l.all.seat.parts + vec_len l.jobs ≡ l.initial.all.seat.parts + vec_len l.initial.jobs;
  all : HasAll l.claims l.initial.all.seat → HasAll l.claims l.all.seat;
  like : IsLike l.initial.all.found l.all.found;
  rest : (j : Job) → Contains l.jobs.items j → Contains l.initial.jobs.items j;
  found : (image : Image) (m : AllocMap) → length image ≡ m.pages → JobFound image m l.initial.all → All (JobFound image m) l.initial.jobs.items
      → JobFound image m l.all;
}

abbrev pub decreases-jobs : goal.decreases-jobs
decreases-jobs l = vec_len l.jobs
