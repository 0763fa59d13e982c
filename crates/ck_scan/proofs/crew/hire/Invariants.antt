use Rattle.std.proofs.Common.{◌≡◌, ◌+◌, ◌≤◌, ◌++◌, Contains, map, vec_len, vec_capacity}
use Rattle.ck_scan.specs.declared.worker.Job.{Job}
use Rattle.ck_scan.specs.declared.worker.Worker.{Worker}
use Rattle.ck_scan.proofs.crew.hire.Given as goal

abbrev pub invariant-jobs : goal.invariant-jobs
invariant-jobs g l = record {
  same : vec_len l.jobs ≡ vec_len l.readers;
  room : vec_len l.readers + vec_len l.workers ≤ vec_capacity l.workers;
  places : vec_capacity l.readers ≡ vec_capacity l.initial.readers;
  job_places : vec_capacity l.jobs ≡ vec_capacity l.initial.jobs;
  readers : map (λ w. w.reader) l.workers.items ++ l.readers.items ≡ l.initial.readers.items;
  taken : (w : Worker g.row.R.Denot) → Contains l.workers.items w → Contains l.initial.jobs.items w.job;
  rest : (j : Job) → Contains l.jobs.items j → Contains l.initial.jobs.items j;
}

abbrev pub decreases-jobs : goal.decreases-jobs
decreases-jobs g l = vec_len l.jobs
