use Rattle.std.proofs.Common.{◌≡◌, ◌+◌, ◌≤◌, ◌++◌, map, vec_len, vec_capacity}
use Rattle.std.specs.Option.{option_or}
use Rattle.ck_scan.specs.Readers.{first_stop}
use Rattle.ck_scan.proofs.crew.release.Given as goal

abbrev pub invariant-workers : goal.invariant-workers
invariant-workers g l = record {
  room : vec_len l.readers + vec_len l.workers ≤ vec_capacity l.readers;
  job_room : vec_len l.jobs + vec_len l.workers ≤ vec_capacity l.jobs;
  readers : l.readers.items ++ map (λ w. w.reader) l.workers.items ≡ map (λ w. w.reader) l.initial.workers.items;
  jobs : l.jobs.items ++ map (λ w. w.job) l.workers.items ≡ map (λ w. w.job) l.initial.workers.items;
  stop : option_or l.first (first_stop (map (λ w. w.job.stop) l.workers.items)) ≡ first_stop (map (λ w. w.job.stop) l.initial.workers.items);
}

abbrev pub decreases-workers : goal.decreases-workers
decreases-workers g l = vec_len l.workers
