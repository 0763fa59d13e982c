use Rattle.std.proofs.Common.{◌<◌, length, arith}
use Rattle.ck_scan.proofs.CrewLaws.{reader_of, job_of, released, released_stop}
use Rattle.ck_scan.proofs.crew.release.Goals as goal

pub workers-preserved : goal.workers-preserved
workers-preserved g c =
    let before = c.workers.invariant in
    let w = c.remove-reader.result in
    let ws = c.workers.workers.items in
    let lengths = c.workers.workers.ok.0 in
    let removed = c.remove-reader.ensures.len in
    let some : 0 < length ws = omega (arith, lengths, removed) in
    let value = c.remove-reader.ensures.value in
    let items = c.remove-reader.ensures.items in
    let room = before.room in
    let job_room = before.job_room in
    let pushed = c.push_reserved.ensures.len in
    let capacity = c.push_reserved.ensures.capacity in
    let job_pushed = c.push_reserved-in-workers.ensures.len in
    let job_capacity = c.push_reserved-in-workers.ensures.capacity in
    record {
      room = omega (arith, room, pushed, capacity, removed);
      job_room = omega (arith, job_room, job_pushed, job_capacity, removed);
      readers = rw (c.push_reserved.ensures.items, items) (released reader_of c.workers.readers.items _ w ws some value before.readers);
      jobs = rw (c.push_reserved-in-workers.ensures.items, items) (released job_of c.workers.jobs.items _ w ws some value before.jobs);
      stop = rw (c.or-first.ensures, items) (released_stop c.workers.first _ w ws some value before.stop);
    }
