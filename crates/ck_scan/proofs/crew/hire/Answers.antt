use Rattle.std.proofs.Common.{◌≡◌, ◌<◌, ◌∷◌, [], ◌++◌, Contains, length, List, arith, sym, subst, ◌∙◌, ⊎_elim}
use Rattle.std.proofs.lemmas.List.Elements.{Contains-push, Contains-push_cases, Contains-append_left}
use Rattle.ck_scan.specs.declared.worker.Job.{Job}
use Rattle.ck_scan.specs.declared.worker.Worker.{Worker}
use Rattle.ck_scan.proofs.CrewLaws.{hired}
use Rattle.ck_scan.proofs.crew.hire.Goals as goal

pub jobs-preserved : goal.jobs-preserved
jobs-preserved g c =
    let before = c.jobs.invariant in
    let same = before.same in
    let room = before.room in
    let popped = c.in-Some.ensures.cases in
    let removed = c.remove-reader.ensures.len in
    let pushed = c.push_reserved.ensures.len in
    let capacity = c.push_reserved.ensures.capacity in
    let lengths = c.jobs.readers.ok.0 in
    let some : 0 < length c.jobs.readers.items = omega (arith, lengths, removed) in
    let w : Worker g.row.R.Denot = record { reader = c.remove-reader.result; job = c.in-Some.job } in
    let items = c.push_reserved.ensures.items in
    let was : c.jobs.jobs.items ≡ c.pop.new.self.items ++ c.in-Some.job ∷ [] = c.in-Some.ensures.items in
    record {
      same = omega (arith, same, popped, removed);
      room = omega (arith, room, removed, pushed, capacity);
      places = c.remove-reader.ensures.capacity ∙ before.places;
      job_places = c.pop.ensures.capacity ∙ before.job_places;
      readers = rw (items, c.remove-reader.ensures.items) (hired c.jobs.workers.items w c.jobs.readers.items c.args.readers.now.items some c.remove-reader.ensures.value before.readers);
      taken = λ v at. ⊎_elim (λ old. before.taken v old)
          (λ e. subst (λ (u : Worker g.row.R.Denot). Contains c.args.jobs.now.items u.job) e
          (before.rest c.in-Some.job (subst (λ (l : List Job). Contains l c.in-Some.job) (sym was) (Contains-push c.pop.new.self.items c.in-Some.job))))
          (Contains-push_cases c.jobs.workers.items w v (subst (λ l. Contains l v) items at));
      rest = λ j at. before.rest j (subst (λ (l : List Job). Contains l j) (sym was) (Contains-append_left c.pop.new.self.items (c.in-Some.job ∷ []) j at));
    }
