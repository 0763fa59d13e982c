use Rattle.std.proofs.Common.{◌≡◌, ◌+◌, Contains, List, [], ◌∷◌, ◌++◌, arith, sym, subst, ap, refl}
use Rattle.std.proofs.lemmas.List.Elements.{All-contains, Contains-push, Contains-append_left}
use Rattle.ck_claim.specs.Shown.{ClaimSeatModel, IsOf, with_seat}
use Rattle.ck_scan.specs.declared.worker.Job.{Job}
use Rattle.ck_scan.specs.Found.{IsLike}
use Rattle.ck_scan.specs.Working.{HasAll, JobFound}
use Rattle.ck_scan.proofs.SumLaws.{like_itself, like_then, like_other, all_of_both, found_of_both}
use Rattle.ck_scan.proofs.crew.join_all.Goals as goal

-- the job that is taken stands in the list
taken : (all left : List Job) (job : Job) → all ≡ left ++ job ∷ [] → Contains all job
taken all left job is = subst (λ (l : List Job). Contains l job) (sym is) (Contains-push left job)

pub jobs-init : goal.jobs-init
jobs-init c = record {
  of = c.requires.of;
  parts = refl;
  all = λ h. h;
  like = like_itself c.args.all.now.found;
  rest = λ j there. there;
  found = λ image m pages h each. h;
}

pub join-requires-clause-other : goal.join-requires-clause-other
join-requires-clause-other c = (All-contains (λ (j : Job). IsOf c.args.claims.now j.seat × (j.seat.parts ≡ 1)) c.args.jobs.items c.in-Some.job c.requires.seats
    (c.jobs.invariant.rest c.in-Some.job (taken c.jobs.jobs.items c.pop.new.self.items c.in-Some.job c.in-Some.ensures.items))).0

pub join-requires-clause-like : goal.join-requires-clause-like
join-requires-clause-like c = like_other c.args.all.now.found c.jobs.all.found c.in-Some.job.found c.jobs.invariant.like
    (All-contains (λ (j : Job). IsLike c.args.all.now.found j.found) c.args.jobs.items c.in-Some.job c.requires.like
    (c.jobs.invariant.rest c.in-Some.job (taken c.jobs.jobs.items c.pop.new.self.items c.in-Some.job c.in-Some.ensures.items)))

pub jobs-preserved : goal.jobs-preserved
jobs-preserved c =
    let before = c.jobs.invariant in
    let job = c.in-Some.job in
    let there = before.rest job (taken c.jobs.jobs.items c.pop.new.self.items job c.in-Some.ensures.items) in
    let seats = All-contains (λ (j : Job). IsOf c.args.claims.now j.seat × (j.seat.parts ≡ 1)) c.args.jobs.items job c.requires.seats there in
    let seat : c.join.new.self.seat ≡ with_seat c.jobs.all.seat job.seat = c.join.ensures.seat in
    let one = seats.1 in
    let parts : c.join.new.self.seat.parts ≡ c.jobs.all.seat.parts + job.seat.parts = ap (λ (s : ClaimSeatModel). s.parts) seat in
    let counted = before.parts in
    let popped = c.in-Some.ensures.cases in
    record {
      of = subst (IsOf c.args.claims.now) (sym seat) before.of;
      parts = omega (arith, one, parts, counted, popped);
      all = λ h. subst (HasAll c.args.claims.now) (sym seat) (all_of_both c.args.claims.now c.jobs.all.seat job.seat (before.all h));
      like = like_then c.args.all.now.found c.jobs.all.found c.join.new.self.found before.like c.join.ensures.like;
      rest = λ j at. before.rest j (subst (λ (l : List Job). Contains l j) (sym c.in-Some.ensures.items) (Contains-append_left c.pop.new.self.items (job ∷ []) j at));
      found = λ image m pages h each. found_of_both image m c.jobs.all job c.join.new.self pages seat c.in_ok-join.ensures.found
          (before.found image m pages h each) (All-contains (JobFound image m) c.args.jobs.items job each there);
    }
