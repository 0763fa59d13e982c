use Rattle.std.proofs.Common.{◌≡◌, ◌/◌, ℕ, All, Contains, List, [], ◌∷◌, ◌++◌, arith, sym, subst, ◌∙◌}
use Rattle.std.proofs.lemmas.List.Elements.{All-contains, Contains-push, Contains-append_left}
use Rattle.ck_claim.specs.Shown.{IsOf, IsEachBelow}
use Rattle.ck_scan.specs.declared.worker.Job.{Job}
use Rattle.ck_scan.specs.Found.{IsLike}
use Rattle.ck_scan.specs.Working.{IsDone, JobFound}
use Rattle.ck_scan.proofs.CrewLaws.{all_from}
use Rattle.ck_scan.proofs.OnceLaws.{below_found}
use Rattle.ck_scan.proofs.SumLaws.{like_for, all_drawn}
use Rattle.ck_scan.proofs.crew.gather.Goals as goal

-- a list that ends with a job
last_of : (P : Job → Type 0) (all left : List Job) (job : Job) → all ≡ left ++ job ∷ [] → All P all → P job
last_of P all left job is h = All-contains P all job h (subst (λ (l : List Job). Contains l job) (sym is) (Contains-push left job))

left_of : (P : Job → Type 0) (all left : List Job) (job : Job) → all ≡ left ++ job ∷ [] → All P all → All P left
left_of P all left job is h = all_from P left (λ j there. All-contains P all j h
    (subst (λ (l : List Job). Contains l j) (sym is) (Contains-append_left left (job ∷ []) j there)))

pub join_all-requires-clause-of : goal.join_all-requires-clause-of
join_all-requires-clause-of c = (last_of (IsDone c.args.claims c.args.map.now) c.args.jobs.items c.pop.new.self.items c.in-Some.first c.in-Some.ensures.items c.requires.done).is.of

pub join_all-requires-clause-seats : goal.join_all-requires-clause-seats
join_all-requires-clause-seats c =
    let done = left_of (IsDone c.args.claims c.args.map.now) c.args.jobs.items c.pop.new.self.items c.in-Some.first c.in-Some.ensures.items c.requires.done in
    all_from (λ (j : Job). IsOf c.args.claims j.seat × (j.seat.parts ≡ 1)) c.pop.new.self.items
    (λ j there. let is = (All-contains (IsDone c.args.claims c.args.map.now) c.pop.new.self.items j done there).is in (is.of, is.one))

pub join_all-requires-clause-like : goal.join_all-requires-clause-like
join_all-requires-clause-like c =
    let m = c.args.map.now in
    let first = last_of (IsDone c.args.claims m) c.args.jobs.items c.pop.new.self.items c.in-Some.first c.in-Some.ensures.items c.requires.done in
    let done = left_of (IsDone c.args.claims m) c.args.jobs.items c.pop.new.self.items c.in-Some.first c.in-Some.ensures.items c.requires.done in
    all_from (λ (j : Job). IsLike c.in-Some.first.found j.found) c.pop.new.self.items
    (λ j there. like_for m c.args.claims.parts c.in-Some.first.found j.found first.is.found (All-contains (IsDone c.args.claims m) c.pop.new.self.items j done there).is.found)

pub close-drawn-requires-clause-all_parts : goal.close-drawn-requires-clause-all_parts
close-drawn-requires-clause-all_parts c =
    let first = last_of (IsDone c.args.claims c.args.map.now) c.args.jobs.items c.pop.new.self.items c.in-Some.first c.in-Some.ensures.items c.requires.done in
    let one = first.is.one in
    let popped = c.in-Some.ensures.cases in
    let all = c.in_ok-join_all.ensures.parts in
    let parts = c.requires.parts in
    omega (arith, one, popped, all, parts)

pub returns-clause-roots : goal.returns-clause-roots
returns-clause-roots c =
    let first = last_of (IsDone c.args.claims c.args.map.now) c.args.jobs.items c.pop.new.self.items c.in-Some.first c.in-Some.ensures.items c.requires.done in
    c.in_ok-join_all.ensures.like.roots ∙ first.is.found.roots

pub returns-clause-found : goal.returns-clause-found
returns-clause-found c = λ image of each.
    let m = c.args.map.now in
    let first = last_of (IsDone c.args.claims m) c.args.jobs.items c.pop.new.self.items c.in-Some.first c.in-Some.ensures.items c.requires.done in
    let all = c.join_all.new.all in
    let found = c.in_ok-join_all.ensures.found image m of.pages (last_of (JobFound image m) c.args.jobs.items c.pop.new.self.items c.in-Some.first c.in-Some.ensures.items each)
    (left_of (JobFound image m) c.args.jobs.items c.pop.new.self.items c.in-Some.first c.in-Some.ensures.items each) in
    let drawn : IsEachBelow c.close-drawn.result all.seat.draws = c.close-drawn.ensures.drawn in
    let within = c.close-drawn.ensures.within in
    let count : c.close-drawn.result ≡ c.args.claims.count =
    all_drawn c.args.claims all.seat c.close-drawn.result (c.in_ok-join_all.ensures.all first.all) drawn (omega (arith, within)) c.close-drawn.ensures.all in
    let extents : c.close-drawn.result ≡ m.pages / 8 = count ∙ c.requires.count in
    below_found image m (m.pages / 8) all.seat.draws all.found (subst (λ (n : ℕ). IsEachBelow n all.seat.draws) extents drawn) found
