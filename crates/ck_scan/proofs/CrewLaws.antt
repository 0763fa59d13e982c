-- Readers and jobs that go to their workers, and come back in their order.
use Rattle.std.proofs.Common.{◌≡◌, ℕ, ◌<◌, Some, None, Option, All, List, [], ◌∷◌, ◌++◌, Contains, map, length, get_or, arith, sym, subst, ap, ◌∙◌, refl, inl, append_assoc}
use Rattle.std.specs.List.{remove}
use Rattle.std.specs.Option.{option_or}
use Rattle.std.proofs.lemmas.List.{map-append, length-map, get_or-map}
use Rattle.std.proofs.lemmas.List.Elements.{All-contains, Contains-get_or}
use Rattle.pg_base.specs.declared.reader.SnapReader.{Ghosts}
use Rattle.pg_base.specs.declared.reader.ReadStop.{ReadStop}
use Rattle.pg_base.specs.Reading.{OnlyReads}
use Rattle.spec_file.specs.Image.{Image}
use Rattle.spec_check.proofs.Members.{map_from, map_in}
use Rattle.ck_claim.specs.Shown.{ClaimsModel}
use Rattle.ck_facts.specs.declared.map.AllocMap.{AllocMap}
use Rattle.ck_facts.specs.MapOf.{IsMapOf}
use Rattle.ck_scan.specs.declared.worker.Job.{Job}
use Rattle.ck_scan.specs.declared.worker.Worker.{Worker}
use Rattle.ck_scan.specs.Readers.{first_stop, AreRead}
use Rattle.ck_scan.specs.Working.{IsBegun, IsDone, IsGoing, HasWorked, JobFound}
use Rattle.ck_scan.proofs.ReaderLaws.{first_or, or_or, none_stops}

pub all_from : {X : Type 0} (P : X → Type 0) (xs : List X) → ((x : X) → Contains xs x → P x) → All P xs
all_from {X} P xs each = λ k d low. each (get_or xs k d) (Contains-get_or xs k d low)

-- The first member of a list and the rest.

front : {X : Type 0} (xs : List X) (x : X) → 0 < length xs → x ≡ get_or xs 0 x → xs ≡ x ∷ remove xs 0
front {X} [] x some is = absurd (omega (arith, some))
front {X} (y ∷ ys) x some is = ap (λ z. z ∷ ys) (sym is)

abbrev pub reader_of : {X : Type 0} → Worker X → X
reader_of w = w.reader

abbrev pub job_of : {X : Type 0} → Worker X → Job
job_of w = w.job

abbrev pub stop_of_worker : {X : Type 0} → Worker X → Option ReadStop
stop_of_worker w = w.job.stop

-- the first reader has gone to the last worker
pub hired : {X : Type 0} (ws : List (Worker X)) (w : Worker X) (rs old : List X) → 0 < length rs → w.reader ≡ get_or rs 0 w.reader
    → map reader_of ws ++ rs ≡ old → map reader_of (ws ++ w ∷ []) ++ remove rs 0 ≡ old
hired {X} ws w rs old some is all = ap (λ (l : List X). l ++ remove rs 0) (map-append reader_of ws (w ∷ []))
    ∙ (append_assoc (map reader_of ws) (w.reader ∷ []) (remove rs 0) ∙ (ap (λ (l : List X). map reader_of ws ++ l) (sym (front rs w.reader some is)) ∙ all))

-- what the first worker had has come back last
pub released : {X Y : Type 0} (f : Worker X → Y) (ys all : List Y) (w : Worker X) (ws : List (Worker X)) → 0 < length ws → w ≡ get_or ws 0 w
    → ys ++ map f ws ≡ all → (ys ++ f w ∷ []) ++ map f (remove ws 0) ≡ all
released {X} {Y} f ys all w ws some is same = append_assoc ys (f w ∷ []) (map f (remove ws 0))
    ∙ (ap (λ (l : List (Worker X)). ys ++ map f l) (sym (front ws w some is)) ∙ same)

pub released_stop : {X : Type 0} (first all : Option ReadStop) (w : Worker X) (ws : List (Worker X)) → 0 < length ws → w ≡ get_or ws 0 w
    → option_or first (first_stop (map stop_of_worker ws)) ≡ all → option_or (option_or first w.job.stop) (first_stop (map stop_of_worker (remove ws 0))) ≡ all
released_stop {X} first all w ws some is same = or_or first w.job.stop (first_stop (map stop_of_worker (remove ws 0)))
    ∙ (ap (option_or first) (sym (first_or w.job.stop (map stop_of_worker (remove ws 0))))
    ∙ (ap (λ (l : List (Worker X)). option_or first (first_stop (map stop_of_worker l))) (sym (front ws w some is)) ∙ same))

-- Workers before and after their work.

pub record AreWorked {X : Type 0} (r : Ghosts X) (claims : ClaimsModel) (m : AllocMap) (us vs : List (Worker X)) : Type 0 where
  pub long : length vs ≡ length us
  pub each : (i : ℕ) (d : Worker X) → i < length us → HasWorked r claims m (get_or us i d) (get_or vs i d)

-- the workers had these readers, with jobs that had not begun
pub record AreHired {X : Type 0} (claims : ClaimsModel) (m : AllocMap) (readers : List X) (us : List (Worker X)) : Type 0 where
  pub begun : (w : Worker X) → Contains us w → IsBegun claims m w.job
  pub readers_of : map reader_of us ≡ readers

pub are_worked : {X : Type 0} (r : Ghosts X) (claims : ClaimsModel) (m : AllocMap) (us vs : List (Worker X)) (n k : ℕ) → n ≡ length us → k ≡ length vs → k ≡ n
    → ((i : ℕ) (d : Worker X) → i < n → HasWorked r claims m (get_or us i d) (get_or vs i d)) → AreWorked r claims m us vs
are_worked {X} r claims m us vs n k one two same each = record {
  long = omega (arith, one, two, same);
  each = λ i d low. each i d (omega (arith, low, one));
}

pub are_hired : {X : Type 0} (claims : ClaimsModel) (m : AllocMap) (readers : List X) (us : List (Worker X)) (jobs : List Job) → All (IsBegun claims m) jobs
    → ((w : Worker X) → Contains us w → Contains jobs w.job) → map reader_of us ≡ readers → AreHired claims m readers us
are_hired {X} claims m readers us jobs begun taken readers_of = record {
  begun = λ w there. All-contains (IsBegun claims m) jobs w.job begun (taken w there);
  readers_of = readers_of;
}

pub all_going : {X : Type 0} (r : Ghosts X) (claims : ClaimsModel) (m : AllocMap) (readers : List X) (us : List (Worker X)) → AreHired claims m readers us
    → All (λ x. r.pages x ≡ m.pages) readers → All (IsGoing r claims m) us
all_going {X} r claims m readers us h pages = all_from (IsGoing r claims m) us (λ w there. record {
  job = (h.begun w there).is;
  going = (h.begun w there).going;
  pages = All-contains (λ x. r.pages x ≡ m.pages) readers w.reader pages (subst (λ l. Contains l w.reader) h.readers_of (map_in reader_of us w there));
})

-- a worker behind its work, and as it was before
before : {X : Type 0} (r : Ghosts X) (claims : ClaimsModel) (m : AllocMap) (us vs : List (Worker X)) (v : Worker X) → AreWorked r claims m us vs → Contains vs v
    → (u : Worker X) × Contains us u × HasWorked r claims m u v
before {X} r claims m us vs v h c =
    let long = h.long in
    let within = c.1 in
    let low : c.0 < length us = omega (arith, long, within) in
    (get_or us c.0 v, Contains-get_or us c.0 v low, subst (HasWorked r claims m (get_or us c.0 v)) c.2 (h.each c.0 v low))

some_at : {X : Type 0} (xs : List X) (i : ℕ) → i < length xs → X
some_at [] i low = absurd (omega (arith, low))
some_at (x ∷ xs) i low = x

pub all_read : {X : Type 0} (r : Ghosts X) (claims : ClaimsModel) (m : AllocMap) (old : List X) (us vs : List (Worker X)) → AreHired claims m old us
    → AreWorked r claims m us vs → AreRead r old (map reader_of vs) (first_stop (map stop_of_worker vs))
all_read {X} r claims m old us vs hired h =
    let long : length us ≡ length old = sym (length-map us reader_of) ∙ ap length hired.readers_of in
    let long_now : length vs ≡ length old = h.long ∙ long in
    record {
      stops = map stop_of_worker vs;
      long = length-map vs reader_of ∙ long_now;
      stops_long = length-map vs stop_of_worker ∙ long_now;
      each = λ i d low.
          let inside : i < length us = omega (arith, low, long) in
          let inside_now : i < length vs = omega (arith, low, long_now) in
          let w = some_at us i inside in
          let was : get_or old i d ≡ (get_or us i w).reader = ap (λ l. get_or l i d) (sym hired.readers_of) ∙ get_or-map reader_of us i w d inside in
          let is : get_or (map reader_of vs) i d ≡ (get_or vs i w).reader = get_or-map reader_of vs i w d inside_now in
          let stop : get_or (map stop_of_worker vs) i None ≡ (get_or vs i w).job.stop = get_or-map stop_of_worker vs i w None inside_now in
          let reads : OnlyReads r (get_or us i w).reader (get_or vs i w).reader (get_or vs i w).job.stop = (h.each i w inside).drawn.reads in
          subst (OnlyReads r (get_or old i d) (get_or (map reader_of vs) i d)) (sym stop)
          (subst (λ x. OnlyReads r (get_or old i d) x (get_or vs i w).job.stop) (sym is)
          (subst (λ x. OnlyReads r x (get_or vs i w).reader (get_or vs i w).job.stop) (sym was) reads));
      ends = inl refl;
    }

-- Where none of them stopped.

going_on : {X : Type 0} (vs : List (Worker X)) (v : Worker X) → first_stop (map stop_of_worker vs) ≡ None → Contains vs v → v.job.stop ≡ None
going_on {X} vs v none c = none_stops (map stop_of_worker vs) v.job.stop none (map_in stop_of_worker vs v c)

pub all_done : {X : Type 0} (r : Ghosts X) (claims : ClaimsModel) (m : AllocMap) (us vs : List (Worker X)) → AreWorked r claims m us vs
    → first_stop (map stop_of_worker vs) ≡ None → All (IsDone claims m) (map job_of vs)
all_done {X} r claims m us vs h none = all_from (IsDone claims m) (map job_of vs) (λ j c.
    let v = map_from job_of vs j c in
    let u = before r claims m us vs v.0 h v.1 in
    subst (IsDone claims m) v.2 (record { is = u.2.drawn.job; all = u.2.all (going_on vs v.0 none v.1) }))

pub all_found : {X : Type 0} (r : Ghosts X) (claims : ClaimsModel) (m : AllocMap) (old : List X) (us vs : List (Worker X)) (image : Image) → AreHired claims m old us
    → AreWorked r claims m us vs → first_stop (map stop_of_worker vs) ≡ None → IsMapOf image m → All (λ x. r.image x ≡ Some image) old
    → All (JobFound image m) (map job_of vs)
all_found {X} r claims m old us vs image hired h none of told = all_from (JobFound image m) (map job_of vs) (λ j c.
    let v = map_from job_of vs j c in
    let u = before r claims m us vs v.0 h v.1 in
    let at = All-contains (λ x. r.image x ≡ Some image) old u.0.reader told (subst (λ l. Contains l u.0.reader) hired.readers_of (map_in reader_of us u.0 u.1)) in
    subst (JobFound image m) v.2 (u.2.drawn.holds (going_on vs v.0 none v.1) image at of ((hired.begun u.0 u.1).holds image)).0)
