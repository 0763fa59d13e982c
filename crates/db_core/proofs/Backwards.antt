-- A check that takes items back keeps its snapshot.
use Rattle.law_run.proofs.FirstPage.{back_first}
use Rattle.law_undo.proofs.Views.{sound_forms, sound_rules}
use Rattle.spec_log.proofs.RulesLaws.{older_rules, older_forms}
use Rattle.spec_log.specs.Rules.{KeepsRules, HaveForm}
use Rattle.spec_log.specs.Sound.{IsSound}
use Rattle.std.proofs.Common.{◌≡◌, ℕ, ◌+◌, ◌-◌, ◌/◌, ◌<◌, ◌≤◌, Bool, true, false, List, [], ◌∷◌, length, ◌++◌, drop, get_or, reverse, take, Some, ◌⊎◌, inl, inr, refl, sym, ap, ◌∙◌, subst, arith}
use Rattle.std.specs.Prelude.{if◌then◌else◌, slice_get}
use Rattle.std.proofs.lemmas.List.{reverse-append, length-reverse, take_more, reverse-reverse, take-append-drop}
use Rattle.std.proofs.lemmas.Option.{slice_get-get_or, slice_get_within, slice_get_cases, get_or_from_slice_get}
use Rattle.spec_file.specs.Image.{Image, page}
use Rattle.spec_log.specs.declared.item.Record.{Record}
use Rattle.spec_log.specs.declared.item.Record.TheVariants.{CheckEnd}
use Rattle.spec_log.specs.Items.{tran_of}
use Rattle.spec_log.specs.Log.{is_unfinished, item_at}
use Rattle.spec_log.specs.Images.{take_back, taken_back}
use Rattle.law_undo.proofs.ReadLogs.{shape_take_back}
use Rattle.spec_run.specs.Begun.{Setting, Telling, Reports}
use Rattle.spec_run.specs.Progress.{progress_of}
use Rattle.spec_run.specs.Turns.{AreTold, told_to}
use Rattle.db_core.specs.declared.session.Check.{Check}
use Rattle.db_core.specs.declared.session.Doing.TheVariants.{Checking}
use Rattle.db_core.specs.declared.session.Phase.{Phase}
use Rattle.db_core.specs.declared.session.Phase.TheVariants as phases
use Rattle.db_core.specs.declared.session.Session.{Session}
use Rattle.db_core.specs.States.{whole_log, items_before, is_among, IsSnapshot, IsAt, IsOpen, IsSession}
use Rattle.db_core.specs.Back.{first_back, without, MayGoBack, TakesLast, FindsNone, GoesBack, theirs_among, steps_left}
use Rattle.db_core.specs.Checks.{ReadsPages}
use Rattle.db_core.specs.Reading.{is_back, IsPhaseOf, reads_left}
use Rattle.db_core.proofs.CheckSteps.{checking_due}
use Rattle.db_core.proofs.Left.{fewer_theirs}
use Rattle.db_core.proofs.Phases.{all_left, reads_fewer, reads_phase, reads_behind}
use Rattle.db_core.proofs.Stepped.{item_of}

-- one item more, and it is the newest
pub one_back : (items : List Record) (n : ℕ) (x : Record) → slice_get items n ≡ Some x → first_back items (n + 1) ≡ x ∷ first_back items n
one_back items n x e =
    ap reverse (take_more items n x (slice_get_within items n x e)) ∙ reverse-append (take n items) (get_or items n x ∷ [])
    ∙ ap (λ y. y ∷ first_back items n) (get_or_from_slice_get items n x x e)

-- the log up to an item
pub up_to : (items : List Record) (n : ℕ) (x : Record) → slice_get items n ≡ Some x → reverse items ≡ reverse (drop (n + 1) items) ++ x ∷ first_back items n
up_to items n x e =
    ap reverse (sym (take-append-drop (n + 1) items)) ∙ reverse-append (take (n + 1) items) (drop (n + 1) items)
    ∙ ap (λ older. reverse (drop (n + 1) items) ++ older) (one_back items n x e)

back_more : (ongoing : List ℕ) (items : List Record) (n : ℕ) (x : Record) (image : Image) → slice_get items n ≡ Some x →
    without ongoing items (n + 1) image ≡ without ongoing items n (if is_among ongoing (tran_of x) then take_back (first_back items n) x image else image)
back_more ongoing items n x image e = ap (λ log. taken_back (is_among ongoing) log image) (one_back items n x e)

-- one of theirs is taken back first
pub theirs_goes : (ongoing : List ℕ) (items : List Record) (n : ℕ) (x : Record) (image : Image) → slice_get items n ≡ Some x → is_among ongoing (tran_of x) ≡ true →
    without ongoing items (n + 1) image ≡ without ongoing items n (take_back (first_back items n) x image)
theirs_goes ongoing items n x image e h =
    back_more ongoing items n x image e ∙ ap (λ b. without ongoing items n (if b then take_back (first_back items n) x image else image)) h

-- the item with a number, in a list in the log's order
pub numbered : (items : List Record) (n : ℕ) (x : Record) → 0 < n → n ≤ length items → x ≡ get_or items (n - 1) x → item_at (reverse items) n ≡ Some x
numbered items n x above within is =
    let place : n - 1 + 1 ≡ n = omega (arith, above) in
    let below : n - 1 < length items = omega (arith, above, within) in
    ap (item_at (reverse items)) (sym place) ∙ item_of (reverse items) (n - 1) (subst (λ m. n - 1 < m) (sym (length-reverse items)) below)
    ∙ ap (λ xs. slice_get xs (n - 1)) (reverse-reverse items) ∙ slice_get-get_or items (n - 1) x below ∙ ap Some (sym is)

-- the last item of theirs is taken back
pub went_back : (items : List Record) (old new : Check) (ongoing : List ℕ) (last : ℕ) → ongoing ≡ old.ongoing.items → MayGoBack items old → last ≤ old.place → 0 < last →
    ((image : Image) → without ongoing items old.place image ≡ without ongoing items last image) →
    (0 < last → (x : Record) → slice_get items (last - 1) ≡ Some x → is_among ongoing (tran_of x) ≡ true) →
    new.place ≡ last - 1 → ((x : Record) → slice_get items (last - 1) ≡ Some x → new.pages ≡ take_back (first_back items (last - 1)) x old.pages) →
    new.point ≡ old.point → new.ongoing.items ≡ old.ongoing.items → new.phase ≡ old.phase → GoesBack items old new
went_back items old new ongoing last is may low some same found place pages point keeps phase =
    let inside = may.inside in
    let count : last ≡ new.place + 1 = omega (arith, place, some) in
    elim (slice_get_cases items (last - 1)).1 [
      | inl p ↦ record {
        point = point;
        ongoing = keeps;
        step = inl (record {
          item = p.0;
          stands = ap (slice_get items) place ∙ p.2;
          theirs = subst (λ o. is_among o (tran_of p.0) ≡ true) is (found some p.0 p.2);
          below = omega (arith, low, count);
          last = λ image. ap (λ o. without o items old.place image) (sym is) ∙ same image ∙ ap (λ o. without o items last image) is ∙ ap (λ n. without old.ongoing.items items n image) count;
          pages = pages p.0 p.2 ∙ ap (λ n. take_back (first_back items n) p.0 old.pages) (sym place);
          phase = phase;
        });
      }
      | inr q ↦ absurd (let past = q.0 in omega (arith, past, some, low, inside))
    ]

-- transactions that are the same take back the same
same_back : (c d : ℕ → Bool) → ((t : ℕ) → c t ≡ d t) → (log : List Record) (image : Image) → taken_back c log image ≡ taken_back d log image
same_back c d same [] image = refl
same_back c d same (x ∷ older) image =
    same_back c d same older (if c (tran_of x) then take_back older x image else image)
    ∙ ap (λ b. taken_back d older (if b then take_back older x image else image)) (same (tran_of x))

-- what a check reports stays as it was
step_same : (items : List Record) (old new : Check) → TakesLast items old new ⊎ FindsNone items old new →
    without old.ongoing.items items old.place old.pages ≡ without old.ongoing.items items new.place new.pages
step_same items old new (inl t) =
    let ongoing = old.ongoing.items in
    t.last old.pages ∙ theirs_goes ongoing items new.place t.item old.pages t.stands t.theirs ∙ ap (without ongoing items new.place) (sym t.pages)
step_same items old new (inr f) =
    let ongoing = old.ongoing.items in
    f.none old.pages ∙ sym f.pages ∙ sym (ap (λ n. without ongoing items n new.pages) f.place)

step_long : (items : List Record) (old new : Check) → TakesLast items old new ⊎ FindsNone items old new → length new.pages ≡ length old.pages
step_long items old new (inl t) = ap length t.pages ∙ (shape_take_back (first_back items new.place) t.item old.pages).pages
step_long items old new (inr f) = ap length f.pages

step_low : (items : List Record) (old new : Check) → TakesLast items old new ⊎ FindsNone items old new → new.place ≤ old.place
step_low items old new (inl t) = let below = t.below in omega (arith, below)
step_low items old new (inr f) = let none = f.place in omega (arith, none)

step_undone : (items : List Record) (old new : Check) → TakesLast items old new ⊎ FindsNone items old new → (is_back old.phase ≡ false → old.place ≡ 0) → is_back new.phase ≡ false → new.place ≡ 0
step_undone items old new (inl t) before e = let none = before (ap is_back (sym t.phase) ∙ e) in let below = t.below in omega (arith, none, below)
step_undone items old new (inr f) before e = f.place

-- nothing is taken back from pages that are being read
step_phase : (items : List Record) (old new : Check) → TakesLast items old new ⊎ FindsNone items old new → (is_back old.phase ≡ false → old.place ≡ 0) → IsPhaseOf new.pages new.phase
step_phase items old new (inl t) before = subst (IsPhaseOf new.pages) (sym t.phase) (by_phase old.phase refl)
  where
    by_phase : (phase : Phase) → old.phase ≡ phase → IsPhaseOf new.pages phase
    by_phase phases.Back e = tt
    by_phase phases.Undone e = tt
    by_phase (phases.Scanning map scan) e = absurd (let none = before (ap is_back e) in let below = t.below in omega (arith, none, below))
step_phase items old new (inr f) before = subst (IsPhaseOf new.pages) (sym f.phase) tt

-- no item changes page 0
step_first : (run : Setting) (log : List Record) (old new : Check) → IsSound run.geometry (length run.image) run.opened run.image log →
    TakesLast (reverse (whole_log run log)) old new ⊎ FindsNone (reverse (whole_log run log)) old new → page new.pages 0 ≡ page old.pages 0
step_first run log old new sound (inl t) =
    let g = whole_log run log in
    let items = reverse g in
    let pages = length run.image in
    let newer = reverse (drop (new.place + 1) items) in
    let older = first_back items new.place in
    let whole : g ≡ newer ++ t.item ∷ older = sym (reverse-reverse g) ∙ up_to items new.place t.item t.stands in
    ap (λ (image : Image). page image 0) t.pages
    ∙ back_first run.geometry pages older t.item old.pages
    (older_forms newer (t.item ∷ older) (subst HaveForm whole (sound_forms run.geometry pages run.opened run.image log sound)))
    (older_rules run.geometry pages newer (t.item ∷ older) (subst (KeepsRules run.geometry pages) whole (sound_rules run.geometry pages run.opened run.image log sound)))
step_first run log old new sound (inr f) = ap (λ (image : Image). page image 0) f.pages

-- each step leaves a turn fewer, while items are taken back
pub back_falls : (items : List Record) (old new : Check) → GoesBack items old new → is_back old.phase ≡ true → steps_left items new < steps_left items old
back_falls items old new back fresh = by_step back.step
  where
    by_step : TakesLast items old new ⊎ FindsNone items old new → steps_left items new < steps_left items old
    by_step (inl t) =
        let same : reads_left (length new.pages) new.phase ≡ reads_left (length old.pages) old.phase =
        ap (reads_left (length new.pages)) t.phase ∙ ap (λ n. reads_left n old.phase) (step_long items old new (inl t)) in
        let theirs = ap (λ o. theirs_among o items new.place) back.ongoing in
        let fewer = fewer_theirs old.ongoing.items items new.place old.place t.item t.stands t.theirs t.below in
        omega (arith, same, theirs, fewer)
    by_step (inr f) =
        let after : reads_left (length new.pages) new.phase ≡ length new.pages / 8 + 1 = ap (reads_left (length new.pages)) f.phase in
        let before : reads_left (length old.pages) old.phase ≡ length old.pages / 8 + 2 = all_left (length old.pages) old.phase fresh in
        let long = step_long items old new (inr f) in
        let none : theirs_among new.ongoing.items items new.place ≡ 0 = ap (theirs_among new.ongoing.items items) f.place in
        omega (arith, after, before, long, none)

-- a step keeps the snapshot
pub back_keeps : (run : Setting) (log : List Record) (check next : Check) (telling : Telling) → IsSound run.geometry (length run.image) run.opened run.image log →
    IsSnapshot run log check telling → GoesBack (reverse (whole_log run log)) check next →
    IsSnapshot run log next telling
back_keeps run log check next telling sound snap back =
    let items = reverse (whole_log run log) in
    let chosen = is_unfinished (items_before run log check.point) in
    let point = back.point in
    let placed = snap.placed in
    let low = step_low items check next back.step in
    let same : taken_back chosen (first_back items check.place) check.pages ≡ taken_back chosen (first_back items next.place) next.pages =
    same_back chosen (is_among check.ongoing.items) snap.open_is (first_back items check.place) check.pages ∙ step_same items check next back.step
    ∙ sym (same_back chosen (is_among check.ongoing.items) snap.open_is (first_back items next.place) next.pages) in
    record {
      above = subst (λ n. 0 < n) (sym point) snap.above;
      inside = subst (λ n. n ≤ length (whole_log run log)) (sym point) snap.inside;
      placed = omega (arith, point, placed, low);
      long = step_long items check next back.step ∙ snap.long;
      first = step_first run log check next sound back.step ∙ snap.first;
      open_is = λ t. ap (λ n. is_unfinished (items_before run log n) t) point ∙ snap.open_is t ∙ ap (λ o. is_among o t) (sym back.ongoing);
      reports = snap.reports ∙ ap (Reports check.point) same
          ∙ ap (λ n. Reports n (taken_back (is_unfinished (items_before run log n)) (first_back items next.place) next.pages)) (sym point);
      undone = step_undone items check next back.step snap.undone;
      phase_is = step_phase items check next back.step snap.undone;
    }

-- a turn that reads leaves a turn fewer
pub read_falls : (items : List Record) (old new : Check) → ReadsPages old new → steps_left items new < steps_left items old
read_falls items old new reads =
    let fewer = reads_fewer old.pages old.phase new.phase reads.reads in
    let long = ap (λ (pages : Image). reads_left (length pages) new.phase) reads.pages in
    let theirs = ap (λ o. theirs_among o items new.place) reads.ongoing in
    let rest = ap (theirs_among old.ongoing.items items) reads.place in
    omega (arith, fewer, long, theirs, rest)

-- and keeps the snapshot
pub read_keeps : (run : Setting) (log : List Record) (check next : Check) (telling : Telling) → IsSnapshot run log check telling → ReadsPages check next → IsSnapshot run log next telling
read_keeps run log check next telling snap reads =
    let items = reverse (whole_log run log) in
    let point = reads.point in
    let place = reads.place in
    let placed = snap.placed in record {
      above = subst (λ n. 0 < n) (sym point) snap.above;
      inside = subst (λ n. n ≤ length (whole_log run log)) (sym point) snap.inside;
      placed = omega (arith, point, place, placed);
      long = ap length reads.pages ∙ snap.long;
      first = ap (λ (image : Image). page image 0) reads.pages ∙ snap.first;
      open_is = λ t. ap (λ n. is_unfinished (items_before run log n) t) point ∙ snap.open_is t ∙ ap (λ o. is_among o t) (sym reads.ongoing);
      reports = snap.reports
          ∙ ap (λ n. Reports n (taken_back (is_unfinished (items_before run log n)) (first_back items check.place) check.pages)) (sym point)
          ∙ ap (λ n. Reports next.point (taken_back (is_unfinished (items_before run log next.point)) (first_back items n) check.pages)) (sym place)
          ∙ ap (λ (pages : Image). Reports next.point (taken_back (is_unfinished (items_before run log next.point)) (first_back items next.place) pages)) (sym reads.pages);
      undone = λ e. place ∙ snap.undone (reads_behind check.pages check.phase next.phase reads.reads);
      phase_is = subst (λ (pages : Image). IsPhaseOf pages next.phase) (sym reads.pages) (reads_phase check.pages check.phase next.phase reads.reads);
    }

-- the session behind a turn of its check that keeps the snapshot
pub going_session : (run : Setting) (log : List Record) (s : ℕ) (old new : Session) (check next : Check) → IsSession run log s old → old.doing ≡ Checking check →
    ((telling : Telling) → IsSnapshot run log check telling → IsSnapshot run log next telling) → new.doing ≡ Checking next → new.script.items ≡ old.script.items → new.replies.items ≡ old.replies.items → new.tran ≡ old.tran →
    new.left.items ≡ old.left.items → new.held.items ≡ old.held.items → new.used ≡ old.used → IsSession run log s new
going_session run log s old new check next mine doing keeps going script replies tran left held used =
    let p = progress_of run s log in
    let d = checking_due run log s old check mine doing in
    let at : IsAt run log s (length new.replies.items + 1) new.tran p (Checking next) = (
      d.0 ∙ ap (λ rs. CheckEnd s (length rs + 1) 0 ∷ []) (sym replies),
      keeps p.telling d.1,
      d.2 ∙ ap (λ rs. Some (CheckEnd s (length rs + 1) 3)) (sym replies),
    ) in
    record {
      script_is = mine.script_is ∙ sym script;
      told = subst (AreTold run.geometry (told_to run s log)) (sym replies) mine.told;
      tran_is = mine.tran_is ∙ sym tran;
      doing_is = subst (IsAt run log s (length new.replies.items + 1) new.tran p) (sym going) at;
      opens =
          subst (λ t. (t ≡ 0) ⊎ IsOpen (whole_log run log) t new.left.items new.held.items new.used) (sym tran)
          (subst (λ l. (old.tran ≡ 0) ⊎ IsOpen (whole_log run log) old.tran l new.held.items new.used) (sym left)
          (subst (λ h. (old.tran ≡ 0) ⊎ IsOpen (whole_log run log) old.tran old.left.items h new.used) (sym held)
          (subst (λ u. (old.tran ≡ 0) ⊎ IsOpen (whole_log run log) old.tran old.left.items old.held.items u) (sym used) mine.opens)));
    }
