-- How many turns are left of the statements of sessions.
use Rattle.std.proofs.Common.{◌≡◌, ℕ, zero, suc, ◌+◌, ◌<◌, ◌≤◌, Bool, cond, true, List, [], ◌∷◌, ◌++◌, length, reverse, take, Option, Some, None, refl, sym, ap, ◌∙◌, arith}
use Rattle.std.specs.Prelude.{slice_get, slice_set, count_by}
use Rattle.std.proofs.lemmas.List.{reverse-append, take_all, take-append-le, take-take}
use Rattle.std.proofs.lemmas.List.Elements.{filter_agree}
use Rattle.std.proofs.lemmas.List.Sums.{length-filter, count_by_more_yes, sum_by_push, sum_by-cons, sum_by-take-le}
use Rattle.std.proofs.lemmas.Option.{slice_get_within, get_or_from_slice_get}
use Rattle.spec_log.specs.declared.item.Record.{Record}
use Rattle.spec_log.specs.Items.{tran_of}
use Rattle.spec_log.specs.Log.{is_unfinished}
use Rattle.spec_run.specs.Begun.{Setting}
use Rattle.spec_run.specs.Progress.{Progress, progress_of}
use Rattle.db_core.specs.declared.session.Check.{Check}
use Rattle.db_core.specs.declared.session.Doing.{Doing}
use Rattle.db_core.specs.declared.session.Doing.TheVariants.{Idle, Changing, Ending, Undoing, Checking}
use Rattle.db_core.specs.declared.session.Session.{Session}
use Rattle.db_core.specs.declared.starts.StatementNo.{StatementNo}
use Rattle.db_core.specs.declared.state.State.{State}
use Rattle.db_core.specs.Back.{theirs_among}
use Rattle.db_core.specs.Reading.{reads_left}
use Rattle.spec_run.specs.Bounds.{unfinished_items, most_turns}
use Rattle.db_core.specs.Checks.{Begins, IsFresh}
use Rattle.db_core.specs.Rooms.{turns_left, left_of_statement}
use Rattle.db_core.specs.States.{whole_log, is_among, IsAt}
use Rattle.db_core.specs.Store.{run_is, log_of, IsGood, LeavesOthers}
use Rattle.db_core.proofs.Good.{count_is, whole_is}
use Rattle.db_core.proofs.Stepped.{state_pages}
use Rattle.db_core.proofs.Views.{ongoing_is}

-- one of theirs among more items
pub fewer_theirs : (ongoing : List ℕ) (items : List Record) (n m : ℕ) (x : Record) → slice_get items n ≡ Some x → is_among ongoing (tran_of x) ≡ true → n < m →
    theirs_among ongoing items n < theirs_among ongoing items m
fewer_theirs ongoing items n m x here theirs low =
    let p : Record → Bool = λ r. is_among ongoing (tran_of r) in
    let one : theirs_among ongoing items (n + 1) ≡ theirs_among ongoing items n + 1 =
    count_by_more_yes p items n x (slice_get_within items n x here) (ap p (get_or_from_slice_get items n x x here) ∙ theirs) in
    let rest : count_by p (take (n + 1) (take m items)) ≤ theirs_among ongoing items m = sum_by-take-le (λ r. cond (p r) 1 0) (take m items) (n + 1) in
    let now : count_by p (take (n + 1) (take m items)) ≡ theirs_among ongoing items (n + 1) = ap (count_by p) (take-take (n + 1) m items (omega (arith, low))) in
    omega (arith, one, rest, now)

-- more items leave a session as many turns as it had
left_kept : (run : Setting) (log items added : List Record) (s index t : ℕ) (p : Progress) (x : Session) (d : Doing) → length (whole_log run log) ≡ length items → IsAt run log s index t p d →
    turns_left (items ++ added) x d ≡ turns_left items x d
left_kept run log items added s index t p x Idle size at = refl
left_kept run log items added s index t p x (Changing next later own reply) size at = refl
left_kept run log items added s index t p x (Ending reply) size at = refl
left_kept run log items added s index t p x Undoing size at = refl
left_kept run log items added s index t p x (Checking check) size at =
    let inside = at.1.inside in
    let placed = at.1.placed in
    ap (λ xs. count_by (λ r. is_among check.ongoing.items (tran_of r)) xs + reads_left (length check.pages) check.phase + 1) (take-append-le check.place items added (omega (arith, inside, placed, size)))

get_other : (xs : List Session) (i j : ℕ) (y : Session) → (j ≡ i → ⊥) → slice_get (slice_set xs i y) j ≡ slice_get xs j
get_other [] i j y n = refl
get_other (x ∷ xs) zero zero y n = absurd (n refl)
get_other (x ∷ xs) zero (suc j) y n = refl
get_other (x ∷ xs) (suc i) zero y n = refl
get_other (x ∷ xs) (suc i) (suc j) y n = get_other xs i j y (λ e. n (ap suc e))

-- items that are appended and a session that changes leave each other session where it stands
pub leaves_others : (old new : State) (k : ℕ) (y : Session) (added : List Record) → IsGood old → new.items.items ≡ old.items.items ++ added → new.sessions.items ≡ slice_set old.sessions.items k y →
    LeavesOthers k old new
leaves_others old new k y added good items sessions j differ =
    ap (λ is. left_of_statement is (slice_get new.sessions.items j)) items
    ∙ ap (left_of_statement (old.items.items ++ added)) (ap (λ ss. slice_get ss j) sessions ∙ get_other old.sessions.items k j y differ)
    ∙ by_session (slice_get old.sessions.items j) refl
  where
    by_session : (o : Option Session) → slice_get old.sessions.items j ≡ o → left_of_statement (old.items.items ++ added) o ≡ left_of_statement old.items.items o
    by_session None e = refl
    by_session (Some x) e =
        left_kept (run_is old) (log_of old) old.items.items added (j + 1) (length x.replies.items + 1) x.tran (progress_of (run_is old) (j + 1) (log_of old)) x x.doing
        (count_is old) (good.state.each j x e).doing_is

count_agree : (p q : Record → Bool) → ((x : Record) → p x ≡ q x) → (xs : List Record) → count_by p xs ≡ count_by q xs
count_agree p q same xs = sym (length-filter p xs) ∙ ap length (filter_agree p q same xs) ∙ length-filter q xs

count_reverse : (p : Record → Bool) (xs : List Record) → count_by p (reverse xs) ≡ count_by p xs
count_reverse p [] = refl
count_reverse p (x ∷ xs) =
    let push : count_by p (reverse (x ∷ xs)) ≡ count_by p (reverse xs) + cond (p x) 1 0 =
    ap (count_by p) (reverse-append (x ∷ []) xs) ∙ sum_by_push (λ r. cond (p r) 1 0) (reverse xs) x in
    let rest = count_reverse p xs in
    let front : count_by p (x ∷ xs) ≡ cond (p x) 1 0 + count_by p xs = sum_by-cons (λ r. cond (p r) 1 0) x xs in
    omega (arith, push, rest, front)

-- a check that begins has the items of the unfinished transactions before it, the turn that finds none left, that which reads
-- the maps, one for each extent, and its end
pub fresh_few : (st : State) (place : StatementNo) (check : Check) (x y : Session) (item : Record) → IsGood st → IsFresh (length st.items.items + 1) st.frames st.sessions.items check → Begins place check x y item →
    turns_left (st.items.items ++ item ∷ []) y y.doing ≤ most_turns (run_is st) (log_of st)
fresh_few st place check x y item good fresh b =
    let items = st.items.items in
    let g = whole_log (run_is st) (log_of st) in
    let point = fresh.place in
    let all : check.place ≡ length items = omega (arith, point) in
    let theirs : Record → Bool = λ r. is_among check.ongoing.items (tran_of r) in
    let unfinished : Record → Bool = λ r. is_unfinished g (tran_of r) in
    let count : theirs_among check.ongoing.items (items ++ item ∷ []) check.place ≡ unfinished_items g =
    ap (λ n. count_by theirs (take n (items ++ item ∷ []))) all
    ∙ ap (count_by theirs) (take-append-le (length items) items (item ∷ []) (omega arith) ∙ take_all (length items) items (omega arith))
    ∙ count_agree theirs unfinished (λ r. sym (ongoing_is st check.ongoing.items good fresh.ongoing (tran_of r))) items
    ∙ sym (count_reverse unfinished items) ∙ ap (count_by unfinished) (sym (whole_is st)) in
    let turns = ap (turns_left (items ++ item ∷ []) y) b.doing in
    let reads = ap (reads_left (length check.pages)) fresh.phase in
    let long = ap length fresh.pages_are ∙ state_pages (run_is st) (log_of st) st.frames st.sessions.items st.last st.all st.size good.state in
    omega (arith, count, turns, reads, long)
