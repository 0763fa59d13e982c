-- A turn where memory doesn't run out: the session rests, appends the item that is due, or its check goes on.
use Rattle.std.proofs.Common.{◌≡◌, ℕ, ◌+◌, ◌≤◌, ◌==◌, ◌&&◌, ◌||◌, Bool, true, false, List, [], ◌∷◌, length, Some, None, refl, sym, ap, ◌∙◌, subst, arith, inl, inr}
use Rattle.std.specs.Prelude.{if◌then◌else◌}
use Rattle.std.specs.List.{list_any}
use Rattle.std.proofs.lemmas.Bool.{false≢true, both_ways, and_parts, eqb-true, eq-eqb, false_from_ne_true}
use Rattle.spec_log.specs.declared.item.Record.{Record}
use Rattle.spec_log.specs.declared.item.Record.TheVariants.{CheckEnd}
use Rattle.spec_log.specs.Log.{rest_of}
use Rattle.spec_run.specs.Entries.{Entry, Item, items_of}
use Rattle.spec_run.specs.Begun.{Setting, Telling}
use Rattle.spec_run.specs.Progress.{Progress, is_short, moved, cut_short, moved_to, progress_of, work_of, next_of, MayCome}
use Rattle.spec_run.specs.Turns.{Turn, Rests, Appends, EndsAtOnce, Goes, Marks, Run}
use Rattle.law_fixed.specs.CheckTurns.{goes_on, check_turns}
use Rattle.law_fixed.specs.Laws.{IsNeverShort}
use Rattle.law_fixed.proofs.Due.{done_by, more_done, end_place, works_plain, works_told}

pub data Step (run : Setting) (s : ℕ) (old new : List Entry) (turn : Turn run s old new) : Type 0 where
  Rested : next_of run s (items_of old) ≡ None → items_of new ≡ items_of old → ((at i : ℕ) → goes_on at i turn ≡ false) → Step run s old new turn
  Put : (x : Record) → next_of run s (items_of old) ≡ Some x → items_of new ≡ x ∷ items_of old → is_short x ≡ false → ((at i : ℕ) → goes_on at i turn ≡ false)
      → Step run s old new turn
  Went : (index outcome : ℕ) → next_of run s (items_of old) ≡ Some (CheckEnd s index outcome) → items_of new ≡ items_of old
      → ((at i : ℕ) → goes_on at i turn ≡ ((s == at) && (index == i))) → Step run s old new turn

never : (b c : Bool) → (b || c) ≡ false → (b ≡ false) × (c ≡ false)
never false c e = (refl, e)
never true c e = absurd (cc)

put_step : (run : Setting) (s : ℕ) (old new : List Entry) (x : Record) (come : MayCome (work_of run s (items_of old)) x) (more : new ≡ Item x ∷ old) → IsNeverShort new →
    Step run s old new (Appends x come more)
put_step run s old new x (inl due) more long =
    let grown = ap items_of more in
    let whole : list_any is_short (x ∷ items_of old) ≡ false = sym (ap (list_any is_short) grown) ∙ long in
    Put x due grown (never (is_short x) (list_any is_short (items_of old)) whole).0 (λ at i. refl)
put_step run s old new x (inr want) more long =
    let grown = ap items_of more in
    let whole : list_any is_short (x ∷ items_of old) ≡ false = sym (ap (list_any is_short) grown) ∙ long in
    absurd (both_ways (is_short x) (never (is_short x) (list_any is_short (items_of old)) whole).0 ((works_plain run s (items_of old)).wants x want))

pub step : (run : Setting) (s : ℕ) (old new : List Entry) (turn : Turn run s old new) → IsNeverShort new → Step run s old new turn
step run s old new (Rests done same) long = Rested done (ap items_of same) (λ at i. refl)
step run s old new (Appends x come more) long = put_step run s old new x come more long
step run s old new (EndsAtOnce index come more) long =
    absurd (false≢true (sym (sym (ap (λ entries. list_any is_short (items_of entries)) more) ∙ long)))
step run s old new (Goes index checking same) long = Went index checking.outcome checking.is_next (ap items_of same) (λ at i. refl)
step run s old new (Marks index checking first more) long = Went index checking.outcome checking.is_next (ap items_of more) (λ at i. refl)

-- where memory didn't run out after a turn, it hadn't before
turn_never : (run : Setting) (s : ℕ) (old new : List Entry) → Turn run s old new → IsNeverShort new → IsNeverShort old
turn_never run s old new (Rests done same) long = subst IsNeverShort same long
turn_never run s old new (Appends x come more) long = (never (is_short x) (list_any is_short (items_of old)) (sym (ap (λ entries. list_any is_short (items_of entries)) more) ∙ long)).1
turn_never run s old new (EndsAtOnce index come more) long = absurd (false≢true (sym (sym (ap (λ entries. list_any is_short (items_of entries)) more) ∙ long)))
turn_never run s old new (Goes index checking same) long = subst IsNeverShort same long
turn_never run s old new (Marks index checking first more) long = sym (ap (λ entries. list_any is_short (items_of entries)) more) ∙ long

pub run_never : (run : Setting) (old : List Entry) (turns : List ℕ) (new : List Entry) → Run run old turns new → IsNeverShort new → IsNeverShort old
run_never run old [] new made long = subst IsNeverShort made long
run_never run old (s ∷ turns) new made long = turn_never run s old made.0 made.1 (run_never run made.0 turns new made.2 long)

-- a turn takes back nothing that was told
step_more : (run : Setting) (s at : ℕ) (old new : List Entry) (turn : Turn run at old new) → Step run at old new turn → done_by run s (items_of old) ≤ done_by run s (items_of new)
step_more run s at old new turn (Rested done same none) = let e = ap (done_by run s) same in omega (arith, e)
step_more run s at old new turn (Put x due grown long none) =
    let e = ap (done_by run s) grown in
    let m = more_done run s x (items_of old) in
    omega (arith, e, m)
step_more run s at old new turn (Went index outcome next same goes) = let e = ap (done_by run s) same in omega (arith, e)

-- a check that has ended doesn't go on
step_past : (run : Setting) (s i at : ℕ) (old new : List Entry) (turn : Turn run at old new) → Step run at old new turn → i ≤ done_by run s (items_of old) → goes_on s i turn ≡ false
step_past run s i at old new turn (Rested done same none) past = none s i
step_past run s i at old new turn (Put x due grown long none) past = none s i
step_past run s i at old new turn (Went index outcome next same goes) past =
    goes s i ∙ false_from_ne_true ((at == s) && (index == i)) (λ both.
    let parts = and_parts (at == s) (index == i) both in
    let here = eqb-true at s parts.0 in
    let place = (end_place run at (items_of old) index outcome next).0 in
    let now = eqb-true index i parts.1 in
    let same_session = ap (λ t. done_by run t (items_of old)) here in
    omega (arith, place, now, same_session, past))

-- how many turns a check takes, by the first of them
pub count_more : (s i : ℕ) (run : Setting) (old : List Entry) (at : ℕ) (turns : List ℕ) (new : List Entry) (made : Run run old (at ∷ turns) new) (b : Bool) → goes_on s i made.1 ≡ b →
    check_turns s i run old (at ∷ turns) new made ≡ (if b then 1 else 0) + check_turns s i run made.0 turns new made.2
count_more s i run old at turns new made b e = ap (λ c. (if c then 1 else 0) + check_turns s i run made.0 turns new made.2) e

pub none_past : (run : Setting) (s i : ℕ) (old : List Entry) (turns : List ℕ) (new : List Entry) (made : Run run old turns new) → IsNeverShort new → i ≤ done_by run s (items_of old) →
    check_turns s i run old turns new made ≡ 0
none_past run s i old [] new made long past = refl
none_past run s i old (at ∷ turns) new made long past =
    let taken = step run at old made.0 made.1 (run_never run made.0 turns new made.2 long) in
    let more = step_more run s at old made.0 made.1 taken in
    let now = count_more s i run old at turns new made false (step_past run s i at old made.0 made.1 taken past) in
    let rest = none_past run s i made.0 turns new made.2 long (omega (arith, more, past)) in
    omega (arith, now, rest)

done_moved : (w : Progress) (x : Record) (rest : List Record) (b : Bool) → b ≡ false → rest ≡ [] → length (if b then cut_short w x else moved_to w x rest).told ≡ length w.told + 1
done_moved w x [] false long none = omega arith
done_moved w x (y ∷ rest) b long none = absurd (cc)
done_moved w x rest true long none = absurd (cc)

done_own : (p : Progress) (w : Progress) (b : Bool) → b ≡ true → length (if b then w else p).told ≡ length w.told
done_own p w true own = refl
done_own p w false own = absurd (cc)

pub eqb_self : (s : ℕ) → (s == s) ≡ true
eqb_self s = eq-eqb s s refl

-- the end of a check tells of it
pub ended : (run : Setting) (s : ℕ) (older : List Record) (index outcome : ℕ) → next_of run s older ≡ Some (CheckEnd s index outcome) → is_short (CheckEnd s index outcome) ≡ false →
    done_by run s (CheckEnd s index outcome ∷ older) ≡ index
ended run s older index outcome next long =
    let x = CheckEnd s index outcome in
    let w = work_of run s older in
    let place = end_place run s older index outcome next in
    let at = place.0 in
    let now = done_own (progress_of run s older) (moved w x) (s == s) (eqb_self s) in
    let after = done_moved w x (rest_of w.due) (is_short x) long place.1 in
    let told = ap (λ (told : List Telling). length told) (works_told run s older) in
    omega (arith, at, now, after, told)
