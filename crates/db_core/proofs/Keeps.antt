-- An item of one session keeps what the core knows of all.
use Rattle.std.proofs.Common.{◌≡◌, ℕ, zero, suc, ◌+◌, ◌-◌, ◌<◌, ◌≤◌, List, [], ◌∷◌, length, map, reverse, take, Some, ◌⊎◌, inl, inr, refl, sym, ap, ◌∙◌, subst, arith}
use Rattle.std.specs.Prelude.{if◌then◌else◌, slice_get, slice_set}
use Rattle.std.proofs.Math.ListN.{length-set}
use Rattle.std.proofs.lemmas.List.{take-append-le, length-reverse, reverse-append}
use Rattle.std.proofs.lemmas.Bool.{eq-eqb, ne_eqb}
use Rattle.spec_file.specs.Image.{Image}
use Rattle.spec_log.specs.declared.item.Record.{Record}
use Rattle.spec_log.specs.declared.item.Record.TheVariants.{Start, Change, Undo, Commit, Abort, Snap, Failed, CheckEnd}
use Rattle.spec_log.specs.Items.{tran_of}
use Rattle.spec_log.specs.Log.{is_unfinished, greatest_of}
use Rattle.spec_log.specs.Limits.{changes_of, all_changes, all_bytes}
use Rattle.spec_log.specs.Images.{apply, taken_back}
use Rattle.spec_run.specs.Sessions.{session_of}
use Rattle.spec_run.specs.Begun.{Setting, Telling, Reports}
use Rattle.spec_run.specs.Progress.{Progress, progress_of, moved, work_of, MayCome}
use Rattle.spec_run.specs.Turns.{IsLegal, AreTold}
use Rattle.law_run.specs.Laws.{IsStart}
use Rattle.law_run.proofs.Others.{holds_other, left_other}
use Rattle.law_run.specs.Doing.{abort_items}
use Rattle.law_run.proofs.Doing.{IsDoing, StepsTo}
use Rattle.law_run.proofs.Keeps.{apart, progress_other}
use Rattle.law_run.proofs.Legal.{IsRight, legal_right, comes_steps, doing_opens}
use Rattle.db_core.specs.declared.session.Doing.{Doing}
use Rattle.db_core.specs.declared.session.Doing.TheVariants.{Idle, Changing, Ending, Undoing, Checking}
use Rattle.db_core.specs.declared.session.Check.{Check}
use Rattle.db_core.specs.declared.session.Session.{Session}
use Rattle.db_core.specs.States.{whole_log, items_before, IsSnapshot, IsAt, IsOpen, IsSession, IsState}

-- what the law says of an item that may come
pub steps_of : (run : Setting) (log : List Record) (s : ℕ) (x : Record) → IsStart run → IsLegal run log → 0 < s → MayCome (work_of run s log) x →
    StepsTo run log s (work_of run s log) x
steps_of run log s x start legal hs may =
    let right = legal_right run log start legal in
    comes_steps run log s (progress_of run s log) start right.sound right.puts hs (right.doing s) x may

-- its session moves on
pub own_progress : (run : Setting) (log : List Record) (s : ℕ) (x : Record) → session_of log x ≡ s → progress_of run s (x ∷ log) ≡ moved (work_of run s log) x
own_progress run log s x belongs =
    ap (λ b. if b then moved (work_of run s log) x else progress_of run s log) (eq-eqb (session_of log x) s belongs)

changes_other : (x : Record) (g : List Record) (t : ℕ) → (tran_of x ≡ t → ⊥) → changes_of t (x ∷ g) ≡ changes_of t g
changes_other (Start session index tran number changes size takes) g t n = ap (λ b. (if b then changes else 0) + changes_of t g) (ne_eqb tran.0 t n) ∙ omega arith
changes_other (Change tran cell before after) g t n = refl
changes_other (Undo tran change) g t n = refl
changes_other (Commit tran) g t n = refl
changes_other (Abort tran) g t n = refl
changes_other (Snap session index) g t n = refl
changes_other (Failed session index page) g t n = refl
changes_other (CheckEnd session index outcome) g t n = refl

open_other : (x : Record) (g : List Record) (t : ℕ) (left : List ℕ) (held : List _) (used : ℕ) → (tran_of x ≡ t → ⊥) → IsOpen g t left held used → IsOpen (x ∷ g) t left held used
open_other x g t left held used n o = record {
  left_is = ap (map (λ (p : ℕ × Record). p.0)) (left_other x g t n) ∙ o.left_is;
  held_is = λ r. holds_other x g t r n ∙ o.held_is r;
  used_is = changes_other x g t n ∙ o.used_is;
}

-- appending leaves the first items as they are
pub first_items : (g : List Record) (x : Record) (n : ℕ) → n ≤ length g → take n (reverse (x ∷ g)) ≡ take n (reverse g)
first_items g x n le =
    ap (take n) (reverse-append (x ∷ []) g) ∙ take-append-le n (reverse g) (x ∷ []) (subst (λ m. n ≤ m) (sym (length-reverse g)) le)

pub before_more : (run : Setting) (log : List Record) (x : Record) (number : ℕ) → 0 < number → number ≤ length (whole_log run log) →
    items_before run (x ∷ log) number ≡ items_before run log number
before_more run log x number above inside = ap reverse (first_items (whole_log run log) x (number - 1) (omega (arith, inside)))

pub snapshot_more : (run : Setting) (log : List Record) (x : Record) (check : Check) (telling : Telling) → IsSnapshot run log check telling → IsSnapshot run (x ∷ log) check telling
snapshot_more run log x check telling p =
    let g = whole_log run log in
    let inside = p.inside in
    let placed = p.placed in
    let before = before_more run log x check.point p.above inside in
    record {
      above = p.above;
      inside = omega (arith, inside);
      placed = p.placed;
      long = p.long;
      first = p.first;
      open_is = λ t. ap (λ xs. is_unfinished xs t) before ∙ p.open_is t;
      reports = p.reports
          ∙ ap (λ xs. Reports check.point (taken_back (is_unfinished xs) (reverse (take check.place (reverse g))) check.pages)) (sym before)
          ∙ ap (λ xs. Reports check.point (taken_back (is_unfinished (items_before run (x ∷ log) check.point)) (reverse xs) check.pages)) (sym (first_items g x check.place (omega (arith, inside, placed))));
      undone = p.undone;
      phase_is = p.phase_is;
    }

-- another session goes on as it was
at_other : (run : Setting) (log : List Record) (x : Record) (s index t : ℕ) (p : Progress) (doing : Doing) → (0 < t → tran_of x ≡ t → ⊥) →
    IsAt run log s index t p doing → IsAt run (x ∷ log) s index t p doing
at_other run log x s index t p Idle n d = d
at_other run log x s index t p (Changing next later own reply) n d = d
at_other run log x s index t p (Ending reply) n d = d
at_other run log x s index t p Undoing n d = (d.0 ∙ ap (abort_items t) (sym (left_other x (whole_log run log) t (n d.2))), d.1, d.2)
at_other run log x s index t p (Checking check) n d = (d.0, snapshot_more run log x check p.telling d.1, d.2)

-- no transaction of another session is the item's
apart_above : (run : Setting) (log : List Record) (x : Record) (s other : ℕ) (p : Progress) → IsDoing run log other p → StepsTo run log s (work_of run s log) x → (s ≡ other → ⊥) →
    0 < p.tran → tran_of x ≡ p.tran → ⊥
apart_above run log x s other p doing st differ above =
    elim (doing_opens run log other p doing) [
      | inl none ↦ absurd (omega (arith, none, above))
      | inr owns ↦ apart run log x s other p.tran st.own differ owns
    ]

pub other_session : (run : Setting) (log : List Record) (x : Record) (s other : ℕ) (y : Session) → IsRight run log → StepsTo run log s (work_of run s log) x → (s ≡ other → ⊥) →
    IsSession run log other y → IsSession run (x ∷ log) other y
other_session run log x s other y right st differ theirs =
    let p = progress_of run other log in
    let same : progress_of run other (x ∷ log) ≡ p = progress_other run log s other x st.belongs differ in
    let n : 0 < y.tran → tran_of x ≡ y.tran → ⊥ =
    subst (λ t. 0 < t → tran_of x ≡ t → ⊥) theirs.tran_is (apart_above run log x s other p (right.doing other) st differ) in
    record {
      script_is = theirs.script_is;
      told = subst (λ (q : Progress). AreTold run.geometry (reverse q.told) y.replies.items) (sym same) theirs.told;
      tran_is = ap (λ (q : Progress). q.tran) same ∙ theirs.tran_is;
      doing_is = subst (λ (q : Progress). IsAt run (x ∷ log) other (length y.replies.items + 1) y.tran q y.doing) (sym same)
          (at_other run log x other (length y.replies.items + 1) y.tran p y.doing n theirs.doing_is);
      opens = elim theirs.opens [
        | inl none ↦ inl none
        | inr o ↦ elim (zero_or y.tran) [
          | inl none ↦ inl none
          | inr above ↦ inr (open_other x (whole_log run log) y.tran y.left.items y.held.items y.used (n above) o)
        ]
      ];
    }
  where
    zero_or : (t : ℕ) → (t ≡ 0) ⊎ (0 < t)
    zero_or zero = inl refl
    zero_or (suc m) = inr (omega arith)

pub get_set : {X : Type 0} (xs : List X) (i j : ℕ) (v y : X) → slice_get (slice_set xs i v) j ≡ Some y → ((i ≡ j) × (y ≡ v)) ⊎ ((i ≡ j → ⊥) × (slice_get xs j ≡ Some y))
get_set [] i j v y h = absurd (cc)
get_set (x ∷ xs) zero zero v y h = let e : y ≡ v = cc in inl (refl, e)
get_set (x ∷ xs) zero (suc j) v y h = inr ((λ e. omega arith), h)
get_set (x ∷ xs) (suc i) zero v y h = inr ((λ e. omega arith), h)
get_set (x ∷ xs) (suc i) (suc j) v y h = elim (get_set xs i j v y h) [ inl p ↦ inl (ap suc p.0, p.1) | inr p ↦ inr ((λ e. p.0 (omega (arith, e))), p.1) ]

-- an item of session k, and what the core keeps of that session afterwards, keep the whole state
pub keeps : (run : Setting) (log : List Record) (pages : Image) (sessions : List Session) (last all size : ℕ) (k : ℕ) (x : Record) (next : Session) (last_now all_now size_now : ℕ) →
    IsState run log pages sessions last all size → k < length run.scripts → MayCome (work_of run (k + 1) log) x → IsSession run (x ∷ log) (k + 1) next →
    last_now ≡ greatest_of (x ∷ whole_log run log) → all_now ≡ all_changes (x ∷ whole_log run log) → size_now ≡ all_bytes (x ∷ whole_log run log) →
    IsState run (x ∷ log) (apply (whole_log run log) x pages) (slice_set sessions k next) last_now all_now size_now
keeps run log pages sessions last all size k x next last_now all_now size_now state lt may mine last_is all_is size_is =
    let s = k + 1 in
    let right = legal_right run log state.start state.legal in
    let st = steps_of run log s x state.start state.legal (omega arith) may in
    record {
      start = state.start;
      legal = ((s, (omega arith, omega (arith, lt)), may), state.legal);
      pages_are = ap (apply (whole_log run log) x) state.pages_are;
      few = length-set sessions k next ∙ state.few;
      each = λ j y at. elim (get_set sessions k j next y at) [
        | inl e ↦ subst (λ m. IsSession run (x ∷ log) (m + 1) y) e.0 (subst (IsSession run (x ∷ log) s) (sym e.1) mine)
        | inr e ↦ other_session run log x s (j + 1) y right st (λ same. e.0 (omega (arith, same))) (state.each j y e.1)
      ];
      last_is = last_is;
      all_is = all_is;
      size_is = size_is;
    }
