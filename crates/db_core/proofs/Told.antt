-- How many statements are told to be finished.
use Rattle.std.proofs.Common.{◌≡◌, ℕ, ◌+◌, ◌<◌, ◌≤◌, eqb, List, [], ◌∷◌, length, sym, ap, ◌∙◌, subst, arith}
use Rattle.std.proofs.lemmas.Bool.{cond_both}
use Rattle.spec_log.specs.declared.item.Record.{Record}
use Rattle.spec_log.specs.Log.{rest_of}
use Rattle.spec_run.specs.Sessions.{session_of}
use Rattle.spec_run.specs.Begun.{Setting}
use Rattle.spec_run.specs.Progress.{Progress, progress_of, at_work, work_of, MayCome, is_short, cut_short, moved_to, moved}
use Rattle.spec_run.specs.Entries.{Entry, Item, Undone}
use Rattle.spec_run.specs.Turns.{IsLegal, Turn, Rests, Appends, EndsAtOnce, Goes, Marks}
use Rattle.law_run.specs.Laws.{IsStart}
use Rattle.db_core.specs.States.{entries_of}
use Rattle.db_core.proofs.Keeps.{own_progress, steps_of}
use Rattle.db_core.proofs.Good.{items_entries}
use Rattle.db_core.proofs.Moves.{work_told}
use Rattle.db_core.specs.Store.{told_count}

-- none finished more, or one
abbrev IsOneMore : ℕ → ℕ → Type 0
IsOneMore n m = (n ≤ m) × (m ≤ n + 1)

moved_told : (w : Progress) (x : Record) (rest : List Record) → IsOneMore (length w.told) (length (moved_to w x rest).told)
moved_told w x [] = (omega arith, omega arith)
moved_told w x (y ∷ rest) = (omega arith, omega arith)

short_told : (w : Progress) (x : Record) → IsOneMore (length w.told) (length (moved w x).told)
short_told w x =
    cond_both (is_short x) (cut_short w x) (moved_to w x (rest_of w.due)) (λ q. IsOneMore (length w.told) (length q.told)) (λ e. (omega arith, omega arith)) (λ e. moved_told w x (rest_of w.due))

-- one item finishes one statement at most
pub told_step : (run : Setting) (s : ℕ) (x : Record) (log : List Record) → (told_count run s log ≤ told_count run s (x ∷ log)) × (told_count run s (x ∷ log) ≤ told_count run s log + 1)
told_step run s x log =
    let p = progress_of run s log in
    let w = at_work run log s p p.due in
    let same : length w.told ≡ length p.told = ap length (work_told run log s) in
    let step = short_told w x in
    let low = step.0 in
    let high = step.1 in
    cond_both (eqb (session_of log x) s) (moved w x) p (λ q. IsOneMore (length p.told) (length q.told)) (λ e. (omega (arith, same, low), omega (arith, same, high))) (λ e. (omega arith, omega arith))

-- a session that owes nothing behind an item of its own has finished one statement more
pub idle_told : (run : Setting) (s : ℕ) (x : Record) (log : List Record) → session_of log x ≡ s → (progress_of run s (x ∷ log)).due ≡ [] →
    told_count run s (x ∷ log) ≡ told_count run s log + 1
idle_told run s x log belongs due =
    let w = work_of run s log in
    let now : progress_of run s (x ∷ log) ≡ moved w x = own_progress run log s x belongs in
    let same : length w.told ≡ length (progress_of run s log).told = ap length (work_told run log s) in
    let more = moved_idle w x (ap (λ (q : Progress). q.due) (sym now) ∙ due) in
    ap (λ (q : Progress). length q.told) now ∙ more ∙ ap (λ n. n + 1) same
  where
    moved_to_idle : (w : Progress) (x : Record) (rest : List Record) → (moved_to w x rest).due ≡ [] → length (moved_to w x rest).told ≡ length w.told + 1
    moved_to_idle w x [] e = omega arith
    moved_to_idle w x (y ∷ rest) e = absurd (cc)

    moved_idle : (w : Progress) (x : Record) → (moved w x).due ≡ [] → length (moved w x).told ≡ length w.told + 1
    moved_idle w x =
        cond_both (is_short x) (cut_short w x) (moved_to w x (rest_of w.due)) (λ q. q.due ≡ [] → length q.told ≡ length w.told + 1) (λ e h. omega arith) (λ e h. moved_to_idle w x (rest_of w.due) h)

-- the item of a turn is of its session
pub turn_belongs : (run : Setting) (log : List Record) (s : ℕ) (item : Record) (new : List Entry) → IsStart run → IsLegal run log → 0 < s → Turn run s (entries_of log) new → new ≡ entries_of (item ∷ log) → session_of log item ≡ s
turn_belongs run log s item new start legal above (Rests none e) is = absurd (longer (sym e ∙ is))
  where
    longer : {A : Type 0} {x : A} {xs : List A} → xs ≡ x ∷ xs → ⊥
    longer e = let n = ap length e in omega (arith, n)
turn_belongs run log s item new start legal above (Appends x may e) is =
    let same : x ≡ item = (let f : Item x ∷ entries_of log ≡ Item item ∷ entries_of log = sym e ∙ is in cc) in
    let may_come : MayCome (work_of run s log) x = subst (λ l. MayCome (work_of run s l) x) (items_entries log) may in
    subst (λ y. session_of log y ≡ s) same (steps_of run log s x start legal above may_come).belongs
turn_belongs run log s item new start legal above (EndsAtOnce index may e) is = absurd (longer (sym e ∙ is))
  where
    longer : {A : Type 0} {x y z : A} {xs : List A} → x ∷ (y ∷ xs) ≡ z ∷ xs → ⊥
    longer e = let n = ap length e in omega (arith, n)
turn_belongs run log s item new start legal above (Goes index checking e) is = absurd (longer (sym e ∙ is))
  where
    longer : {A : Type 0} {x : A} {xs : List A} → xs ≡ x ∷ xs → ⊥
    longer e = let n = ap length e in omega (arith, n)
turn_belongs run log s item new start legal above (Marks index checking first e) is = absurd (let f : Undone s index ∷ entries_of log ≡ Item item ∷ entries_of log = sym e ∙ is in cc)
