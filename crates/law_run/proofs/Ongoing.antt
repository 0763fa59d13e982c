-- Every unfinished transaction is the open one of a session.
use Rattle.std.proofs.Common.{◌≡◌, ℕ, ◌+◌, ◌<◌, ◌≤◌, true, false, eqb, ltb, ◌||◌, List, [], ◌∷◌, ◌++◌, length, Option, Some, None, inl, inr, refl, sym, ap, ◌∙◌, subst, ◌⊎◌}
use Rattle.std.specs.Prelude.{if◌then◌else◌, slice_get}
use Rattle.std.proofs.lemmas.Bool.{cond_both, cases_eq, eqb-true, eq-eqb, both_ways, not-true}
use Rattle.spec_log.specs.declared.item.Record.{Record}
use Rattle.spec_log.specs.declared.item.Record.TheVariants.{Start, Change, Undo, Commit, Abort, Snap, Failed, CheckEnd}
use Rattle.spec_log.specs.Items.{tran_of}
use Rattle.spec_log.specs.Log.{has_started, has_ended, is_unfinished, greatest_of, rest_of, left_of}
use Rattle.spec_log.specs.Limits.{passes_limit}
use Rattle.spec_log.specs.Images.{damaged_page}
use Rattle.spec_script.specs.declared.statement.Statement.{Statement}
use Rattle.spec_script.specs.declared.reply.Reply.TheVariants.{Done, Refused}
use Rattle.spec_file.specs.declared.data.Resource.{Resource}
use Rattle.spec_script.specs.declared.reply.Reply.{Reply}
use Rattle.spec_plan.specs.declared.plan.Planned.{Planned}
use Rattle.spec_plan.specs.Planned.{planned_size}
use Rattle.spec_plan.specs.Refusals.{is_open, nothing_to_commit, nothing_to_undo, log_full}
use Rattle.spec_run.specs.Shapes.{Refused as Refusing, Opening, Writing, Committing, RollingBack, plain_start, change_item, tran_to_write}
use Rattle.spec_run.specs.Sessions.{session_of, open_after}
use Rattle.spec_words.specs.Takes.{changes_at, takes_at}
use Rattle.spec_words.specs.Views.{End, Gives, Stops}
use Rattle.spec_statements.specs.Statements.{TransactionWord, Begins, Commits, RollsBack, StatementKind, Transacts, Plans, Checks, kind_of}
use Rattle.spec_run.specs.Begun.{Setting, Begun, Becoming, shape_of, view_at, surely, with_memory, refused, by_changes, by_taken, by_end, by_word, by_damage, by_kind, begun_by, begun}
use Rattle.spec_run.specs.Progress.{Progress, progress_of, is_short, at_work, with_statement, script_of, cut_short, moved_to, moved, first_of, MayCome}
use Rattle.law_undo.proofs.Holders.{unfinished_parts}
use Rattle.law_run.specs.Laws.{UnfinishedIsOpen}
use Rattle.law_run.specs.Doing.{change_items, abort_items}
use Rattle.law_run.proofs.Doing.{Idle, Changing, Undoing, Checking}
use Rattle.law_run.proofs.Doing.{IsDoing}
use Rattle.law_run.proofs.Others.{unfinished_other}
use Rattle.law_run.proofs.Keeps.{progress_other}
use Rattle.law_run.proofs.Moved.{moved_tran}
use Rattle.law_run.proofs.Legal.{legal_right, comes_steps}

-- an item of a session whose open transaction is t is of that transaction, or leaves it open
abbrev Stays : ℕ → Record → Type 0
Stays t x = (t ≡ 0) ⊎ ((open_after t x ≡ t) ⊎ (tran_of x ≡ t))

-- whatever comes of a statement
abbrev BegunStays : ℕ → Begun → Type 0
BegunStays t b = (x : Record) → (first_of b.items ≡ Some x) ⊎ (b.want ≡ Some x) → Stays t x

first_stays : (t : ℕ) (due : List Record) (want : Option Record) (y : Record) (rest : List Record) → due ≡ y ∷ rest → Stays t y →
    ((z : Record) → want ≡ Some z → Stays t z) → (x : Record) → (first_of due ≡ Some x) ⊎ (want ≡ Some x) → Stays t x
first_stays t due want y rest items stays short x (inl e) = subst (Stays t) (some_same y x (sym (ap first_of items) ∙ e)) stays
  where
    some_same : (y x : Record) → Some y ≡ Some x → y ≡ x
    some_same y x e = cc
first_stays t due want y rest items stays short x (inr e) = short x e

no_want : (t : ℕ) (z : Record) → None ≡ Some z → Stays t z
no_want t z e = absurd (cc)

some_want : (t : ℕ) (y z : Record) → Stays t y → Some y ≡ Some z → Stays t z
some_want t y z stays e = subst (Stays t) (same e) stays
  where
    same : Some y ≡ Some z → y ≡ z
    same e = cc

-- one Start of the session's transaction, or of one that it begins
refused_stays : (s i t number : ℕ) (b : Begun) → b.items ≡ plain_start s i t number ∷ [] → b.want ≡ Some (plain_start s i t 701) → BegunStays t b
refused_stays s i t number b items want =
    first_stays t b.items b.want (plain_start s i t number) [] items (inr (inr refl)) (λ z e. some_want t (plain_start s i t 701) z (inr (inr refl)) (sym want ∙ e))

-- whatever becomes of a statement
abbrev pub BecomingStays : ℕ → ℕ → ℕ → Becoming → Type 0
BecomingStays s i t b = BegunStays t (begun_by s i t b)

changes_stay : (log : List Record) (s i t : ℕ) (reply : Reply) (takes : List Resource) (changes : List Planned) → BecomingStays s i t (by_changes log t reply takes changes)
changes_stay log s i t reply takes changes =
    let u = tran_to_write log t in
    let becoming = with_memory (Writing u takes changes (eqb t 0)) reply in
    let whole = begun_by s i t becoming in
    let x = Start s i (record { 0 = u }) 0 (length changes) (planned_size changes) takes in
    cond_both (passes_limit log u (length changes) (planned_size changes)) (refused t log_full) becoming (BecomingStays s i t)
    (λ e. refused_stays s i t 9002 (begun_by s i t (refused t log_full)) refl refl)
    (λ e. first_stays t whole.items whole.want x (change_items u changes (eqb t 0)) refl
    (cond_both (eqb t 0) (greatest_of log + 1) t (λ v. (t ≡ 0) ⊎ ((v ≡ t) ⊎ (v ≡ t))) (λ none. inl (eqb-true t 0 none)) (λ some. inr (inr refl)))
    (λ z e. some_want t (plain_start s i t 701) z (inr (inr refl)) e))

end_stays : (log : List Record) (s i t : ℕ) (end : End Reply) → BecomingStays s i t (by_end log t end)
end_stays log s i t (Stops refusal) = refused_stays s i t refusal.number (begun_by s i t (refused t refusal)) refl refl
end_stays log s i t (Gives reply view) = by_takes view.taken
  where
    by_takes : (taken : List Resource) → BecomingStays s i t (by_taken log t reply view taken)
    by_takes [] = refused_stays s i t 0 (begun_by s i t (by_taken log t reply view [])) refl refl
    by_takes (r ∷ taken) = changes_stay log s i t reply (takes_at view) (changes_at view)

damage_stays : (run : Setting) (log : List Record) (s i t : ℕ) (damage : Option ℕ) → BecomingStays s i t (by_damage run log damage)
damage_stays run log s i t None = first_stays t _ None (Snap s i) (CheckEnd s i 0 ∷ []) refl (inr (inl refl)) (no_want t)
damage_stays run log s i t (Some p) = first_stays t _ None (Snap s i) (CheckEnd s i 2 ∷ []) refl (inr (inl refl)) (no_want t)

word_stays : (log : List Record) (s i t : ℕ) (word : TransactionWord) → BecomingStays s i t (by_word log t word)
word_stays log s i t Begins =
    let fresh = greatest_of log + 1 in
    cond_both (eqb t 0) (surely (Opening fresh) Done) (surely (Refusing t 60001) (Refused is_open)) (BecomingStays s i t)
    (λ e. first_stays t _ None (plain_start s i fresh 0) [] refl (inl (eqb-true t 0 e)) (no_want t))
    (λ e. first_stays t _ None (plain_start s i t 60001) [] refl (inr (inr refl)) (no_want t))
word_stays log s i t Commits =
    cond_both (eqb t 0) (surely (Refusing t 3902) (Refused nothing_to_commit)) (surely (Committing t) Done) (BecomingStays s i t)
    (λ e. first_stays t _ None (plain_start s i t 3902) [] refl (inr (inr refl)) (no_want t))
    (λ e. first_stays t _ None (plain_start s i t 0) (change_items t [] true) refl (inr (inr refl)) (no_want t))
word_stays log s i t RollsBack =
    let left = left_of t log in
    cond_both (eqb t 0) (surely (Refusing t 3903) (Refused nothing_to_undo)) (surely (RollingBack t left) Done) (BecomingStays s i t)
    (λ e. first_stays t _ None (plain_start s i t 3903) [] refl (inr (inr refl)) (no_want t))
    (λ e. first_stays t _ None (plain_start s i t 0) (abort_items t left) refl (inr (inr refl)) (no_want t))

kind_stays : (run : Setting) (log : List Record) (s i t : ℕ) (kind : StatementKind) → BecomingStays s i t (by_kind run log t kind)
kind_stays run log s i t (Transacts word) = word_stays (log ++ run.opened) s i t word
kind_stays run log s i t (Plans plan) = end_stays (log ++ run.opened) s i t (plan (view_at run log t)).ending
kind_stays run log s i t Checks = damage_stays run log s i t (damaged_page run.opened run.image)

begun_stays : (run : Setting) (log : List Record) (s i t : ℕ) (st : Statement) → BegunStays t (begun run log s i t st)
begun_stays run log s i t st = kind_stays run log s i t (kind_of (shape_of run) st)

idle_stays : (run : Setting) (log : List Record) (s : ℕ) (p : Progress) → p.due ≡ [] → p.want ≡ None → (x : Record) → MayCome (at_work run log s p p.due) x → Stays p.tran x
idle_stays run log s p due want x may =
    by_statement (slice_get (script_of run.scripts s) (length p.told)) (subst (λ d. MayCome (at_work run log s p d) x) due may)
  where
    by_statement : (o : Option Statement) → MayCome (with_statement run log s p o) x → Stays p.tran x
    by_statement None (inl e) = no_want p.tran x (sym (ap first_of due) ∙ e)
    by_statement None (inr e) = no_want p.tran x (sym want ∙ e)
    by_statement (Some st) m = begun_stays run log s (length p.told + 1) p.tran st x m

busy_stays : (run : Setting) (log : List Record) (s : ℕ) (p : Progress) (y : Record) (rest : List Record) → p.due ≡ y ∷ rest → Stays p.tran y →
    ((z : Record) → p.want ≡ Some z → Stays p.tran z) → (x : Record) → MayCome (at_work run log s p p.due) x → Stays p.tran x
busy_stays run log s p y rest due stays short x may =
    first_stays p.tran p.due p.want y rest due stays short x (subst (λ d. MayCome (at_work run log s p d) x → MayCome p x) (sym due) (λ m. m) may)

comes_stays : (run : Setting) (log : List Record) (s : ℕ) (p : Progress) → IsDoing run log s p → (x : Record) → MayCome (at_work run log s p p.due) x → Stays p.tran x
comes_stays run log s p (Idle due want opens) = idle_stays run log s p due want
comes_stays run log s p (Changing [] false due want owns still planned) = idle_stays run log s p due want
comes_stays run log s p (Changing [] true due want owns still planned) =
    busy_stays run log s p (Commit (record { 0 = p.tran })) [] due (inr (inr refl)) (λ z e. no_want p.tran z (sym want ∙ e))
comes_stays run log s p (Changing (c ∷ changes) own due want owns still planned) =
    busy_stays run log s p (change_item p.tran c) (change_items p.tran changes own) due (inr (inr refl)) (λ z e. no_want p.tran z (sym want ∙ e))
comes_stays run log s p (Undoing due want owns) = by_left (left_of p.tran (log ++ run.opened)) due
  where
    by_left : (left : List (ℕ × Record)) → p.due ≡ abort_items p.tran left → (x : Record) → MayCome (at_work run log s p p.due) x → Stays p.tran x
    by_left [] d = busy_stays run log s p (Abort (record { 0 = p.tran })) [] d (inr (inr refl)) (λ z e. no_want p.tran z (sym want ∙ e))
    by_left (q ∷ others) d =
        busy_stays run log s p (Undo (record { 0 = p.tran }) (record { 0 = q.0 })) (abort_items p.tran others) d (inr (inr refl)) (λ z e. no_want p.tran z (sym want ∙ e))
comes_stays run log s p (Checking index outcome due want forms opens) =
    busy_stays run log s p (CheckEnd s index outcome) [] due (inr (inl refl)) (λ z e. some_want p.tran (CheckEnd s index 3) z (inr (inl refl)) (sym want ∙ e))

-- what the session works at has its open transaction
work_tran : (run : Setting) (log : List Record) (s : ℕ) (p : Progress) → (at_work run log s p p.due).tran ≡ p.tran
work_tran run log s p = by_due p.due
  where
    by_statement : (o : Option Statement) → (with_statement run log s p o).tran ≡ p.tran
    by_statement None = refl
    by_statement (Some st) = refl

    by_due : (due : List Record) → (at_work run log s p due).tran ≡ p.tran
    by_due [] = by_statement (slice_get (script_of run.scripts s) (length p.told))
    by_due (x ∷ due) = refl

-- the open transaction behind an item of the session
pub own_tran : (run : Setting) (log : List Record) (s : ℕ) (x : Record) → session_of log x ≡ s → (progress_of run s (x ∷ log)).tran ≡ open_after (progress_of run s log).tran x
own_tran run log s x belongs =
    let p = progress_of run s log in
    let w = at_work run log s p p.due in
    ap (λ b. (if b then moved w x else p).tran) (eq-eqb (session_of log x) s belongs)
    ∙ cond_both (is_short x) (cut_short w x) (moved_to w x (rest_of w.due)) (λ q. q.tran ≡ open_after w.tran x) (λ e. refl) (λ e. moved_tran w x (rest_of w.due))
    ∙ ap (λ t. open_after t x) (work_tran run log s p)

-- a session has the transaction open
abbrev IsOpenIn : Setting → List Record → ℕ → Type 0
IsOpenIn run log u = (s : ℕ) × (0 < s) × (s ≤ length run.scripts) × ((progress_of run s log).tran ≡ u)

-- an item that isn't the Start of the transaction, nor ends it
kept_open : (run : Setting) (log : List Record) (s u : ℕ) (x : Record) → session_of log x ≡ s → Stays (progress_of run s log).tran x → (u ≡ 0 → ⊥) →
    (open_after u x ≡ u) ⊎ (tran_of x ≡ u → ⊥) → IsOpenIn run log u → IsOpenIn run (x ∷ log) u
kept_open run log s u x belongs stays above differ before =
    elim (cases_eq s before.0) [
      | inl e ↦ (
        before.0,
        before.1,
        before.2,
        own_tran run log before.0 x (belongs ∙ e)
            ∙ ap (λ t. open_after t x) before.3 ∙ still (subst (λ t. Stays t x) (ap (λ n. (progress_of run n log).tran) e ∙ before.3) stays) differ,
      )
      | inr n ↦ (before.0, before.1, before.2, ap (λ (q : Progress). q.tran) (progress_other run log s before.0 x belongs n) ∙ before.3)
    ]
  where
    still : Stays u x → (open_after u x ≡ u) ⊎ (tran_of x ≡ u → ⊥) → open_after u x ≡ u
    still stays (inl e) = e
    still (inl none) (inr n) = absurd (above none)
    still (inr (inl e)) (inr n) = e
    still (inr (inr own)) (inr n) = absurd (n own)

-- an unfinished transaction behind an item was unfinished before, or the item is its Start
open_behind : (run : Setting) (log : List Record) (s u : ℕ) (x : Record) → 0 < s → s ≤ length run.scripts → session_of log x ≡ s → Stays (progress_of run s log).tran x →
    (is_unfinished (log ++ run.opened) u ≡ true → IsOpenIn run log u) → is_unfinished (x ∷ (log ++ run.opened)) u ≡ true → IsOpenIn run (x ∷ log) u
open_behind run log s u x above within belongs stays before h = by_item x belongs stays h
  where
    g : List Record
    g = log ++ run.opened

    goes_on : (y : Record) → session_of log y ≡ s → Stays (progress_of run s log).tran y → is_unfinished (y ∷ g) u ≡ true → is_unfinished g u ≡ true →
        (open_after u y ≡ u) ⊎ (tran_of y ≡ u → ⊥) → IsOpenIn run (y ∷ log) u
    goes_on y b st h was differ =
        kept_open run log s u y b st (λ e. both_ways (ltb 0 u) (ap (ltb 0) e) (unfinished_parts (y ∷ g) u h).above) differ (before was)

    ended : (y : Record) → is_unfinished (y ∷ g) u ≡ true → has_ended (y ∷ g) u ≡ true → ⊥
    ended y h e = both_ways (has_ended (y ∷ g) u) (not-true (has_ended (y ∷ g) u) (unfinished_parts (y ∷ g) u h).not_ended) e

    by_item : (y : Record) → session_of log y ≡ s → Stays (progress_of run s log).tran y → is_unfinished (y ∷ g) u ≡ true → IsOpenIn run (y ∷ log) u
    by_item (Start session index tran number changes size takes) b st h =
        let y = Start session index tran number changes size takes in
        elim (cases_eq tran.0 u) [
          | inl e ↦ (s, above, within, own_tran run log s y b ∙ e)
          | inr n ↦ goes_on y b st h (sym (unfinished_other y g u n) ∙ h) (inr n)
        ]
    by_item (Change tran cell before after) b st h = goes_on (Change tran cell before after) b st h h (inl refl)
    by_item (Undo tran change) b st h = goes_on (Undo tran change) b st h h (inl refl)
    by_item (Commit tran) b st h =
        let n : tran.0 ≡ u → ⊥ = λ e. ended (Commit tran) h (ap (λ b. b || has_ended g u) (eq-eqb tran.0 u e)) in
        goes_on (Commit tran) b st h (sym (unfinished_other (Commit tran) g u n) ∙ h) (inr n)
    by_item (Abort tran) b st h =
        let n : tran.0 ≡ u → ⊥ = λ e. ended (Abort tran) h (ap (λ b. b || has_ended g u) (eq-eqb tran.0 u e)) in
        goes_on (Abort tran) b st h (sym (unfinished_other (Abort tran) g u n) ∙ h) (inr n)
    by_item (Snap session index) b st h = goes_on (Snap session index) b st h h (inl refl)
    by_item (Failed session index page) b st h = goes_on (Failed session index page) b st h h (inl refl)
    by_item (CheckEnd session index outcome) b st h = goes_on (CheckEnd session index outcome) b st h h (inl refl)

pub unfinished_is_open : UnfinishedIsOpen
unfinished_is_open run [] start legal none u h =
    absurd (both_ways (has_started run.opened u) (ap (λ g. has_started g u) none) (unfinished_parts run.opened u h).started)
unfinished_is_open run (x ∷ log) start legal none u h =
    let s = legal.0.0 in
    let right = legal_right run log start legal.1 in
    let p = progress_of run s log in
    let st = comes_steps run log s p start right.sound right.puts legal.0.1.0 (right.doing s) x legal.0.2 in
    open_behind run log s u x legal.0.1.0 legal.0.1.1 st.belongs (comes_stays run log s p (right.doing s) x legal.0.2)
    (unfinished_is_open run log start legal.1 none u) h
