-- A step of a statement that is under way fits into the pages, and keeps the core's state.
use Rattle.std.proofs.Common.{◌≡◌, ℕ, zero, suc, ◌+◌, ◌-◌, ◌<◌, ◌≤◌, Bool, true, false, eqb, ltb, leb, List, [], ◌∷◌, ◌++◌, length, map, reverse, Some, None, inl, inr, refl, sym, ap, ◌∙◌, subst, arith}
use Rattle.std.specs.Prelude.{if◌then◌else◌, slice_get}
use Rattle.std.proofs.lemmas.List.{reverse-append, length-reverse, reverse-reverse}
use Rattle.std.proofs.lemmas.Bool.{eq-eqb, ne_eqb, eqb-true, cond_both, cases_Bool, and_parts, leb-true, ltb-true, ltb-false, both_ways}
use Rattle.spec_file.specs.declared.geometry.Geometry.{Geometry}
use Rattle.spec_file.specs.Image.{Image}
use Rattle.spec_file.specs.Roles.{role_of}
use Rattle.spec_log.specs.declared.item.Cell.{Cell}
use Rattle.spec_log.specs.declared.item.Cell.TheVariants.{Bytes, Bit}
use Rattle.spec_log.specs.declared.item.Record.{Record}
use Rattle.spec_log.specs.declared.item.Record.TheVariants.{Start, Change, Undo, Commit, Abort, Snap, Failed, CheckEnd}
use Rattle.spec_log.specs.Items.{has_cell_form}
use Rattle.spec_log.specs.Log.{item_at, left_of}
use Rattle.spec_log.specs.Limits.{all_changes, all_bytes}
use Rattle.spec_log.specs.Cover.{IsCovered, byte_guard_by, bit_guard_by}
use Rattle.spec_log.specs.Rules.{KeepsRules, HaveForm}
use Rattle.spec_log.specs.Images.{page_of_cell, put_before, apply}
use Rattle.law_undo.proofs.Guards.{guarded_inside}
use Rattle.law_undo.proofs.ReadLogs.{cell_form}
use Rattle.law_undo.proofs.Views.{sound_rules, sound_forms}
use Rattle.spec_plan.specs.declared.plan.Planned.{Planned}
use Rattle.spec_run.specs.Shapes.{change_item}
use Rattle.spec_run.specs.Begun.{Setting, Answers}
use Rattle.spec_run.specs.Progress.{Progress, progress_of, work_of, MayCome}
use Rattle.law_run.specs.Laws.{IsStart}
use Rattle.spec_run.specs.Turns.{IsLegal}
use Rattle.law_run.specs.Doing.{change_items}
use Rattle.law_run.proofs.Left.{AreNamed, left_named}
use Rattle.law_run.proofs.Legal.{legal_right}
use Rattle.law_undo.proofs.Shapes.{final_shape}
use Rattle.spec_script.specs.declared.reply.Reply.{Reply}
use Rattle.db_core.specs.declared.session.Doing.{Doing}
use Rattle.db_core.specs.declared.session.Doing.TheVariants.{Idle, Changing, Ending, Undoing, Checking}
use Rattle.db_core.specs.declared.session.Session.{Session}
use Rattle.vol_pool.specs.Cells.{FitsCell, MayPutBack, MayUndo}
use Rattle.db_core.specs.States.{whole_log, IsAt, IsSession, IsState, IsChanging, GoesOnWith, StepsBack, MayStep, StepsBy}
use Rattle.db_core.proofs.Keeps.{steps_of}
use Rattle.db_core.proofs.Next.{change_comes, ChangeKept, change_goes, change_ends, commit_comes, commit_ends, undo_comes, undo_goes, abort_comes, abort_ends}

-- lists read from their ends
pub reverse_back : {A : Type 0} (xs ys : List A) → reverse xs ≡ ys → xs ≡ reverse ys
reverse_back xs ys e = sym (reverse-reverse xs) ∙ ap reverse e

get_front : (xs : List Record) (y : Record) (i : ℕ) → i < length xs → slice_get (xs ++ y ∷ []) i ≡ slice_get xs i
get_front [] y i lt = absurd (omega (arith, lt))
get_front (x ∷ xs) y zero lt = refl
get_front (x ∷ xs) y (suc i) lt = get_front xs y i (omega (arith, lt))

get_end : (xs : List Record) (y : Record) → slice_get (xs ++ y ∷ []) (length xs) ≡ Some y
get_end [] y = refl
get_end (x ∷ xs) y = get_end xs y

-- the item with a number, in the log's order
pub item_of : (g : List Record) (n : ℕ) → n < length g → item_at g (n + 1) ≡ slice_get (reverse g) n
item_of [] n lt = absurd (omega (arith, lt))
item_of (x ∷ older) n lt =
    let rev : reverse (x ∷ older) ≡ reverse older ++ x ∷ [] = reverse-append (x ∷ []) older in
    let size = length-reverse older in
    cond_both (eqb (n + 1) (length older + 1)) (Some x) (item_at older (n + 1)) (λ o. o ≡ slice_get (reverse (x ∷ older)) n)
    (λ e. let same : n ≡ length older = let f = eqb-true (n + 1) (length older + 1) e in omega (arith, f) in
    sym (ap (λ xs. slice_get xs n) rev ∙ ap (slice_get (reverse older ++ x ∷ [])) (same ∙ sym size) ∙ get_end (reverse older) x))
    (λ e. let below : n < length older = elim (cases_Bool (ltb n (length older))) [
      | inl b ↦ ltb-true n (length older) b
      | inr b ↦ absurd (both_ways (eqb (n + 1) (length older + 1)) e (eq-eqb (n + 1) (length older + 1) (let f = ltb-false n (length older) b in omega (arith, f, lt))))
    ] in
    item_of older n below ∙ sym (ap (λ xs. slice_get xs n) rev ∙ get_front (reverse older) x n (subst (λ m. n < m) (sym size) below)))

none_zero : (g : List Record) → item_at g 0 ≡ None
none_zero [] = refl
none_zero (x ∷ older) = ap (λ b. if b then Some x else item_at older 0) (ne_eqb 0 (length older + 1) (λ e. omega (arith, e))) ∙ none_zero older

-- a cell that is covered is one of the file
pub cell_inside : (g : Geometry) (pages : ℕ) (log : List Record) (t : ℕ) (cell : Cell) (size : ℕ) → 0 < size → IsCovered g pages log t cell size → page_of_cell cell < pages
cell_inside g pages log t (Bytes p off) size some c = (guarded_inside log t pages p.0 (byte_guard_by (role_of g p.0) g pages p.0 (off + 0)) (c.0 0 some)).0
cell_inside g pages log t (Bit p n) size some c = (guarded_inside log t pages p.0 (bit_guard_by (role_of g p.0) g pages p.0 n) c).0

pub cell_some : (cell : Cell) (before after : List ℕ) → has_cell_form cell before after ≡ true → 0 < length after
cell_some (Bytes p off) before after h = ltb-true 0 (length after) (and_parts (ltb 0 (length after)) _ (and_parts _ (eqb (length before) (length after)) h).0).0
cell_some (Bit p n) before after h = let e = eqb-true (length after) 1 (and_parts _ (eqb (length after) 1) (and_parts _ _ h).0).1 in omega (arith, e)

pub cell_fits : (cell : Cell) (before after bytes : List ℕ) → has_cell_form cell before after ≡ true → length bytes ≡ length after → FitsCell cell bytes
cell_fits (Bytes p off) before after bytes h e =
    let a = leb-true (off + length after) 8192 (and_parts _ (leb (off + length after) 8192) (and_parts _ (eqb (length before) (length after)) h).0).1 in omega (arith, a, e)
cell_fits (Bit p n) before after bytes h e =
    let a = ltb-true n 63904 (and_parts (ltb n 63904) _ (and_parts _ (eqb (length after) 1) (and_parts _ _ h).0).0).0 in
    let one = eqb-true (length after) 1 (and_parts _ (eqb (length after) 1) (and_parts _ _ h).0).1 in (a, omega (arith, e, one))

-- what a Change of the log had found may be put back
put_back_item : (g : Geometry) (pages : ℕ) (older : List Record) (x : Record) (image : Image) → length image ≡ pages → KeepsRules g pages (x ∷ older) → HaveForm (x ∷ older) → MayPutBack image x
put_back_item g pages older (Start session index tran number changes size takes) image long rules forms = tt
put_back_item g pages older (Change tran cell before after) image long rules forms = (
  subst (λ n. page_of_cell cell < n) (sym long) (cell_inside g pages older tran.0 cell (length after) (cell_some cell before after forms.0) rules.0.1),
  cell_fits cell before after before forms.0 (cell_form cell before after forms.0).as_long,
)
put_back_item g pages older (Undo tran change) image long rules forms = tt
put_back_item g pages older (Commit tran) image long rules forms = tt
put_back_item g pages older (Abort tran) image long rules forms = tt
put_back_item g pages older (Snap session index) image long rules forms = tt
put_back_item g pages older (Failed session index page) image long rules forms = tt
put_back_item g pages older (CheckEnd session index outcome) image long rules forms = tt

may_put_back : (g : Geometry) (pages : ℕ) (log : List Record) (n : ℕ) (x : Record) (image : Image) → length image ≡ pages → KeepsRules g pages log → HaveForm log → item_at log n ≡ Some x → MayPutBack image x
may_put_back g pages [] n x image long rules forms e = absurd (cc)
may_put_back g pages (y ∷ older) n x image long rules forms e =
    cond_both (eqb n (length older + 1)) (Some y) (item_at older n) (λ o. o ≡ Some x → MayPutBack image x)
    (λ b h. let same : y ≡ x = cc in subst (MayPutBack image) same (put_back_item g pages older y image long rules forms))
    (λ b h. may_put_back g pages older n x image long rules.1 forms.1 h) e

-- the pages of the state
pub state_pages : (run : Setting) (log : List Record) (pages : Image) (sessions : List Session) (last all size : ℕ) → IsState run log pages sessions last all size → length pages ≡ length run.image
state_pages run log pages sessions last all size state = ap length state.pages_are ∙ (final_shape run.opened log run.image).pages

pub may_step : (run : Setting) (log : List Record) (pages : Image) (sessions : List Session) (last all size : ℕ) (k : ℕ) (old : Session) →
    IsState run log pages sessions last all size → slice_get sessions k ≡ Some old → MayStep pages (reverse (whole_log run log)) old old.doing
may_step run log pages sessions last all size k old state here = by_doing old.doing refl
  where
    mine : IsSession run log (k + 1) old
    mine = state.each k old here

    long : length pages ≡ length run.image
    long = state_pages run log pages sessions last all size state

    undone : (ps : List (ℕ × Record)) → left_of old.tran (whole_log run log) ≡ ps → AreNamed (whole_log run log) ps → MayUndo pages (reverse (whole_log run log)) (map (λ (p : ℕ × Record). p.0) ps)
    undone [] e named = tt
    undone (p ∷ ps) e named =
        let g = whole_log run log in
        let right = legal_right run log state.start state.legal in
        let rules = sound_rules run.geometry (length run.image) run.opened run.image log right.sound in
        let forms = sound_forms run.geometry (length run.image) run.opened run.image log right.sound in
        let above : 0 < p.0 = elim (cases_Bool (ltb 0 p.0)) [
          | inl b ↦ ltb-true 0 p.0 b
          | inr b ↦
              let f = ltb-false 0 p.0 b in
              let none : p.0 ≡ 0 = omega (arith, f) in
              let wrong : None ≡ Some p.1 = sym (none_zero g) ∙ ap (item_at g) (sym none) ∙ named.0 in
              absurd (cc)
        ] in
        let below = named.1 in (
          above,
          subst (λ n. p.0 ≤ n) (sym (length-reverse g)) below,
          (λ x at.
              let place : p.0 - 1 + 1 ≡ p.0 = omega (arith, above) in
              let found : item_at g p.0 ≡ Some x = ap (item_at g) (sym place) ∙ item_of g (p.0 - 1) (omega (arith, above, below)) ∙ at in
              may_put_back run.geometry (length run.image) g p.0 x pages long rules forms found),
        )

    by_doing : (d : Doing) → old.doing ≡ d → MayStep pages (reverse (whole_log run log)) old d
    by_doing Idle e = tt
    by_doing (Changing next later own reply) e =
        let st = steps_of run log (k + 1) (change_item old.tran next) state.start state.legal (omega arith) (change_comes run log (k + 1) old next later own reply e mine) in (
          subst (λ n. page_of_cell next.cell < n) (sym long)
              (cell_inside run.geometry (length run.image) (whole_log run log) old.tran next.cell (length next.after) (cell_some next.cell next.before next.after st.form) st.follows.1),
          cell_fits next.cell next.before next.after next.after st.form refl,
        )
    by_doing (Ending reply) e = tt
    by_doing Undoing e =
        let d = subst (IsAt run log (k + 1) (length old.replies.items + 1) old.tran (progress_of run (k + 1) log)) e mine.doing_is in
        elim mine.opens [
          | inl none ↦ absurd (let above = d.2 in omega (arith, none, above))
          | inr o ↦ subst (MayUndo pages (reverse (whole_log run log))) o.left_is (undone (left_of old.tran (whole_log run log)) refl (left_named old.tran (whole_log run log)))
        ]
    by_doing (Checking check) e = tt

-- a doing that is of these changes owes them
pub at_changing : (run : Setting) (log : List Record) (s index t : ℕ) (p : Progress) (changes : List Planned) (own : Bool) (reply : Reply) (d : Doing) → IsChanging changes own reply d →
    p.due ≡ change_items t changes own → p.telling ≡ Answers reply → IsAt run log s index t p d
at_changing run log s index t p changes own reply Idle is due tell = absurd is
at_changing run log s index t p changes own reply (Changing next later o r) is due tell = (
  due ∙ ap (λ cs. change_items t cs own) is.0 ∙ ap (change_items t (next ∷ reverse later.items)) (sym is.1),
  tell ∙ ap (λ q. Answers q) (sym is.2),
)
at_changing run log s index t p changes own reply (Ending r) is due tell = absurd is
at_changing run log s index t p changes own reply Undoing is due tell = absurd is
at_changing run log s index t p changes own reply (Checking check) is due tell = absurd is

pub some_changes : (t : ℕ) (c : Planned) (cs : List Planned) (own : Bool) → change_items t (c ∷ cs) own ≡ [] → ⊥
some_changes t c cs own e = cc

pub some_commit : (t : ℕ) → change_items t [] true ≡ [] → ⊥
some_commit t e = cc

-- the session behind a Change
change_session : (run : Setting) (log : List Record) (s : ℕ) (old new : Session) (c : Planned) (later : _) (own : Bool) (reply : Reply) → IsStart run → IsLegal run log → 0 < s →
    old.doing ≡ Changing c later own reply → IsSession run log s old → ChangeKept (whole_log run log) old new →
    (ds : List Planned) → reverse later.items ≡ ds → GoesOnWith ds own reply old new → IsSession run (change_item old.tran c ∷ log) s new
change_session run log s old new c later true reply start legal hs doing mine kept [] none goes =
    change_goes run log s old new c later true reply start legal hs doing mine kept goes.1
    (λ e. some_commit old.tran (ap (λ ds. change_items old.tran ds true) (sym none) ∙ e))
    (λ p due tell. subst (IsAt run (change_item old.tran c ∷ log) s (length old.replies.items + 1) old.tran p) (sym goes.0)
    (due ∙ ap (λ ds. change_items old.tran ds true) none, tell))
change_session run log s old new c later false reply start legal hs doing mine kept [] none goes =
    change_ends run log s old new c later reply start legal hs doing (reverse_back later.items [] none) mine kept goes.1 goes.0
change_session run log s old new c later own reply start legal hs doing mine kept (d ∷ ds) some goes =
    change_goes run log s old new c later own reply start legal hs doing mine kept goes.1
    (λ e. some_changes old.tran d ds own (ap (λ cs. change_items old.tran cs own) (sym some) ∙ e))
    (λ p due tell. at_changing run (change_item old.tran c ∷ log) s (length old.replies.items + 1) old.tran p (d ∷ ds) own reply new.doing goes.0
    (due ∙ ap (λ cs. change_items old.tran cs own) some) tell)

-- what comes of a step: an item that may come, the session behind it, and the pages
pub record IsStepped (run : Setting) (log : List Record) (s : ℕ) (new : Session) (pages after : Image) (x : Record) : Type 0 where
  pub comes : MayCome (work_of run s log) x
  pub mine : IsSession run (x ∷ log) s new
  pub pages_are : after ≡ apply (whole_log run log) x pages
  pub all_same : all_changes (x ∷ whole_log run log) ≡ all_changes (whole_log run log)
  pub size_same : all_bytes (x ∷ whole_log run log) ≡ all_bytes (whole_log run log)

back_step : (run : Setting) (log : List Record) (s : ℕ) (old new : Session) (pages after : Image) (x : Record) → IsStart run → IsLegal run log → 0 < s → old.doing ≡ Undoing → IsSession run log s old →
    (ns : List ℕ) → reverse old.left.items ≡ ns → MayUndo pages (reverse (whole_log run log)) ns → StepsBack ns (reverse (whole_log run log)) old new pages after x →
    IsStepped run log s new pages after x
back_step run log s old new pages after x start legal hs doing mine [] none may st =
    let left : old.left.items ≡ [] = reverse_back old.left.items [] none in
    subst (IsStepped run log s new pages after) (sym st.0) (record {
      comes = abort_comes run log s old mine doing left;
      mine = abort_ends run log s old new start legal hs mine doing left st.1 st.4 st.2 st.3;
      pages_are = st.5;
      all_same = refl;
      size_same = refl;
    })
back_step run log s old new pages after x start legal hs doing mine (n ∷ ns) some may st =
    let g = whole_log run log in
    let left : old.left.items ≡ reverse ns ++ n ∷ [] = reverse_back old.left.items (n ∷ ns) some ∙ reverse-append (n ∷ []) ns in
    let above = may.0 in
    let below : n ≤ length g = subst (λ m. n ≤ m) (length-reverse g) may.1 in
    let place : n - 1 + 1 ≡ n = omega (arith, above) in
    let found : item_at g n ≡ slice_get (reverse g) (n - 1) = ap (item_at g) (sym place) ∙ item_of g (n - 1) (omega (arith, above, below)) in
    subst (IsStepped run log s new pages after) (sym st.0) (record {
      comes = undo_comes run log s old (reverse ns) n mine doing left;
      mine = undo_goes run log s old new (reverse ns) n start legal hs mine doing left st.1.script st.4 st.1.tran st.3 (reverse_back new.left.items ns st.2) st.1.held st.1.used;
      pages_are = st.5 ∙ ap (λ o. put_before o pages) (sym found);
      all_same = refl;
      size_same = refl;
    })

pub stepped : (run : Setting) (log : List Record) (s number : ℕ) (old new : Session) (pages after : Image) (x : Record) → IsStart run → IsLegal run log → 0 < s → IsSession run log s old →
    number ≡ length (whole_log run log) + 1 → (d : Doing) → old.doing ≡ d → MayStep pages (reverse (whole_log run log)) old d →
    StepsBy number (reverse (whole_log run log)) old new pages after x d → IsStepped run log s new pages after x
stepped run log s number old new pages after x start legal hs mine count Idle doing may st = absurd st
stepped run log s number old new pages after x start legal hs mine count (Changing c later own reply) doing may st =
    let kept : ChangeKept (whole_log run log) old new = record {
      script = st.2.script;
      tran = st.2.tran;
      left = st.3 ∙ ap (λ n. old.left.items ++ n ∷ []) count;
      held = st.2.held;
      used = st.2.used;
    } in
    subst (IsStepped run log s new pages after) (sym st.0) (record {
      comes = change_comes run log s old c later own reply doing mine;
      mine = change_session run log s old new c later own reply start legal hs doing mine kept (reverse later.items) refl st.4;
      pages_are = st.1;
      all_same = refl;
      size_same = refl;
    })
stepped run log s number old new pages after x start legal hs mine count (Ending reply) doing may st =
    subst (IsStepped run log s new pages after) (sym st.0) (record {
      comes = commit_comes run log s old reply doing mine;
      mine = commit_ends run log s old new reply start legal hs doing mine st.2 st.5 st.3 st.4;
      pages_are = st.1;
      all_same = refl;
      size_same = refl;
    })
stepped run log s number old new pages after x start legal hs mine count Undoing doing may st =
    back_step run log s old new pages after x start legal hs doing mine (reverse old.left.items) refl may st
stepped run log s number old new pages after x start legal hs mine count (Checking check) doing may st = absurd st
