-- The record of a statement.
use Rattle.std.proofs.Common.{◌≡◌, ℕ, ◌+◌, ◌<◌, ◌≤◌, Bool, true, false, eqb, ltb, leb, not, ◌&&◌, List, [], ◌∷◌, ◌++◌, length, None, ◌⊎◌, inl, inr, refl, sym, ap, ◌∙◌, subst, arith}
use Rattle.std.specs.Prelude.{if◌then◌else◌}
use Rattle.std.proofs.lemmas.Bool.{false≢true, cases_Bool, and_from, or_left, or_right, eq-eqb, both_ways, lt-ltb, le-leb}
use Rattle.spec_file.specs.declared.data.Resource.{Resource}
use Rattle.spec_log.specs.declared.item.Record.{Record}
use Rattle.spec_log.specs.declared.item.Record.TheVariants.{Start, Snap, CheckEnd}
use Rattle.spec_log.specs.Items.{has_form}
use Rattle.spec_log.specs.Log.{has_started, has_undone, greatest_of, left_of}
use Rattle.spec_log.specs.Rules.{Follows, AreFreeFor}
use Rattle.spec_log.specs.Sound.{Fits, is_old}
use Rattle.law_undo.proofs.Holders.{unfinished_parts, unfinished_from}
use Rattle.spec_plan.specs.declared.plan.Planned.{Planned}
use Rattle.spec_run.specs.Shapes.{plain_start}
use Rattle.spec_run.specs.Sessions.{session_of, starter_of}
use Rattle.spec_run.specs.Begun.{Setting}
use Rattle.spec_run.specs.Progress.{Progress, is_short, moved_to}
use Rattle.law_run.proofs.Fresh.{not_started_above, not_ended_above, not_undone_above, not_old_above}
use Rattle.law_run.specs.Doing.{change_items, abort_items}
use Rattle.law_run.proofs.Doing.{Idle, Changing, Undoing, Checking}
use Rattle.law_run.proofs.Doing.{Owns, Opens, ArePlannedIn, IsDoing, IsOwn, StepsTo}
use Rattle.law_run.proofs.Moved.{moved_whole, moved_short, moved_due, moved_tran, moved_want}

-- which transactions a Start may have
abbrev pub Begins : Setting → List Record → ℕ → ℕ → Type 0
Begins run log s u = (u ≡ 0) ⊎ ((Owns run log s u × (has_undone log u ≡ false)) ⊎ (u ≡ greatest_of (log ++ run.opened) + 1))

pub opens_begins : (run : Setting) (log : List Record) (s u : ℕ) → Opens run log s u → Begins run log s u
opens_begins run log s u (inl e) = inl e
opens_begins run log s u (inr o) = inr (inl o)

pub start_form : (s i u number changes size : ℕ) (takes : List Resource) → 0 < s → 0 < i → changes ≤ 8192 → size ≤ 134381568 → length takes < 4294967296 →
    has_form (Start s i (record { 0 = u }) number changes size takes) ≡ true
start_form s i u number changes size takes hs hi hc hz ht =
    and_from (((ltb 0 s && ltb 0 i) && leb changes 8192) && leb size 134381568) (ltb (length takes) 4294967296)
    (and_from ((ltb 0 s && ltb 0 i) && leb changes 8192) (leb size 134381568)
    (and_from (ltb 0 s && ltb 0 i) (leb changes 8192) (and_from (ltb 0 s) (ltb 0 i) (lt-ltb 0 s hs) (lt-ltb 0 i hi)) (le-leb changes 8192 hc))
    (le-leb size 134381568 hz))
    (lt-ltb (length takes) 4294967296 ht)

pub record Started (run : Setting) (log : List Record) (s u : ℕ) (x : Record) : Type 0 where
  pub belongs : session_of log x ≡ s
  pub own : IsOwn run log s x
  pub follows : Follows run.geometry (length run.image) (log ++ run.opened) x
  pub fits : Fits run.opened log run.image x
  pub opens : Opens run (x ∷ log) s u

pub started : (run : Setting) (log : List Record) (s i u number changes size : ℕ) (takes : List Resource) → Begins run log s u → AreFreeFor (log ++ run.opened) u takes →
    (u ≡ 0 → takes ≡ []) → Started run log s u (Start s i (record { 0 = u }) number changes size takes)
started run log s i u number changes size takes (inl none) free nothing = record {
  belongs = refl;
  own = inl none;
  follows = (inr (inr (none, nothing none)), free);
  fits = ap (is_old run.opened) none;
  opens = inl none;
}
started run log s i u number changes size takes (inr (inl o)) free nothing =
    let parts = unfinished_parts (log ++ run.opened) u o.0.unfinished in
    let x = Start s i (record { 0 = u }) number changes size takes in
    record {
      belongs = refl;
      own = inr (inr o.0.owner);
      follows = (inl o.0.unfinished, free);
      fits = o.0.is_new;
      opens = inr (
        record {
          unfinished = unfinished_from (x ∷ (log ++ run.opened)) u (record {
            above = parts.above;
            started = or_right (eqb u u) (has_started (log ++ run.opened) u) parts.started;
            not_ended = parts.not_ended;
          });
          is_new = o.0.is_new;
          owner = ap (λ b. if b then s else starter_of log u) (eq-eqb u u refl);
        },
        o.1,
      );
    }
started run log s i u number changes size takes (inr (inr fresh)) free nothing =
    let g = log ++ run.opened in
    let above : greatest_of g < u = omega (arith, fresh) in
    let x = Start s i (record { 0 = u }) number changes size takes in
    record {
      belongs = refl;
      own = inr (inl (not_started_above g u above));
      follows = (inr (inl fresh), free);
      fits = not_old_above log run.opened u above;
      opens = inr (
        record {
          unfinished = unfinished_from (x ∷ g) u (record {
            above = lt-ltb 0 u (omega (arith, above));
            started = or_left (eqb u u) (has_started g u) (eq-eqb u u refl);
            not_ended = ap not (not_ended_above g u above);
          });
          is_new = not_old_above log run.opened u above;
          owner = ap (λ b. if b then s else starter_of log u) (eq-eqb u u refl);
        },
        not_undone_above log run.opened u above,
      );
    }

-- a Start without changes
plain : (run : Setting) (log : List Record) (s i u number : ℕ) → Begins run log s u → Started run log s u (plain_start s i u number)
plain run log s i u number begins = started run log s i u number 0 0 [] begins (λ r h. absurd (false≢true h)) (λ e. refl)

pub plain_form : (s i u number : ℕ) → 0 < s → 0 < i → has_form (plain_start s i u number) ≡ true
plain_form s i u number hs hi = start_form s i u number 0 0 [] hs hi (omega arith) (omega arith) (omega arith)

-- a statement that is one Start, refused or accepted
pub single_steps : (run : Setting) (log : List Record) (s i u number : ℕ) (w : Progress) → 0 < s → 0 < i → Begins run log s u →
    (w.due ≡ plain_start s i u number ∷ []) ⊎ (number ≡ 701) → StepsTo run log s w (plain_start s i u number)
single_steps run log s i u number w hs hi begins due =
    let x = plain_start s i u number in
    let st = plain run log s i u number begins in
    record {
      form = plain_form s i u number hs hi;
      belongs = refl;
      own = st.own;
      follows = st.follows;
      fits = st.fits;
      puts = tt;
      after = elim (cases_Bool (is_short x)) [
        | inl e ↦ subst (IsDoing run (x ∷ log) s) (sym (moved_short w x e)) (Idle refl refl st.opens)
        | inr e ↦ elim due [
          | inl d ↦ subst (IsDoing run (x ∷ log) s) (sym (moved_whole w x [] e d)) (Idle refl refl st.opens)
          | inr short ↦ absurd (both_ways (is_short x) e (eq-eqb number 701 short))
        ]
      ];
    }

-- COMMIT
pub committing_steps : (run : Setting) (log : List Record) (s i t : ℕ) (w : Progress) → 0 < s → 0 < i → Owns run log s t → has_undone log t ≡ false →
    w.due ≡ plain_start s i t 0 ∷ change_items t [] true → StepsTo run log s w (plain_start s i t 0)
committing_steps run log s i t w hs hi owns still due =
    let x = plain_start s i t 0 in
    let st = plain run log s i t 0 (inr (inl (owns, still))) in
    record {
      form = plain_form s i t 0 hs hi;
      belongs = refl;
      own = st.own;
      follows = st.follows;
      fits = st.fits;
      puts = tt;
      after = subst (IsDoing run (x ∷ log) s) (sym (moved_whole w x (change_items t [] true) refl due))
          (elim st.opens [
            | inl none ↦ absurd (both_ways (ltb 0 t) (ap (ltb 0) none) (unfinished_parts (log ++ run.opened) t owns.unfinished).above)
            | inr o ↦ Changing [] true refl refl o.0 o.1 (record { cells = tt; bytes = tt; covered = tt; find = tt })
          ]);
    }

-- ROLLBACK
pub rolling_steps : (run : Setting) (log : List Record) (s i t : ℕ) (w : Progress) → 0 < s → 0 < i → Owns run log s t → has_undone log t ≡ false →
    w.due ≡ plain_start s i t 0 ∷ abort_items t (left_of t (log ++ run.opened)) → StepsTo run log s w (plain_start s i t 0)
rolling_steps run log s i t w hs hi owns still due =
    let x = plain_start s i t 0 in
    let st = plain run log s i t 0 (inr (inl (owns, still))) in
    let rest = abort_items t (left_of t (log ++ run.opened)) in
    record {
      form = plain_form s i t 0 hs hi;
      belongs = refl;
      own = st.own;
      follows = st.follows;
      fits = st.fits;
      puts = tt;
      after = subst (IsDoing run (x ∷ log) s) (sym (moved_whole w x rest refl due))
          (elim st.opens [
            | inl none ↦ absurd (both_ways (ltb 0 t) (ap (ltb 0) none) (unfinished_parts (log ++ run.opened) t owns.unfinished).above)
            | inr o ↦ undoing (moved_to w x rest) (moved_due w x rest) (moved_tran w x rest) (moved_want w x rest refl) o.0
          ]);
    }
  where
    undoing : (next : Progress) → next.due ≡ abort_items t (left_of t (log ++ run.opened)) → next.tran ≡ t → next.want ≡ None → Owns run (plain_start s i t 0 ∷ log) s t →
        IsDoing run (plain_start s i t 0 ∷ log) s next
    undoing next due_is tran_is want owns_now =
        Undoing (due_is ∙ ap (λ u. abort_items u (left_of u (log ++ run.opened))) (sym tran_is)) want
        (subst (Owns run (plain_start s i t 0 ∷ log) s) (sym tran_is) owns_now)

-- a writing statement: its changes are planned over the file as it stands, by what its transaction then holds
pub writing_steps : (run : Setting) (log : List Record) (s i u size : ℕ) (takes : List Resource) (changes : List Planned) (own : Bool) (w : Progress) →
    Started run log s u (Start s i (record { 0 = u }) 0 (length changes) size takes) → 0 < u →
    has_form (Start s i (record { 0 = u }) 0 (length changes) size takes) ≡ true →
    ArePlannedIn run (Start s i (record { 0 = u }) 0 (length changes) size takes ∷ log) u changes →
    w.due ≡ Start s i (record { 0 = u }) 0 (length changes) size takes ∷ change_items u changes own →
    StepsTo run log s w (Start s i (record { 0 = u }) 0 (length changes) size takes)
writing_steps run log s i u size takes changes own w st above form planned due =
    let x = Start s i (record { 0 = u }) 0 (length changes) size takes in
    let rest = change_items u changes own in
    record {
      form = form;
      belongs = refl;
      own = st.own;
      follows = st.follows;
      fits = st.fits;
      puts = tt;
      after = subst (IsDoing run (x ∷ log) s) (sym (moved_whole w x rest refl due))
          (elim st.opens [
            | inl none ↦ absurd (omega (arith, none, above))
            | inr o ↦ changing (moved_to w x rest) (moved_due w x rest) (moved_tran w x rest) (moved_want w x rest refl) o.0 o.1
          ]);
    }
  where
    changing : (next : Progress) → next.due ≡ change_items u changes own → next.tran ≡ u → next.want ≡ None →
        Owns run (Start s i (record { 0 = u }) 0 (length changes) size takes ∷ log) s u → has_undone log u ≡ false →
        IsDoing run (Start s i (record { 0 = u }) 0 (length changes) size takes ∷ log) s next
    changing next due_is tran_is want owns still =
        Changing changes own (due_is ∙ ap (λ t. change_items t changes own) (sym tran_is)) want
        (subst (Owns run (Start s i (record { 0 = u }) 0 (length changes) size takes ∷ log) s) (sym tran_is) owns)
        (subst (λ t. has_undone log t ≡ false) (sym tran_is) still)
        (subst (λ t. ArePlannedIn run (Start s i (record { 0 = u }) 0 (length changes) size takes ∷ log) t changes) (sym tran_is) planned)

-- a check
pub snap_form : (s i : ℕ) → 0 < s → 0 < i → has_form (Snap s i) ≡ true
snap_form s i hs hi = and_from (ltb 0 s) (ltb 0 i) (lt-ltb 0 s hs) (lt-ltb 0 i hi)

pub end_form : (s i outcome : ℕ) → 0 < s → 0 < i → outcome ≤ 3 → has_form (CheckEnd s i outcome) ≡ true
end_form s i outcome hs hi few = and_from (ltb 0 s && ltb 0 i) (leb outcome 3) (snap_form s i hs hi) (le-leb outcome 3 few)

pub snap_steps : (run : Setting) (log : List Record) (s i outcome : ℕ) (w : Progress) → 0 < s → 0 < i → outcome ≤ 3 → Opens run log s w.tran →
    w.due ≡ Snap s i ∷ CheckEnd s i outcome ∷ [] → StepsTo run log s w (Snap s i)
snap_steps run log s i outcome w hs hi few opens due =
    let x = Snap s i in
    record {
      form = snap_form s i hs hi;
      belongs = refl;
      own = inl refl;
      follows = tt;
      fits = tt;
      puts = tt;
      after = subst (IsDoing run (x ∷ log) s) (sym (moved_whole w x (CheckEnd s i outcome ∷ []) refl due))
          (Checking i outcome refl refl (end_form s i outcome hs hi few, end_form s i 3 hs hi (omega arith))
          (elim opens [ inl e ↦ inl e | inr o ↦ inr (record { unfinished = o.0.unfinished; is_new = o.0.is_new; owner = o.0.owner }, o.1) ]));
    }
