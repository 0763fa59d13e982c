-- The steps of a statement that is under way: a Change, the Commit, an Undo, the Abort, the end of a check.
use Rattle.std.proofs.Common.{◌≡◌, ℕ, Bool, true, false, List, [], ◌∷◌, ◌++◌, length, Option, Some, None, ◌⊎◌, inl, inr, refl, sym, ap, ◌∙◌, subst}
use Rattle.std.specs.Prelude.{if◌then◌else◌}
use Rattle.std.proofs.lemmas.Bool.{cases_Bool, eq-eqb, both_ways}
use Rattle.spec_file.specs.declared.data.Resource.{Resource}
use Rattle.spec_log.specs.declared.item.Record.{Record}
use Rattle.spec_log.specs.declared.item.Record.TheVariants.{Undo, Commit, Abort, CheckEnd}
use Rattle.spec_log.specs.Items.{has_form}
use Rattle.spec_log.specs.Log.{has_undone, left_of, rest_of}
use Rattle.spec_log.specs.Cover.{IsCovered, HoldsGuard}
use Rattle.spec_log.specs.Sound.{IsSound}
use Rattle.law_undo.proofs.ReadLogs.{cell_form}
use Rattle.spec_plan.specs.declared.plan.Planned.{Planned}
use Rattle.spec_run.specs.Shapes.{change_item}
use Rattle.spec_run.specs.Begun.{Setting}
use Rattle.spec_run.specs.Progress.{Progress, is_short, moved_to}
use Rattle.law_run.proofs.Plans.{all_covered_more}
use Rattle.law_run.specs.Doing.{change_items, abort_items}
use Rattle.law_run.proofs.Doing.{Idle, Changing, Undoing}
use Rattle.law_run.proofs.Doing.{Owns, Opens, ArePlannedIn, IsDoing, StepsTo}
use Rattle.law_run.proofs.Left.{AreNamed, left_named}
use Rattle.law_run.proofs.Shows.{covered_cell_shows}
use Rattle.law_run.proofs.Moved.{moved_whole, moved_short, moved_due, moved_tran, moved_want}

abbrev pub IsSoundIn : Setting → List Record → Type 0
IsSoundIn run log = IsSound run.geometry (length run.image) run.opened run.image log

pub change_steps : (run : Setting) (log : List Record) (s : ℕ) (w : Progress) (c : Planned) (changes : List Planned) (own : Bool) → IsSoundIn run log →
    w.due ≡ change_items w.tran (c ∷ changes) own → Owns run log s w.tran → has_undone log w.tran ≡ false → ArePlannedIn run log w.tran (c ∷ changes) →
    StepsTo run log s w (change_item w.tran c)
change_steps run log s w c changes own sound due owns still planned =
    let x = change_item w.tran c in
    let rest = change_items w.tran changes own in
    let next = moved_to w x rest in
    let long = (cell_form c.cell c.before c.after planned.cells.0).as_long in
    let rest_planned : ArePlannedIn run (x ∷ log) w.tran changes = record {
      cells = planned.cells.1;
      bytes = planned.bytes.1;
      covered = all_covered_more run.geometry (length run.image) (log ++ run.opened) (x ∷ (log ++ run.opened)) w.tran w.tran changes
          same_holds planned.covered.1;
      find = planned.find.1;
    } in
    let owns_after : Owns run (x ∷ log) s w.tran = record { unfinished = owns.unfinished; is_new = owns.is_new; owner = owns.owner } in
    let tran_is : w.tran ≡ next.tran = sym (moved_tran w x rest) in
    record {
      form = planned.cells.0;
      belongs = owns.owner;
      own = inr (inr owns.owner);
      follows = (owns.unfinished, planned.covered.0);
      fits = (
        owns.is_new,
        covered_cell_shows run.geometry run.opened log run.image w.tran c.cell (length c.before) sound owns.unfinished owns.is_new
            (subst (IsCovered run.geometry (length run.image) (log ++ run.opened) w.tran c.cell) (sym long) planned.covered.0)
            ∙ planned.find.0,
      );
      puts = planned.bytes.0;
      after = subst (IsDoing run (x ∷ log) s) (sym (moved_whole w x rest refl due))
          (Changing changes own (moved_due w x rest ∙ ap (λ t. change_items t changes own) tran_is) (moved_want w x rest refl)
          (subst (Owns run (x ∷ log) s) tran_is owns_after) (subst (λ t. has_undone (x ∷ log) t ≡ false) tran_is still)
          (subst (λ t. ArePlannedIn run (x ∷ log) t changes) tran_is rest_planned));
    }
  where
    same_holds : (guard : Option Resource) → HoldsGuard (log ++ run.opened) w.tran guard → HoldsGuard (change_item w.tran c ∷ (log ++ run.opened)) w.tran guard
    same_holds None h = h
    same_holds (Some r) h = h

pub commit_steps : (run : Setting) (log : List Record) (s : ℕ) (w : Progress) → w.due ≡ change_items w.tran [] true → Owns run log s w.tran →
    has_undone log w.tran ≡ false → StepsTo run log s w (Commit (record { 0 = w.tran }))
commit_steps run log s w due owns still =
    let x = Commit (record { 0 = w.tran }) in
    record {
      form = refl;
      belongs = owns.owner;
      own = inr (inr owns.owner);
      follows = owns.unfinished;
      fits = (owns.is_new, still);
      puts = tt;
      after = subst (IsDoing run (x ∷ log) s) (sym (moved_whole w x [] refl due)) (Idle refl refl (inl refl));
    }

pub abort_steps : (run : Setting) (log : List Record) (s : ℕ) (w : Progress) → w.due ≡ abort_items w.tran [] → Owns run log s w.tran →
    left_of w.tran (log ++ run.opened) ≡ [] → StepsTo run log s w (Abort (record { 0 = w.tran }))
abort_steps run log s w due owns none_left =
    let x = Abort (record { 0 = w.tran }) in
    record {
      form = refl;
      belongs = owns.owner;
      own = inr (inr owns.owner);
      follows = (owns.unfinished, none_left);
      fits = owns.is_new;
      puts = tt;
      after = subst (IsDoing run (x ∷ log) s) (sym (moved_whole w x [] refl due)) (Idle refl refl (inl refl));
    }

pub undo_steps : (run : Setting) (log : List Record) (s : ℕ) (w : Progress) (p : ℕ × Record) (others : List (ℕ × Record)) → w.due ≡ abort_items w.tran (p ∷ others) → Owns run log s w.tran →
    left_of w.tran (log ++ run.opened) ≡ p ∷ others → StepsTo run log s w (Undo (record { 0 = w.tran }) (record { 0 = p.0 }))
undo_steps run log s w p others due owns left =
    let g = log ++ run.opened in
    let x = Undo (record { 0 = w.tran }) (record { 0 = p.0 }) in
    let rest = abort_items w.tran others in
    let next = moved_to w x rest in
    let named : AreNamed g (p ∷ others) = subst (AreNamed g) left (left_named w.tran g) in
    let owns_after : Owns run (x ∷ log) s w.tran = record { unfinished = owns.unfinished; is_new = owns.is_new; owner = owns.owner } in
    let left_after : left_of w.tran (x ∷ g) ≡ others = ap (λ b. if b then rest_of (left_of w.tran g) else left_of w.tran g) (eq-eqb w.tran w.tran refl) ∙ ap rest_of left in
    let tran_is : w.tran ≡ next.tran = sym (moved_tran w x rest) in
    record {
      form = refl;
      belongs = owns.owner;
      own = inr (inr owns.owner);
      follows = (owns.unfinished, record { change = p.1; others = others; is_last = left; is_named = named.0 });
      fits = owns.is_new;
      puts = tt;
      after = subst (IsDoing run (x ∷ log) s) (sym (moved_whole w x rest refl due))
          (Undoing (moved_due w x rest ∙ subst (λ t. rest ≡ abort_items t (left_of t (x ∷ g))) tran_is (ap (abort_items w.tran) (sym left_after)))
          (moved_want w x rest refl) (subst (Owns run (x ∷ log) s) tran_is owns_after));
    }

-- the end of a check, with what is due or for want of memory
pub end_steps : (run : Setting) (log : List Record) (s : ℕ) (w : Progress) (index outcome : ℕ) → has_form (CheckEnd s index outcome) ≡ true →
    (w.due ≡ CheckEnd s index outcome ∷ []) ⊎ (outcome ≡ 3) → Opens run log s w.tran → StepsTo run log s w (CheckEnd s index outcome)
end_steps run log s w index outcome form due opens =
    let x = CheckEnd s index outcome in
    record {
      form = form;
      belongs = refl;
      own = inl refl;
      follows = tt;
      fits = tt;
      puts = tt;
      after = elim (cases_Bool (is_short x)) [
        | inl e ↦ subst (IsDoing run (x ∷ log) s) (sym (moved_short w x e)) (Idle refl refl opens_after)
        | inr e ↦ elim due [
          | inl d ↦ subst (IsDoing run (x ∷ log) s) (sym (moved_whole w x [] e d)) (Idle refl refl opens_after)
          | inr three ↦ absurd (both_ways (is_short x) e (eq-eqb outcome 3 three))
        ]
      ];
    }
  where
    opens_after : Opens run (CheckEnd s index outcome ∷ log) s w.tran
    opens_after = elim opens [ inl e ↦ inl e | inr o ↦ inr (record { unfinished = o.0.unfinished; is_new = o.0.is_new; owner = o.0.owner }, o.1) ]
