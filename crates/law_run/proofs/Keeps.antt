-- An item of one session leaves every other session doing what it did.
use Rattle.std.proofs.Common.{◌≡◌, ℕ, true, false, ltb, List, ◌∷◌, ◌++◌, length, inl, inr, sym, ap, ◌∙◌, subst}
use Rattle.std.specs.Prelude.{if◌then◌else◌}
use Rattle.std.proofs.lemmas.Bool.{both_ways, ne_eqb}
use Rattle.spec_log.specs.declared.item.Record.{Record}
use Rattle.spec_log.specs.Items.{tran_of, has_form}
use Rattle.spec_log.specs.Log.{has_started}
use Rattle.spec_log.specs.Rules.{Follows}
use Rattle.spec_log.specs.Images.{final_image}
use Rattle.spec_log.specs.Sound.{IsSound}
use Rattle.law_undo.proofs.Holders.{unfinished_parts}
use Rattle.law_undo.proofs.Views.{sound_rules, sound_forms}
use Rattle.spec_run.specs.Sessions.{starter_of, session_of}
use Rattle.spec_run.specs.Begun.{Setting}
use Rattle.spec_run.specs.Progress.{Progress, progress_of, at_work, moved}
use Rattle.law_run.proofs.Others.{unfinished_other, owner_other, undone_other, left_other}
use Rattle.law_run.proofs.Plans.{planned_other}
use Rattle.law_run.specs.Doing.{abort_items}
use Rattle.law_run.proofs.Doing.{Idle, Changing, Undoing, Checking}
use Rattle.law_run.proofs.Doing.{Owns, Opens, IsDoing, IsOwn}

pub Owns_other : (run : Setting) (log : List Record) (x : Record) (s t : ℕ) → (tran_of x ≡ t → ⊥) → Owns run log s t → Owns run (x ∷ log) s t
Owns_other run log x s t n o = record {
  unfinished = unfinished_other x (log ++ run.opened) t n ∙ o.unfinished;
  is_new = o.is_new;
  owner = owner_other x log t n ∙ o.owner;
}

Opens_other : (run : Setting) (log : List Record) (x : Record) (s t : ℕ) → (Owns run log s t → tran_of x ≡ t → ⊥) → Opens run log s t → Opens run (x ∷ log) s t
Opens_other run log x s t n (inl e) = inl e
Opens_other run log x s t n (inr o) = inr (Owns_other run log x s t (n o.0) o.0, undone_other x log t (n o.0) ∙ o.1)

-- another session goes on as it was
doing_other : (run : Setting) (log : List Record) (x : Record) (s : ℕ) (p : Progress) → IsSound run.geometry (length run.image) run.opened run.image log → has_form x ≡ true →
    Follows run.geometry (length run.image) (log ++ run.opened) x → (Owns run log s p.tran → tran_of x ≡ p.tran → ⊥) → IsDoing run log s p → IsDoing run (x ∷ log) s p
doing_other run log x s p sound form f n (Idle due want opens) = Idle due want (Opens_other run log x s p.tran n opens)
doing_other run log x s p sound form f n (Changing changes own due want owns still planned) =
    Changing changes own due want (Owns_other run log x s p.tran (n owns) owns) (undone_other x log p.tran (n owns) ∙ still)
    (planned_other run.geometry (length run.image) (log ++ run.opened) p.tran x (final_image run.opened log run.image) changes
    (sound_rules run.geometry (length run.image) run.opened run.image log sound)
    (form, sound_forms run.geometry (length run.image) run.opened run.image log sound) f (n owns) planned)
doing_other run log x s p sound form f n (Undoing due want owns) =
    Undoing (due ∙ ap (abort_items p.tran) (sym (left_other x (log ++ run.opened) p.tran (n owns)))) want (Owns_other run log x s p.tran (n owns) owns)
doing_other run log x s p sound form f n (Checking index outcome due want forms opens) = Checking index outcome due want forms (Opens_other run log x s p.tran n opens)

-- two sessions' transactions differ
pub apart : (run : Setting) (log : List Record) (x : Record) (s other t : ℕ) → IsOwn run log s x → (s ≡ other → ⊥) → Owns run log other t → tran_of x ≡ t → ⊥
apart run log x s other t (inl none) differ o same =
    both_ways (ltb 0 t) (ap (ltb 0) (sym same ∙ none)) (unfinished_parts (log ++ run.opened) t o.unfinished).above
apart run log x s other t (inr (inl fresh)) differ o same =
    both_ways (has_started (log ++ run.opened) t) (subst (λ u. has_started (log ++ run.opened) u ≡ false) same fresh) (unfinished_parts (log ++ run.opened) t o.unfinished).started
apart run log x s other t (inr (inr owned)) differ o same = differ (sym owned ∙ ap (starter_of log) same ∙ o.owner)

-- an item moves its own session alone
pub progress_other : (run : Setting) (log : List Record) (s other : ℕ) (x : Record) → session_of log x ≡ s → (s ≡ other → ⊥) →
    progress_of run other (x ∷ log) ≡ progress_of run other log
progress_other run log s other x belongs differ =
    let p = progress_of run other log in
    ap (λ b. if b then moved (at_work run log other p p.due) x else p) (ne_eqb (session_of log x) other (λ e. differ (sym belongs ∙ e)))

pub other_session : (run : Setting) (log : List Record) (x : Record) (s other : ℕ) → IsSound run.geometry (length run.image) run.opened run.image log → has_form x ≡ true →
    Follows run.geometry (length run.image) (log ++ run.opened) x → session_of log x ≡ s → IsOwn run log s x → (s ≡ other → ⊥) →
    IsDoing run log other (progress_of run other log) → IsDoing run (x ∷ log) other (progress_of run other (x ∷ log))
other_session run log x s other sound form f belongs own differ theirs =
    subst (IsDoing run (x ∷ log) other) (sym (progress_other run log s other x belongs differ))
    (doing_other run log x other (progress_of run other log) sound form f (λ o. apart run log x s other (progress_of run other log).tran own differ o) theirs)
