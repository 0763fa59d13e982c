-- What a session of a legal history is doing: what it owes, and what its open transaction holds.
use Rattle.std.proofs.Common.{◌≡◌, ℕ, Bool, true, false, List, [], ◌∷◌, ◌++◌, length, Some, None, ◌⊎◌}
use Rattle.spec_log.specs.declared.item.Record.{Record}
use Rattle.spec_log.specs.declared.item.Record.TheVariants.{CheckEnd}
use Rattle.spec_log.specs.Items.{tran_of, has_form}
use Rattle.spec_log.specs.Log.{has_started, has_undone, is_unfinished, left_of}
use Rattle.spec_log.specs.Rules.{Follows}
use Rattle.spec_log.specs.Images.{final_image}
use Rattle.spec_log.specs.Sound.{Fits, is_old}
use Rattle.spec_plan.specs.declared.plan.Planned.{Planned}
use Rattle.spec_run.specs.Sessions.{starter_of, session_of}
use Rattle.spec_run.specs.Begun.{Setting}
use Rattle.spec_run.specs.OfBytes.{PutsBytes}
use Rattle.spec_run.specs.Progress.{Progress, moved}
use Rattle.law_run.proofs.Plans.{ArePlanned}
use Rattle.law_run.specs.Doing.{change_items, abort_items}

-- a transaction that the session has open
pub record Owns (run : Setting) (log : List Record) (s t : ℕ) : Type 0 where
  pub unfinished : is_unfinished (log ++ run.opened) t ≡ true
  pub is_new : is_old run.opened t ≡ false
  pub owner : starter_of log t ≡ s

-- the session's open transaction, with nothing undone, or none
abbrev pub Opens : Setting → List Record → ℕ → ℕ → Type 0
Opens run log s t = (t ≡ 0) ⊎ (Owns run log s t × (has_undone log t ≡ false))

-- the changes are planned over the file as it stands
abbrev pub ArePlannedIn : Setting → List Record → ℕ → List Planned → Type 0
ArePlannedIn run log t changes =
    ArePlanned run.geometry (length run.image) (log ++ run.opened) t (final_image run.opened log run.image) changes

pub data IsDoing (run : Setting) (log : List Record) (s : ℕ) (p : Progress) : Type 0 where
  Idle : p.due ≡ [] → p.want ≡ None → Opens run log s p.tran → IsDoing run log s p
  Changing : (changes : List Planned) (own : Bool) → p.due ≡ change_items p.tran changes own → p.want ≡ None → Owns run log s p.tran → has_undone log p.tran ≡ false
      → ArePlannedIn run log p.tran changes → IsDoing run log s p
  Undoing : p.due ≡ abort_items p.tran (left_of p.tran (log ++ run.opened)) → p.want ≡ None → Owns run log s p.tran → IsDoing run log s p
  Checking : (index outcome : ℕ) → p.due ≡ CheckEnd s index outcome ∷ [] → p.want ≡ Some (CheckEnd s index 3)
      → (has_form (CheckEnd s index outcome) ≡ true) × (has_form (CheckEnd s index 3) ≡ true) → Opens run log s p.tran → IsDoing run log s p

-- the item's transaction is none, a new one, or one of the session
abbrev pub IsOwn : Setting → List Record → ℕ → Record → Type 0
IsOwn run log s x = (tran_of x ≡ 0) ⊎ ((has_started (log ++ run.opened) (tran_of x) ≡ false) ⊎ (starter_of log (tran_of x) ≡ s))

-- the item may come, and leaves the session doing the rest
pub record StepsTo (run : Setting) (log : List Record) (s : ℕ) (w : Progress) (x : Record) : Type 0 where
  pub form : has_form x ≡ true
  pub belongs : session_of log x ≡ s
  pub own : IsOwn run log s x
  pub follows : Follows run.geometry (length run.image) (log ++ run.opened) x
  pub fits : Fits run.opened log run.image x
  pub puts : PutsBytes x
  pub after : IsDoing run (x ∷ log) s (moved w x)
