-- How many turns statements take at most (the bound of a check is this project's own).
use Rattle.std.specs.Prelude.{◌≡◌, ℕ, ◌+◌, ◌*◌, ◌<◌, ◌≤◌, List, [], ◌∷◌, ◌++◌, length, count_by}
use Rattle.spec_log.specs.declared.item.Record.{Record}
use Rattle.spec_log.specs.declared.item.Record.TheVariants.{Snap}
use Rattle.spec_log.specs.Items.{tran_of}
use Rattle.spec_log.specs.Log.{is_unfinished}
use Rattle.spec_run.specs.Entries.{Entry, Item, items_of}
use Rattle.spec_run.specs.Begun.{Setting}
use Rattle.spec_run.specs.Progress.{progress_of}
use Rattle.spec_run.specs.Turns.{IsSession, Turn}

-- how many items of a log are of transactions that it leaves unfinished
abbrev pub unfinished_items : List Record → ℕ
unfinished_items log = count_by (λ x. is_unfinished log (tran_of x)) log

-- how many turns a check takes at most behind its Snap, which follows these items of the run
abbrev pub most_turns : Setting → List Record → ℕ
most_turns run log = unfinished_items (log ++ run.opened) + 2 * length run.image + 3

-- a statement of the session is under way: it owes items
abbrev pub IsAtWork : Setting → ℕ → List Entry → Type 0
IsAtWork run s entries = (progress_of run s (items_of entries)).due ≡ [] → ⊥

-- how many turns the statement that is under way in each session still takes at most
abbrev pub TurnsLeft : Type 0
TurnsLeft = ℕ → ℕ

-- a turn of a session: its statement that is under way has fewer turns left behind it, a check that begins has no
-- more than its bound, and what other sessions have left stays
pub record TakesTurn (run : Setting) (s : ℕ) (old new : List Entry) (left after : TurnsLeft) : Type 0 where
  pub fewer : IsAtWork run s old → after s < left s
  pub begins : (index : ℕ) → new ≡ Item (Snap s index) ∷ old → after s ≤ most_turns run (items_of old)
  pub others : (t : ℕ) → IsSession run t → (t ≡ s → ⊥) → after t ≡ left t

-- turns of sessions, one after another, each of which takes from what its session has left: so a check that begins
-- among them ends within its bound
abbrev pub RunWithin : Setting → TurnsLeft → List Entry → List ℕ → TurnsLeft → List Entry → Type 0
RunWithin run left old [] after new = (new ≡ old) × (after ≡ left)
RunWithin run left old (s ∷ turns) after new =
    (mid : List Entry) × (between : TurnsLeft) × Turn run s old mid × TakesTurn run s old mid left between × RunWithin run between mid turns after new
