-- Legal histories, turns and runs (this project's own). A history is the list of its entries, the newest first.
use Rattle.std.specs.Prelude.{◌≡◌, ℕ, ◌<◌, ◌≤◌, false, List, [], ◌∷◌, length, reverse, Some, None}
use Rattle.spec_file.specs.declared.geometry.Geometry.{Geometry}
use Rattle.spec_log.specs.declared.item.Record.{Record}
use Rattle.spec_log.specs.declared.item.Record.TheVariants.{Snap, CheckEnd}
use Rattle.spec_script.specs.declared.reply.Reply.{Reply}
use Rattle.spec_run.specs.Entries.{Entry, Item, Undone, items_of, is_undone, AreMarked}
use Rattle.spec_run.specs.Begun.{Setting, Telling, Tells}
use Rattle.spec_run.specs.Progress.{progress_of, work_of, next_of, MayCome}

-- a session of the run
abbrev pub IsSession : Setting → ℕ → Type 0
IsSession run s = (0 < s) × (s ≤ length run.scripts)

-- each item is one that may come next in a session
abbrev pub IsLegal : Setting → List Record → Type 0
IsLegal run [] = Unit {0}
IsLegal run (x ∷ older) = ((s : ℕ) × IsSession run s × MayCome (work_of run s older) x) × IsLegal run older

-- one reply for each telling, in their order
abbrev pub AreTold : Geometry → List Telling → List Reply → Type 0
AreTold g [] [] = Unit {0}
AreTold g [] (reply ∷ replies) = ⊥
AreTold g (told ∷ tellings) [] = ⊥
AreTold g (told ∷ tellings) (reply ∷ replies) = Tells g told reply × AreTold g tellings replies

-- what a session was told, the oldest first
abbrev pub told_to : Setting → ℕ → List Record → List Telling
told_to run s log = reverse (progress_of run s log).told

-- a history with its replies, those of each session in order: its items are legal, its marks stand where a check
-- is under way, and each finished statement has a reply that it may have
pub record IsLegalRun (run : Setting) (entries : List Entry) (replies : ℕ → List Reply) : Type 0 where
  pub legal : IsLegal run (items_of entries)
  pub marked : AreMarked entries
  pub told : (s : ℕ) → IsSession run s → AreTold run.geometry (told_to run s (items_of entries)) (replies s)

-- each session's statements are all finished
abbrev pub IsWhole : Setting → List Entry → Type 0
IsWhole run entries = (s : ℕ) → IsSession run s → next_of run s (items_of entries) ≡ None

-- the session is in the middle of a check: its next item is a CheckEnd
pub record IsChecking (run : Setting) (s : ℕ) (entries : List Entry) (index : ℕ) : Type 0 where
  pub outcome : ℕ
  pub is_next : next_of run s (items_of entries) ≡ Some (CheckEnd s index outcome)

-- a turn of a session
pub data Turn (run : Setting) (s : ℕ) (old new : List Entry) : Type 0 where
  -- its script is done: nothing happens
  Rests : next_of run s (items_of old) ≡ None → new ≡ old → Turn run s old new
  -- it appends its next item
  Appends : (x : Record) → MayCome (work_of run s (items_of old)) x → new ≡ Item x ∷ old → Turn run s old new
  -- its check begins and finds no memory for its snapshot
  EndsAtOnce : (index : ℕ) → MayCome (work_of run s (items_of old)) (Snap s index) → new ≡ Item (CheckEnd s index 3) ∷ (Item (Snap s index) ∷ old)
      → Turn run s old new
  -- its check takes one item back, or reads pages
  Goes : (index : ℕ) → IsChecking run s old index → new ≡ old → Turn run s old new
  -- its check finds for the first time that no item is left to take back
  Marks : (index : ℕ) → IsChecking run s old index → is_undone old s index ≡ false → new ≡ Undone s index ∷ old → Turn run s old new

-- turns of sessions, one after another
abbrev pub Run : Setting → List Entry → List ℕ → List Entry → Type 0
Run run old [] new = new ≡ old
Run run old (s ∷ turns) new = (mid : List Entry) × Turn run s old mid × Run run mid turns new
