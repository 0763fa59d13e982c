-- The items of each session, taken by themselves, are its statements in order, each once. The last may be
-- unfinished. `opened` is the log as the call finds it, `log` what the run has appended, the newest first.
use Rattle.std.specs.Prelude.{◌≡◌, ℕ, zero, suc, ◌+◌, ◌<◌, ◌≤◌, ◌==◌, if◌then◌else◌, List, [], ◌∷◌, ◌++◌, length, ◌⊎◌}
use Rattle.spec_file.specs.declared.geometry.Geometry.{Geometry}
use Rattle.spec_file.specs.Image.{Image}
use Rattle.spec_log.specs.declared.item.Record.{Record}
use Rattle.spec_log.specs.declared.item.Record.TheVariants.{Start, Change, Undo, Commit, Abort, Snap, Failed, CheckEnd}
use Rattle.spec_log.specs.Sound.{IsSound}
use Rattle.spec_run.specs.Entries.{Entry, items_of, AreMarked}
use Rattle.spec_run.specs.Shapes.{Shape, items_by, FitsRecord}

-- the session whose Start has the transaction, 0 where there is none
abbrev pub starter_of : List Record → ℕ → ℕ
starter_of [] t = 0
starter_of (Start session index tran number changes size takes ∷ older) t = if tran.0 == t then session else starter_of older t
starter_of (other ∷ older) t = starter_of older t

-- the session that an item belongs to: a Change, an Undo, a Commit and an Abort belong to the session whose
-- Start has their transaction
abbrev pub session_of : List Record → Record → ℕ
session_of older (Start session index tran number changes size takes) = session
session_of older (Change tran cell before after) = starter_of older tran.0
session_of older (Undo tran change) = starter_of older tran.0
session_of older (Commit tran) = starter_of older tran.0
session_of older (Abort tran) = starter_of older tran.0
session_of older (Snap session index) = session
session_of older (Failed session index page) = session
session_of older (CheckEnd session index outcome) = session

-- an item of a session, and the items before it
pub record Placed : Type 0 where
  pub item : Record
  pub before : List Record

-- the session's items in the order in which they were appended, each with the log before it
abbrev pub placed_of : ℕ → List Record → List Placed
placed_of s [] = []
placed_of s (x ∷ older) = placed_of s older ++ (if session_of older x == s then record { item = x; before = older } ∷ [] else [])

-- the open transaction of a session after an item of it
abbrev pub open_after : ℕ → Record → ℕ
open_after t (Start session index tran number changes size takes) = tran.0
open_after t (Commit tran) = 0
open_after t (Abort tran) = 0
open_after t other = t

-- the open transaction of a session, 0 where it has none
abbrev pub open_of : ℕ → List Record → ℕ
open_of s [] = 0
open_of s (x ∷ older) = if session_of older x == s then open_after (open_of s older) x else open_of s older

-- the placed items are these items
abbrev pub AreItems : List Placed → List Record → Type 0
AreItems [] [] = Unit {0}
AreItems [] (x ∷ xs) = ⊥
AreItems (p ∷ ps) [] = ⊥
AreItems (p ∷ ps) (x ∷ xs) = (p.item ≡ x) × AreItems ps xs

-- what stands before the first of these items, nothing where there is none
abbrev pub log_before : List Placed → List Record
log_before [] = []
log_before (p ∷ ps) = p.before

-- statement i of session s, as far as its items stand: all of them, or the first of them
pub record Stands (opened : List Record) (s i : ℕ) (placed : List Placed) (owed : List Record) : Type 0 where
  pub shape : Shape
  pub all_items : List Record
  pub are_items : AreItems placed all_items
  pub shows_begun : 0 < length placed
  pub shows_all : items_by s i shape ≡ all_items ++ owed
  pub fits : FitsRecord (log_before placed ++ opened) (open_of s (log_before placed)) shape

-- the session's items are so many finished statements from number i on, and maybe one that still owes items
abbrev pub AreStatements : List Record → ℕ → ℕ → ℕ → List Placed → Type 0
AreStatements opened s i zero placed = (placed ≡ []) ⊎ ((owed : List Record) × (0 < length owed) × Stands opened s i placed owed)
AreStatements opened s i (suc done) placed =
    (first : List Placed) × (rest : List Placed) × (placed ≡ first ++ rest) × Stands opened s i first [] × AreStatements opened s (i + 1) done rest

-- the same, with none unfinished
abbrev pub AreFinished : List Record → ℕ → ℕ → ℕ → List Placed → Type 0
AreFinished opened s i zero placed = placed ≡ []
AreFinished opened s i (suc done) placed =
    (first : List Placed) × (rest : List Placed) × (placed ≡ first ++ rest) × Stands opened s i first [] × AreFinished opened s (i + 1) done rest

-- each item belongs to one of so many sessions
abbrev pub AreOwned : ℕ → List Record → Type 0
AreOwned sessions [] = Unit {0}
AreOwned sessions (x ∷ older) = (0 < session_of older x) × (session_of older x ≤ sessions) × AreOwned sessions older

-- what a legal history asks of the items and marks alone: its log is sound, each item belongs to a session,
-- the items of each are its statements in order, and marks stand where a check is under way
pub record HasLegalItems (g : Geometry) (opened : List Record) (b : Image) (sessions : ℕ) (entries : List Entry) : Type 0 where
  pub sound : IsSound g (length b) opened b (items_of entries)
  pub owned : AreOwned sessions (items_of entries)
  pub statements : (s : ℕ) → 0 < s → s ≤ sessions → (done : ℕ) × AreStatements opened s 1 done (placed_of s (items_of entries))
  pub marked : AreMarked entries

-- besides, each session has finished all statements of its script; `counts` gives how many that are
abbrev pub HasWholeItems : List Record → (ℕ → ℕ) → ℕ → List Entry → Type 0
HasWholeItems opened counts sessions entries =
    (s : ℕ) → 0 < s → s ≤ sessions → AreFinished opened s 1 (counts s) (placed_of s (items_of entries))
