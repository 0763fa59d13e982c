-- The rules of a whole log, tested item by item in the log's order (this project's own). The log belongs
-- to a file of a geometry, with so many pages.
use Rattle.std.specs.Prelude.{◌≡◌, ℕ, ◌+◌, true, List, [], ◌∷◌, ◌++◌, length, Some, ◌⊎◌}
use Rattle.std.specs.List.{list_any}
use Rattle.spec_file.specs.declared.data.Resource.{Resource}
use Rattle.spec_file.specs.declared.geometry.Geometry.{Geometry}
use Rattle.spec_log.specs.declared.item.Record.{Record}
use Rattle.spec_log.specs.declared.item.Record.TheVariants.{Start, Change, Undo, Commit, Abort, Snap, Failed, CheckEnd}
use Rattle.spec_log.specs.Items.{is_same, has_form}
use Rattle.spec_log.specs.Log.{is_unfinished, IsFreeFor, greatest_of, item_at, left_of}
use Rattle.spec_log.specs.Cover.{IsCovered}

-- a Start's transaction is unfinished, or one more than the greatest before, or none; then it takes nothing
abbrev pub MayStart : List Record → ℕ → List Resource → Type 0
MayStart log t takes = (is_unfinished log t ≡ true) ⊎ ((t ≡ greatest_of log + 1) ⊎ ((t ≡ 0) × (takes ≡ [])))

-- a Start takes nothing that another unfinished transaction holds
abbrev pub AreFreeFor : List Record → ℕ → List Resource → Type 0
AreFreeFor log t takes = (r : Resource) → list_any (is_same r) takes ≡ true → IsFreeFor log t r

-- an Undo names the newest change of its transaction that isn't undone
pub record IsLastLeft (log : List Record) (t lsn : ℕ) : Type 0 where
  pub change : Record
  pub others : List (ℕ × Record)
  pub is_last : left_of t log ≡ (lsn, change) ∷ others
  pub is_named : item_at log lsn ≡ Some change

-- the item may stand after this log
abbrev pub Follows : Geometry → ℕ → List Record → Record → Type 0
Follows g pages log (Start session index tran number changes size takes) = MayStart log tran.0 takes × AreFreeFor log tran.0 takes
Follows g pages log (Change tran cell before after) = (is_unfinished log tran.0 ≡ true) × IsCovered g pages log tran.0 cell (length after)
Follows g pages log (Undo tran change) = (is_unfinished log tran.0 ≡ true) × IsLastLeft log tran.0 change.0
Follows g pages log (Commit tran) = is_unfinished log tran.0 ≡ true
Follows g pages log (Abort tran) = (is_unfinished log tran.0 ≡ true) × (left_of tran.0 log ≡ [])
Follows g pages log (Snap session index) = Unit {0}
Follows g pages log (Failed session index page) = Unit {0}
Follows g pages log (CheckEnd session index outcome) = Unit {0}

-- each item may stand after those before it
abbrev pub KeepsRules : Geometry → ℕ → List Record → Type 0
KeepsRules g pages [] = Unit {0}
KeepsRules g pages (x ∷ older) = Follows g pages older x × KeepsRules g pages older

-- each item has its form
abbrev pub HaveForm : List Record → Type 0
HaveForm [] = Unit {0}
HaveForm (x ∷ older) = (has_form x ≡ true) × HaveForm older

-- the item with this LSN is the first that breaks a rule: those before it keep them
abbrev pub IsFirstBroken : Geometry → ℕ → List Record → ℕ → Type 0
IsFirstBroken g pages log lsn =
    (newer : List Record) × (x : Record) × (older : List Record) × (log ≡ newer ++ x ∷ older) × (lsn ≡ length older + 1)
    × KeepsRules g pages older × (Follows g pages older x → ⊥)
