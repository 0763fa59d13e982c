-- What a statement appends, the first item first. A record fixes the statement's place: its Start, or the
-- Snap of a check.
use Rattle.std.specs.Prelude.{◌≡◌, ◌≢◌, ℕ, ◌+◌, ◌<◌, ◌≤◌, ◌==◌, Bool, if◌then◌else◌, List, [], ◌∷◌, ◌++◌, length, map}
use Rattle.spec_file.specs.declared.data.Resource.{Resource}
use Rattle.spec_log.specs.declared.limits.TheConstants.{SHORT}
use Rattle.spec_log.specs.declared.item.Record.{Record}
use Rattle.spec_script.specs.declared.limits.TheConstants.{READ_FAULT}
use Rattle.spec_log.specs.declared.item.Record.TheVariants.{Start, Change, Undo, Commit, Abort, Snap, Failed, CheckEnd}
use Rattle.spec_log.specs.Log.{greatest_of, left_of}
use Rattle.spec_plan.specs.declared.plan.Planned.{Planned}
use Rattle.spec_plan.specs.Planned.{planned_size}

-- what becomes of a statement
pub data Shape : Type 0 where
  -- refused, with a number that isn't 0, nor that of a fault
  Refused : (tran number : ℕ) → Shape
  -- refused by a fault of the device at a page
  Faulted : (tran page : ℕ) → Shape
  -- BEGIN: a new transaction
  Opening : (tran : ℕ) → Shape
  -- SELECT and COUNT
  Reading : (tran : ℕ) → Shape
  -- INSERT, UPDATE, DELETE, CREATE, DROP: changes, and a Commit where the transaction is the statement's own
  Writing : (tran : ℕ) (takes : List Resource) (changes : List Planned) (own : Bool) → Shape
  Committing : (tran : ℕ) → Shape
  -- ROLLBACK: what is left to undo, the last first
  RollingBack : (tran : ℕ) (left : List (ℕ × Record)) → Shape
  -- DBCC CHECKDB: the pages whose reads failed, and the outcome
  Checking : (failed : List ℕ) (outcome : ℕ) → Shape

-- the Start of a statement without changes
abbrev pub plain_start : ℕ → ℕ → ℕ → ℕ → Record
plain_start s i t number = Start s i (record { 0 = t }) number 0 0 []

abbrev pub change_item : ℕ → Planned → Record
change_item t c = Change (record { 0 = t }) c.cell c.before c.after

-- one Undo for each change that is left, the last first
abbrev pub undo_items : ℕ → List (ℕ × Record) → List Record
undo_items t left = map (λ (p : ℕ × Record). Undo (record { 0 = t }) (record { 0 = p.0 })) left

-- the items of statement i of session s
abbrev pub items_by : ℕ → ℕ → Shape → List Record
items_by s i (Refused t number) = plain_start s i t number ∷ []
items_by s i (Faulted t page) = Failed s i (record { 0 = page }) ∷ plain_start s i t READ_FAULT ∷ []
items_by s i (Opening t) = plain_start s i t 0 ∷ []
items_by s i (Reading t) = plain_start s i t 0 ∷ []
items_by s i (Writing t takes changes own) =
    Start s i (record { 0 = t }) 0 (length changes) (planned_size changes) takes
    ∷ map (change_item t) changes ++ (if own then Commit (record { 0 = t }) ∷ [] else [])
items_by s i (Committing t) = plain_start s i t 0 ∷ Commit (record { 0 = t }) ∷ []
items_by s i (RollingBack t left) = plain_start s i t 0 ∷ undo_items t left ++ Abort (record { 0 = t }) ∷ []
items_by s i (Checking failed outcome) = Snap s i ∷ map (λ (p : ℕ). Failed s i (record { 0 = p })) failed ++ CheckEnd s i outcome ∷ []

-- the transaction of a writing statement: the session's open one, else the next number, its own
abbrev pub tran_to_write : List Record → ℕ → ℕ
tran_to_write log open_tran = if open_tran == 0 then greatest_of log + 1 else open_tran

-- what becomes of a statement fits the log before its record, and the session's open transaction
abbrev pub FitsRecord : List Record → ℕ → Shape → Type 0
FitsRecord log open_tran (Refused t number) = (t ≡ open_tran) × (0 < number) × (number ≢ READ_FAULT)
FitsRecord log open_tran (Faulted t page) = t ≡ open_tran
FitsRecord log open_tran (Opening t) = (open_tran ≡ 0) × (t ≡ greatest_of log + 1)
FitsRecord log open_tran (Reading t) = t ≡ open_tran
FitsRecord log open_tran (Writing t takes changes own) = (t ≡ tran_to_write log open_tran) × (own ≡ (open_tran == 0))
FitsRecord log open_tran (Committing t) = (t ≡ open_tran) × (0 < t)
FitsRecord log open_tran (RollingBack t left) = (t ≡ open_tran) × (0 < t) × (left ≡ left_of t log)
FitsRecord log open_tran (Checking failed outcome) = outcome ≤ SHORT
