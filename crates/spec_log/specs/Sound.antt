-- What a run appends: its log keeps the rules after the opened one, no item is of a transaction of the
-- opened log, each Change found what its transaction sees, and what is rolled back doesn't commit.
use Rattle.std.specs.Prelude.{◌≡◌, ℕ, ◌&&◌, nat_lt, Bool, true, false, List, [], ◌∷◌, ◌++◌, length}
use Rattle.spec_file.specs.declared.geometry.Geometry.{Geometry}
use Rattle.spec_file.specs.Image.{Image}
use Rattle.spec_log.specs.declared.item.Record.{Record}
use Rattle.spec_log.specs.declared.item.Record.TheVariants.{Start, Change, Undo, Commit, Abort, Snap, Failed, CheckEnd}
use Rattle.spec_log.specs.Items.{has_form}
use Rattle.spec_log.specs.Log.{has_started, has_undone}
use Rattle.spec_log.specs.Rules.{Follows, KeepsRules, HaveForm}
use Rattle.spec_log.specs.Cells.{read_cell}
use Rattle.spec_log.specs.Images.{view_of}

-- a transaction of the opened log
abbrev pub is_old : List Record → ℕ → Bool
is_old opened t = nat_lt 0 t && has_started opened t

-- the item is this run's own, and fits what its transaction sees
abbrev pub Fits : List Record → List Record → Image → Record → Type 0
Fits opened log b (Start session index tran number changes size takes) = is_old opened tran.0 ≡ false
Fits opened log b (Change tran cell before after) =
    (is_old opened tran.0 ≡ false) × (read_cell (view_of tran.0 opened log b) cell (length before) ≡ before)
Fits opened log b (Undo tran change) = is_old opened tran.0 ≡ false
Fits opened log b (Commit tran) = (is_old opened tran.0 ≡ false) × (has_undone log tran.0 ≡ false)
Fits opened log b (Abort tran) = is_old opened tran.0 ≡ false
Fits opened log b (Snap session index) = Unit {0}
Fits opened log b (Failed session index page) = Unit {0}
Fits opened log b (CheckEnd session index outcome) = Unit {0}

-- the opened log keeps the rules, and so does each item of this run, which fits
abbrev pub IsSound : Geometry → ℕ → List Record → Image → List Record → Type 0
IsSound g pages opened b [] = HaveForm opened × KeepsRules g pages opened
IsSound g pages opened b (x ∷ older) =
    (has_form x ≡ true) × Follows g pages (older ++ opened) x × Fits opened older b x × IsSound g pages opened b older
