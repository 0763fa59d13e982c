-- What a session of a legal history is doing: what it owes, and what its open transaction holds.
use Rattle.std.proofs.Common.{ℕ, Bool, List, [], ◌∷◌, ◌++◌, map}
use Rattle.std.specs.Prelude.{if◌then◌else◌}
use Rattle.spec_log.specs.declared.item.Record.{Record}
use Rattle.spec_log.specs.declared.item.Record.TheVariants.{Commit, Abort}
use Rattle.spec_plan.specs.declared.plan.Planned.{Planned}
use Rattle.spec_run.specs.Shapes.{change_item, undo_items}

-- changes that a session still owes, and the Commit of a transaction that is the statement's own
abbrev pub change_items : ℕ → List Planned → Bool → List Record
change_items t changes own = map (change_item t) changes ++ (if own then Commit (record { 0 = t }) ∷ [] else [])

-- the Undos that a session owes, and the Abort
abbrev pub abort_items : ℕ → List (ℕ × Record) → List Record
abort_items t left = undo_items t left ++ Abort (record { 0 = t }) ∷ []
