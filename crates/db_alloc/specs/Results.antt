-- What the results of calls on tables stand for, in the words of plans.
use Rattle.std.specs.Prelude.{ℕ, List, Result, Ok, Err}
use Rattle.spec_plan.specs.Refusals.{no_table, no_room}
use Rattle.db_locks.specs.Does.{Stop, WasRefused, stop_of}
use Rattle.db_alloc.specs.declared.find.FindStop.{FindStop}
use Rattle.db_alloc.specs.declared.find.FindStop.TheVariants.{Page, NoTable}
use Rattle.db_alloc.specs.declared.single.AllocStop.{AllocStop}
use Rattle.db_alloc.specs.declared.single.AllocStop.TheVariants as alloc

-- a result whose value stands for another
abbrev pub value_as : {A B E : Type 0} → (A → B) → Result A E → Result B E
value_as f (Ok x) = Ok (f x)
value_as f (Err e) = Err e

-- why no table of this name is found
abbrev pub find_stop : List ℕ → FindStop → Stop
find_stop name (Page e) = stop_of e
find_stop name NoTable = WasRefused (no_table name)

-- why no page is given
abbrev pub alloc_stop : AllocStop → Stop
alloc_stop (alloc.Page e) = stop_of e
alloc_stop alloc.Full = WasRefused no_room
