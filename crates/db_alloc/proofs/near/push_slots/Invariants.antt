use Rattle.db_alloc.specs.Near.{Includes}
use Rattle.db_alloc.specs.Tables.{numbers}
use Rattle.db_alloc.proofs.NearPages.{IsInSlots}
use Rattle.db_alloc.proofs.near.push_slots.Given as goal

abbrev pub invariant-loop-q : goal.invariant-loop-q
invariant-loop-q l = Includes l.pages (IsInSlots (numbers l.slots) l.q-index) l.initial.found.items l.found.items
