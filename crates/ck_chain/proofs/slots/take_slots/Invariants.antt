use Rattle.ck_error.specs.Gathered.{Adds, Below}
use Rattle.pg_iam.specs.Views.{bytes_of}
use Rattle.ck_chain.specs.Pages.{SlotHolds}
use Rattle.ck_chain.proofs.slots.take_slots.Given as goal

abbrev pub invariant-loop-i : goal.invariant-loop-i
invariant-loop-i l = Adds l.initial.uses.items l.uses.items (Below l.i (SlotHolds l.pages l.id (bytes_of l.iam)))
