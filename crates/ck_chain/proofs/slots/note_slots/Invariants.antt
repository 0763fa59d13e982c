use Rattle.ck_error.specs.Gathered.{Adds, Below}
use Rattle.pg_iam.specs.Views.{bytes_of}
use Rattle.ck_chain.specs.Pages.{SlotBehind}
use Rattle.ck_chain.proofs.slots.note_slots.Given as goal

abbrev pub invariant-loop-i : goal.invariant-loop-i
invariant-loop-i l = Adds l.initial.errors.items l.errors.items (Below l.i (SlotBehind l.pages l.id l.q (bytes_of l.iam)))
