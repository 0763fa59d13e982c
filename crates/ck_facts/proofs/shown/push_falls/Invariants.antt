use Rattle.std.proofs.Common.{◌≡◌, ◌-◌}
use Rattle.ck_error.specs.Gathered.{Adds, Below}
use Rattle.ck_facts.specs.Tested.{page_bytes, slot_key, FallsAt}
use Rattle.ck_facts.proofs.shown.push_falls.Given as goal

abbrev pub invariant-loop-slot : goal.invariant-loop-slot
invariant-loop-slot l = record {
  low : l.low ≡ slot_key (page_bytes l.page) (l.slot - 1);
  grown : Adds l.initial.errors.items l.errors.items (Below l.slot (FallsAt l.page.object.0 l.page.number.0 (page_bytes l.page)));
}
