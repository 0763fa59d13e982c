-- What a view in memory holds, and what it stands for.
use Rattle.std.specs.Prelude.{true, false}
use Rattle.db_locks.specs.declared.memory.MemView.{MemView}
use Rattle.db_locks.specs.Locks.{others_of}
use Rattle.db_locks.specs.MemImages.{shape_of, image_of}
use Rattle.db_locks.specs.States.{PlanState}

-- every page is shown as it is seen; what the locks name, other transactions hold; the own one held nothing
abbrev pub state_of : MemView → PlanState
state_of m = record {
  told = true;
  faults = 0;
  view = record {
    shape = shape_of m.geometry m.version m.pages.items;
    start = image_of m.first.items;
    now = image_of m.pages.items;
    other = others_of m.locks;
    own = λ r. false;
    taken = m.taken.items;
  };
  shown = image_of m.pages.items;
  first = image_of m.first.items;
  put = m.put.items;
}
