-- A view in memory is one of a file, whose pages are shown as they are seen.
use Rattle.std.specs.Prelude.{IsTrue, refl}
use Rattle.spec_file.specs.Places.{HasShape}
use Rattle.db_locks.specs.declared.memory.MemView.{MemView}
use Rattle.db_locks.specs.States.{AreImages}
use Rattle.db_locks.specs.Memory.{state_of}

pub size_of : (m : MemView) → HasShape (state_of m).view.shape.geometry (state_of m).view.shape.pages
size_of m = m.now.file

pub images_of : (m : MemView) → IsTrue (state_of m).told → AreImages (state_of m)
images_of m told = record {
  start = m.began;
  now = m.now;
  first = m.began;
  shown = m.now;
  taken = λ r mine p i j here low guarded. refl;
  before = λ r mine p i j here low guarded. refl;
  moved = m.only;
  written = m.only;
}
