-- What a call that only reads leaves of a reader.
use Rattle.std.specs.Prelude.{◌≡◌, ◌≤◌, IsTrue, Option}
use Rattle.pg_base.specs.declared.reader.SnapReader.{Ghosts}
use Rattle.pg_base.specs.declared.reader.ReadStop.{ReadStop}
use Rattle.pg_base.specs.Stops.{StopsFor}

-- what a call leaves of a reader that it only reads, with the cause of its stop: the number of pages, the image and
-- the bound stay, an end that has come stays, and the count of faults doesn't fall
pub record OnlyReads {X : Type 0} (r : Ghosts X) (old new : X) (end : Option ReadStop) : Type 0 where
  pub pages : r.pages new ≡ r.pages old
  pub image : r.image new ≡ r.image old
  pub bound : r.bound new ≡ r.bound old
  pub ended : IsTrue (r.ended old) → IsTrue (r.ended new)
  pub faults : r.faults old ≤ r.faults new
  pub stop : StopsFor (r.faults old) (r.faults new) (r.failed old) (r.failed new) (r.ended new) end
