-- Calls that only read, one after another.
use Rattle.std.proofs.Common.{◌≡◌, ◌≤◌, ℕ, Bool, IsTrue, Option, Some, None, Result, Ok, Err, refl, sym, ◌∙◌, subst, arith}
use Rattle.pg_base.specs.declared.reader.SnapReader.{Ghosts}
use Rattle.pg_base.specs.declared.reader.ReadStop.{ReadStop}
use Rattle.pg_base.specs.declared.reader.ReadStop.TheVariants.{Fault, Ended, NoMemory}
use Rattle.pg_base.specs.Faults.{Rose}
use Rattle.pg_base.specs.Stops.{FailedNone, FailedAt, StopsFor}
use Rattle.pg_base.specs.Reading.{OnlyReads}

none_then : (f g h : ℕ) (x y z : Option ℕ) → FailedNone f g x y → FailedNone g h y z → FailedNone f h x z
none_then f g h x y z a b = record { faults = b.faults ∙ a.faults; failed = b.failed ∙ a.failed }

stops_then : (f g h : ℕ) (x y z : Option ℕ) (e : Bool) (stop : Option ReadStop) → FailedNone f g x y → StopsFor g h y z e stop → StopsFor f h x z e stop
stops_then f g h x y z e None a b = none_then f g h x y z a b
stops_then f g h x y z e (Some (Fault q)) a b = record { rose = subst (λ k. Rose k h) a.faults b.rose; page = b.page }
stops_then f g h x y z e (Some Ended) a b = (none_then f g h x y z a b.0, b.1)
stops_then f g h x y z e (Some NoMemory) a b = none_then f g h x y z a b

-- a call behind one that came to its end
pub reads_then : {X : Type 0} (r : Ghosts X) (a b c : X) (stop : Option ReadStop) → OnlyReads r a b None → OnlyReads r b c stop → OnlyReads r a c stop
reads_then r a b c stop p q = record {
  pages = q.pages ∙ p.pages;
  image = q.image ∙ p.image;
  bound = q.bound ∙ p.bound;
  ended = λ e. q.ended (p.ended e);
  faults = omega (arith, p.faults, q.faults);
  stop = stops_then (r.faults a) (r.faults b) (r.faults c) (r.failed a) (r.failed b) (r.failed c) (r.ended c) stop p.stop q.stop;
}

-- before anything is read
pub reads_none : {X : Type 0} (r : Ghosts X) (a : X) → OnlyReads r a a None
reads_none r a = record { pages = refl; image = refl; bound = refl; ended = λ e. e; faults = omega arith; stop = record { faults = refl; failed = refl } }

-- and where memory then runs out
pub reads_want : {X : Type 0} (r : Ghosts X) (a b : X) → OnlyReads r a b None → OnlyReads r a b (Some NoMemory)
reads_want r a b p = record { pages = p.pages; image = p.image; bound = p.bound; ended = p.ended; faults = p.faults; stop = p.stop }
