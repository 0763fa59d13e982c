-- What a call that reads by several readers leaves of them, and why it stopped.
use Rattle.std.specs.Prelude.{◌≡◌, ◌⊎◌, ℕ, ◌<◌, List, [], ◌∷◌, Option, Some, None, length, slice_index_or}
use Rattle.pg_base.specs.declared.reader.SnapReader.{Ghosts}
use Rattle.pg_base.specs.declared.reader.ReadStop.{ReadStop}
use Rattle.pg_base.specs.declared.reader.ReadStop.TheVariants.{NoMemory}
use Rattle.pg_base.specs.Reading.{OnlyReads}

-- the first stop of a list, if it has one
abbrev pub first_stop : List (Option ReadStop) → Option ReadStop
first_stop [] = None
first_stop (None ∷ stops) = first_stop stops
first_stop (Some stop ∷ stops) = Some stop

-- why a call ended: by the first stop of a list, or for want of memory where the list has none
abbrev pub EndsBy : List (Option ReadStop) → Option ReadStop → Type 0
EndsBy stops end = (end ≡ first_stop stops) ⊎ ((first_stop stops ≡ None) × (end ≡ Some NoMemory))

-- the readers stand in their order, each only read, until it stopped or all was read; and the call ended by the stop of
-- the first reader that has one
pub record AreRead {X : Type 0} (r : Ghosts X) (old new : List X) (end : Option ReadStop) : Type 0 where
  pub stops : List (Option ReadStop)
  pub long : length new ≡ length old
  pub stops_long : length stops ≡ length old
  pub each : (i : ℕ) (d : X) → i < length old → OnlyReads r (slice_index_or old i d) (slice_index_or new i d) (slice_index_or stops i None)
  pub ends : EndsBy stops end
