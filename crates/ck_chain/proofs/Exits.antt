-- What a call leaves of a reader where it stops behind calls that came to their end.
use Rattle.std.proofs.Common.{◌≡◌, None, Result}
use Rattle.std.specs.Result.{IsErrAnd}
use Rattle.std.proofs.lemmas.Result.{err_from_is_err_and}
use Rattle.pg_base.specs.declared.reader.SnapReader.{Ghosts}
use Rattle.pg_base.specs.declared.reader.ReadStop.{ReadStop}
use Rattle.pg_base.specs.declared.reader.ReadStop.TheVariants.{NoMemory}
use Rattle.pg_base.specs.Stops.{stop_of}
use Rattle.pg_base.specs.Reading.{OnlyReads}
use Rattle.pg_base.proofs.ReadingLaws.{reads_want}

-- memory runs out behind a call that came to its end
pub exit_wants : {X T : Type 0} (r : Ghosts X) (a b : X) (result : Result T ReadStop) → IsErrAnd result (λ stop. stop ≡ NoMemory)
    → OnlyReads r a b None → OnlyReads r a b (stop_of result)
exit_wants r a b result h reads = let p = err_from_is_err_and result h in rw (p.1, p.2) (reads_want r a b reads)
