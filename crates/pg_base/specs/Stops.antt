-- Why a call that only reads stopped.
use Rattle.std.specs.Prelude.{◌≡◌, ℕ, Bool, IsTrue, Option, Some, None, Result, Ok, Err}
use Rattle.pg_base.specs.declared.reader.ReadStop.{ReadStop}
use Rattle.pg_base.specs.declared.reader.ReadStop.TheVariants.{Fault, Ended, NoMemory}
use Rattle.pg_base.specs.Faults.{Rose}

-- the stop of an answer, none where the call came to its end
abbrev pub stop_of : {T : Type 0} → Result T ReadStop → Option ReadStop
stop_of (Ok value) = None
stop_of (Err stop) = Some stop

-- no read failed: the count of faults stands as before, and so does the page of the last failed read
pub record FailedNone (faults_before faults_now : ℕ) (failed_before failed_now : Option ℕ) : Type 0 where
  pub faults : faults_now ≡ faults_before
  pub failed : failed_now ≡ failed_before

-- the last read was one of page p, and it failed: it raised the count, which no other read did
pub record FailedAt (p faults_before faults_now : ℕ) (failed_now : Option ℕ) : Type 0 where
  pub rose : Rose faults_before faults_now
  pub page : failed_now ≡ Some p

-- why a call stopped: by a read of the page that it names, which failed; by the reader's end, which has come; for
-- want of memory, which is free. Where it is not for a fault, no read of it failed.
abbrev pub StopsFor : ℕ → ℕ → Option ℕ → Option ℕ → Bool → Option ReadStop → Type 0
StopsFor before now failed_before failed_now ended None = FailedNone before now failed_before failed_now
StopsFor before now failed_before failed_now ended (Some (Fault q)) = FailedAt q.0 before now failed_now
StopsFor before now failed_before failed_now ended (Some Ended) = FailedNone before now failed_before failed_now × IsTrue ended
StopsFor before now failed_before failed_now ended (Some NoMemory) = FailedNone before now failed_before failed_now

-- a fault names no other page
abbrev pub NamesOnly : ℕ → Option ReadStop → Type 0
NamesOnly p None = Unit {0}
NamesOnly p (Some (Fault q)) = q.0 ≡ p
NamesOnly p (Some Ended) = Unit {0}
NamesOnly p (Some NoMemory) = Unit {0}
