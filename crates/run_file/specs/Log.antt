-- Which logs are not taken.
use Rattle.std.specs.Prelude.{◌≢◌, ℕ, ◌<◌, ◌≤◌, List, [], length, Option, IfSome, Result, Ok, Err, ⊤}
use Rattle.spec_log.specs.declared.limits.TheConstants.{LONGEST_LOG}
use Rattle.run_file.specs.declared.log.LogWhy.{LogWhy}
use Rattle.run_file.specs.declared.log.LogWhy.TheVariants.{Size, Later, Failed, NoMemory}

-- a log that is told is too long, or has some bytes and isn't too long
abbrev pub LogFault : {T : Type 0} → Option (List ℕ) → Result T LogWhy → Type 0
LogFault told (Err Size) = IfSome told (λ bytes. LONGEST_LOG < length bytes)
LogFault told (Err Later) = IfSome told (λ bytes. (bytes ≢ []) × (length bytes ≤ LONGEST_LOG))
LogFault told (Err Failed) = ⊤
LogFault told (Err NoMemory) = ⊤
LogFault told (Ok value) = ⊤
