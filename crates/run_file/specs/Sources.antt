-- Sources that are read to their ends, and what their texts say.
use Rattle.std.specs.Prelude.{◌≡◌, ℕ, List, ◌++◌, Option, IfSome, Result, Ok, Err, ⊤}
use Rattle.std.specs.Io.KnownBytes.{prepend_known}
use Rattle.spec_script.specs.Texts.{IsWrongAt}
use Rattle.spec_start.specs.Sources.{IsFirstWrong, IsFirstOf, HasFailedScript, HasFailedSource}
use Rattle.run_file.specs.declared.stop.SourcesStop.{SourcesStop}
use Rattle.run_file.specs.declared.stop.SourcesStop.TheVariants as sources
use Rattle.run_file.specs.declared.stop.TextStop.{TextStop}
use Rattle.run_file.specs.declared.stop.TextStop.TheVariants as text

-- bytes were moved from a source to the end of these
pub record Moves (before now : List ℕ) (old new : Option (List ℕ)) : Type 0 where
  pub piece : List ℕ
  pub grown : now ≡ before ++ piece
  pub moved : old ≡ prepend_known piece new

-- a fault names the first wrong line of the source's text, where that is told, and why
abbrev pub TextFault : {X T : Type 0} → (List ℕ → X → Type 0) → Option (List ℕ) → Result T TextStop → Type 0
TextFault IsLine left (Err (text.Fault line why)) = IfSome left (λ bytes. IsWrongAt IsLine bytes line why)
TextFault IsLine left (Err text.Failed) = ⊤
TextFault IsLine left (Err text.NoMemory) = ⊤
TextFault IsLine left (Ok value) = ⊤

-- a fault names this source
abbrev pub FaultAt : {X T : Type 0} → ℕ → (List ℕ → X → Type 0) → Option (List ℕ) → Result T SourcesStop → Type 0
FaultAt at IsLine left (Err (sources.Fault k line why)) = (k ≡ at) × IfSome left (λ bytes. IsWrongAt IsLine bytes line why)
FaultAt at IsLine left (Err sources.Failed) = ⊤
FaultAt at IsLine left (Err sources.NoMemory) = ⊤
FaultAt at IsLine left (Ok value) = ⊤

-- a fault names the first script that is wrong, and a failure comes where those before it are right
abbrev pub ScriptsFault : {T : Type 0} → List (Option (List ℕ)) → List ℕ → List ℕ → Result T SourcesStop → Type 0
ScriptsFault lefts before now (Err (sources.Fault k line why)) = IsFirstWrong lefts k line why
ScriptsFault lefts before now (Err sources.Failed) = HasFailedScript lefts before now
ScriptsFault lefts before now (Err sources.NoMemory) = ⊤
ScriptsFault lefts before now (Ok value) = ⊤

-- a fault names the first source that is wrong, and a failure comes where those before it are right
abbrev pub SourcesFault : {T : Type 0} → List (Option (List ℕ)) → List ℕ → List ℕ → Result T SourcesStop → Type 0
SourcesFault lefts before now (Err (sources.Fault k line why)) = IsFirstOf lefts k line why
SourcesFault lefts before now (Err sources.Failed) = HasFailedSource lefts before now
SourcesFault lefts before now (Err sources.NoMemory) = ⊤
SourcesFault lefts before now (Ok value) = ⊤
