-- Why the file of a run is not opened.
use Rattle.std.specs.Prelude.{◌≡◌, ℕ, ◌*◌, true, IsTrue, List, length, Option, IfSome, Result, Ok, Err, ⊤}
use Rattle.spec_file.specs.Image.{Image, page_size, page}
use Rattle.spec_file.specs.FileForm.{size_passes}
use Rattle.run_file.specs.declared.why.FileStop.{FileStop}
use Rattle.run_file.specs.declared.why.FileStop.TheVariants.{Refused, Failed, NoMemory}
use Rattle.spec_start.specs.declared.why.FileWhy.TheVariants as why
use Rattle.spec_start.specs.Files.{has_clustered_table, IsRefusedForRun}

-- what a stop says of the file, where that is told: no memory is wanted before the size has passed
abbrev pub StopSays : Option (List ℕ) → FileStop → Type 0
StopSays told (Refused w) = IfSome told (IsRefusedForRun w)
StopSays told Failed = ⊤
StopSays told NoMemory = IfSome told (λ bytes. IsTrue (size_passes (length bytes)))

abbrev pub FileFault : {T : Type 0} → Option (List ℕ) → Result T FileStop → Type 0
FileFault told (Err stop) = StopSays told stop
FileFault told (Ok value) = ⊤

-- these pages in memory have a clustered table
abbrev pub IsLater : Image → FileStop → Type 0
IsLater image (Refused w) = (w ≡ why.Later) × (has_clustered_table (page image 9) ≡ true)
IsLater image Failed = ⊥
IsLater image NoMemory = ⊤

-- a file of so many pages whose size passes
abbrev pub HasPages : ℕ → List ℕ → Type 0
HasPages pages bytes = (length bytes ≡ page_size * pages) × IsTrue (size_passes (length bytes))
