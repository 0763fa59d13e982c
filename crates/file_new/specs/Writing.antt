-- What stands on a volume behind each answer of the writing of a new file (this project's own).
use Rattle.std.specs.Prelude.{◌≡◌, ◌≢◌, ◌⊎◌, ℕ, ◌<◌, List, [], take, Option, option_map, IfSome, Result, Ok, Err}
use Rattle.spec_file.specs.declared.geometry.Geometry.{Geometry}
use Rattle.spec_file.specs.Image.{bytes_of}
use Rattle.vol_dev.specs.Devices.{MayHaveSpoiled}
use Rattle.spec_make.specs.NewPages.{new_file}
use Rattle.file_new.specs.declared.write.NewStop.{NewStop}
use Rattle.file_new.specs.declared.write.NewStop.TheVariants.{NotEmpty, Failed, NoMemory}

-- the first n pages of a new file, on a volume that tells what it holds
abbrev pub written : Geometry → ℕ → ℕ → Option (List ℕ) → Option (List ℕ)
written g pages n told = option_map (λ bytes. bytes_of (take n (new_file g pages))) told

-- the write of a page failed: those before it stand there, and it left all so, or spoiled its own place alone
pub record StopsWriting (g : Geometry) (pages : ℕ) (before now : Option (List ℕ)) : Type 0 where
  pub page : ℕ
  pub within : page < pages
  pub left : MayHaveSpoiled (written g pages page before) now page

-- the volume was empty
abbrev pub WasEmpty : Option (List ℕ) → Type 0
WasEmpty before = IfSome before (λ bytes. bytes ≡ [])

-- what stands there
abbrev pub Creates : Geometry → ℕ → Option (List ℕ) → Option (List ℕ) → Result (Unit {0}) NewStop → Type 0
Creates g pages before now (Ok done) = WasEmpty before × (now ≡ written g pages pages before)
Creates g pages before now (Err NotEmpty) = IfSome before (λ bytes. bytes ≢ []) × (now ≡ before)
Creates g pages before now (Err NoMemory) = WasEmpty before × (now ≡ before)
Creates g pages before now (Err Failed) = (now ≡ before) ⊎ (WasEmpty before × StopsWriting g pages before now)
