-- Counts of faults.
use Rattle.std.specs.Prelude.{ℕ, ◌+◌, ◌-◌, ◌^◌, ◌≤◌, min}

-- a count of faults has risen. At its end it stands still, and counts as risen.
abbrev pub Rose : ℕ → ℕ → Type 0
Rose before now = min (before + 1) (2 ^ 64 - 1) ≤ now

-- what a call leaves of a device's count of faults: an answer that blames the device has raised it, and no call lowers it
pub record Counts (Blames : Type 0) (before now : ℕ) : Type 0 where
  pub cause : Blames → Rose before now
  pub later : before ≤ now
