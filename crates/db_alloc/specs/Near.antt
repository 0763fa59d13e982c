-- Pages near those of a table: a few of the file, among which all of its own are.
use Rattle.std.specs.Prelude.{◌≡◌, ℕ, ◌+◌, ◌-◌, ◌*◌, ◌/◌, ◌%◌, ◌<◌, ◌≤◌, ◌==◌, ◌&&◌, nat_lt, Bool, true, List, Contains, slice_index, All, filter, map}
use Rattle.std.specs.Int.{bit_at}
use Rattle.std.specs.List.Sorted.{IsStrictlyIncreasing}

-- the list has grown by pages of a file that has so many, all that are so among them
pub record Includes (pages : ℕ) (Is : ℕ → Type 0) (old new : List ℕ) : Type 0 where
  pub kept : (p : ℕ) → Contains old p → Contains new p
  pub inside : All (λ p. p < pages) old → All (λ p. p < pages) new
  pub all : (p : ℕ) → p < pages → Is p → Contains new p

-- the extent of page p is one of the eight of a byte of marks, the lowest being e, and its bit is set
abbrev pub IsInByte : ℕ → ℕ → ℕ → Type 0
IsInByte byte e p = (e ≤ p / 8) × (p / 8 < e + 8) × (bit_at byte (p / 8 - e) ≡ 1)

-- it is one of the first bytes of marks, whose lowest bit is that of extent `first`
abbrev pub IsInBytes : List ℕ → ℕ → ℕ → ℕ → Type 0
IsInBytes bytes first count p = (n : ℕ) × (n < count) × IsInByte (slice_index bytes (136 + n)) (first + 8 * n) p

-- rising pages of a file that has so many, among which are all that pass the test
pub record AreNear (pages : ℕ) (test : ℕ → Bool) (near : List ℕ) : Type 0 where
  pub rise : IsStrictlyIncreasing near
  pub inside : All (λ p. p < pages) near
  pub all : (p : ℕ) → p < pages → test p ≡ true → Contains near p

-- the extents of a file that has so many pages whose first pages are among these
abbrev pub whole_extents : ℕ → List ℕ → List ℕ
whole_extents pages near = map (λ p. p / 8) (filter (λ p. (p % 8 == 0) && nat_lt (p / 8) (pages / 8)) near)
