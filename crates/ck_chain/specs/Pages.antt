-- What one page of a chain gives, by its bytes.
use Rattle.std.specs.Prelude.{◌≡◌, ◌≢◌, ℕ, ◌+◌, ◌*◌, ◌≤◌, IsTrue, List}
use Rattle.spec_file.specs.declared.geometry.Geometry.{Geometry}
use Rattle.spec_file.specs.Places.{interval_size, is_inside}
use Rattle.spec_file.specs.Iam.{iam_interval, iam_sequence, iam_mark, iam_slot}
use Rattle.spec_chain.specs.Chains.{prev_of}
use Rattle.spec_check.specs.declared.report.CheckError.{CheckError}
use Rattle.spec_check.specs.Chains.{error}
use Rattle.ck_facts.specs.declared.map.PageUse.{PageUse}

-- page q of object id doesn't name the page before it, which is `before`
abbrev pub PrevDiffers : ℕ → ℕ → ℕ → List ℕ → CheckError → Type 0
PrevDiffers id q before bytes x = (prev_of bytes ≢ before) × (x ≡ error 8969 id q (prev_of bytes) 0 1)

-- it has another sequence than `count`
abbrev pub SequenceDiffers : ℕ → ℕ → ℕ → List ℕ → CheckError → Type 0
SequenceDiffers id q count bytes x = (iam_sequence bytes ≢ count) × (x ≡ error 2577 id q 0 0 (iam_sequence bytes))

-- page `first` of the chain, 0 for none, has its interval
abbrev pub IntervalRepeats : ℕ → ℕ → ℕ → CheckError → Type 0
IntervalRepeats id q first x = (first ≢ 0) × (x ≡ error 8947 id q first 0 0)

-- it marks an extent of its interval behind the last of the file, which has so many
abbrev pub MarksBehind : Geometry → ℕ → ℕ → ℕ → List ℕ → ℕ → CheckError → Type 0
MarksBehind g extents id q bytes n x =
    (IsTrue (iam_mark bytes n) × (extents ≤ interval_size g * iam_interval bytes + n))
    × (x ≡ error 2579 id q 0 0 (interval_size g * iam_interval bytes + n))

-- its slot i holds a number at or past the file's end
abbrev pub SlotBehind : ℕ → ℕ → ℕ → List ℕ → ℕ → CheckError → Type 0
SlotBehind pages id q bytes i x = (pages ≤ iam_slot bytes i) × (x ≡ error 8968 id q (iam_slot bytes i) i 0)

-- its slot i holds a page of the file
abbrev pub SlotHolds : ℕ → ℕ → List ℕ → ℕ → PageUse → Type 0
SlotHolds pages id bytes i u =
    IsTrue (is_inside pages (iam_slot bytes i)) × (u ≡ record { page = iam_slot bytes i; object = id; place = i })
