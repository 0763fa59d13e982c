-- Buckets that are sorted and matched side by side.
use Rattle.std.specs.Prelude.{◌≡◌, ℕ, ◌<◌, List, Vec, Result, Ok, Err, IfOk, Contains, length, slice_index_or}
use Rattle.std.specs.Global.{Global}
use Rattle.spec_file.specs.declared.data.NoMemory.{NoMemory}
use Rattle.spec_check.specs.declared.report.CheckError.{CheckError}
use Rattle.spec_tree.specs.declared.known.Root.{Root}
use Rattle.ck_error.specs.Gathered.{Gathers, Adds}
use Rattle.ck_merge.specs.declared.bucket.Bucket.{Bucket}
use Rattle.ck_merge.specs.Buckets.{BucketErrors}
use Rattle.ck_merge.specs.Filing.{KeepsFiles, KeepsOwn}
use Rattle.ck_merge.specs.Runs.{IsSorted}

-- the same bucket, in order
pub record SortsTo (old new : Bucket) : Type 0 where
  pub sorted : IsSorted new
  pub files : KeepsFiles old new
  pub own : KeepsOwn old new

-- each bucket, in order
pub record EachSortsTo (old new : List Bucket) : Type 0 where
  pub long : length new ≡ length old
  pub each : (i : ℕ) (d : Bucket) → i < length old → SortsTo (slice_index_or old i d) (slice_index_or new i d)

-- the errors at the pages of a bucket, or want of memory
abbrev pub Matched : Type 0
Matched = Result (Vec CheckError Global) NoMemory

-- the errors are those at the bucket's pages
abbrev pub IsMatched : List Root → Bucket → Matched → Type 0
IsMatched roots u found = IfOk found (λ errors. Gathers errors.items (BucketErrors roots u))

-- what was found for each bucket, at its place
pub record AreMatched (roots : List Root) (buckets : List Bucket) (all : List Matched) : Type 0 where
  pub long : length all ≡ length buckets
  pub each : (i : ℕ) (u : Bucket) (d : Matched) → i < length buckets → IsMatched roots (slice_index_or buckets i u) (slice_index_or all i d)

-- the list has grown by what was found for a bucket
abbrev pub AddsFound : List CheckError → Matched → List CheckError → Type 0
AddsFound old (Ok more) new = Adds old new (Contains more.items)
AddsFound old (Err stop) new = ⊥
