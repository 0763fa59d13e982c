use Rattle.std.proofs.Common.{◌≡◌, map, filter, drop}
use Rattle.spec_file.specs.Image.{Image, page}
use Rattle.spec_alloc.specs.Search.{first_in}
use Rattle.db_alloc.specs.Tables.{numbers, bytes_of}
use Rattle.db_alloc.proofs.ExtentSteps.{speaks}
use Rattle.db_alloc.proofs.extent.iam_of.Given as goal

abbrev pub invariant-loop-i : goal.invariant-loop-i
invariant-loop-i l =
    (image : Image) → bytes_of l.iams ≡ map (page image) (numbers l.chain)
    → first_in (filter (speaks image l.interval) (numbers l.chain)) ≡ first_in (filter (speaks image l.interval) (drop l.i (numbers l.chain)))
