use Rattle.std.proofs.Common.{◌≡◌, drop}
use Rattle.std.specs.List.{list_any}
use Rattle.db_alloc.specs.Marks.{marks}
use Rattle.db_alloc.specs.Tables.{bytes_of}
use Rattle.db_alloc.proofs.marks.is_marked.Given as goal

abbrev pub invariant-loop-iam : goal.invariant-loop-iam
invariant-loop-iam l = list_any (marks l.g l.p.0) (bytes_of l.iams) ≡ list_any (marks l.g l.p.0) (bytes_of (drop l.iam-index l.iams))
