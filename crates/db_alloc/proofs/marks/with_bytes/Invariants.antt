use Rattle.std.proofs.Common.{◌≡◌, filter, take}
use Rattle.db_alloc.specs.Marks.{has_byte}
use Rattle.db_alloc.specs.Tables.{numbers, bytes_of}
use Rattle.db_alloc.proofs.marks.with_bytes.Given as goal

abbrev pub invariant-loop-p : goal.invariant-loop-p
invariant-loop-p l = numbers l.pages.items ≡ filter (has_byte l.g (bytes_of l.iams)) (take l.p-index l.near)
