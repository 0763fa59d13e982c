use Rattle.std.proofs.Common.{◌≡◌, drop}
use Rattle.std.specs.Prelude.{nat_lt}
use Rattle.std.specs.List.{list_all}
use Rattle.db_alloc.specs.Tables.{numbers}
use Rattle.db_alloc.proofs.iam.are_inside.Given as goal

abbrev pub invariant-loop-q : goal.invariant-loop-q
invariant-loop-q l = list_all (λ q. nat_lt q l.pages) (numbers l.slots) ≡ list_all (λ q. nat_lt q l.pages) (numbers (drop l.q-index l.slots))
