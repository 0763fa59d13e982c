use Rattle.std.proofs.Common.{◌≡◌, drop}
use Rattle.std.specs.Prelude.{◌==◌}
use Rattle.std.specs.List.{list_any}
use Rattle.db_alloc.specs.Tables.{numbers}
use Rattle.db_alloc.proofs.list.has_page.Given as goal

abbrev pub invariant-loop-q : goal.invariant-loop-q
invariant-loop-q l = list_any (λ q. q == l.p.0) (numbers l.pages) ≡ list_any (λ q. q == l.p.0) (numbers (drop l.q-index l.pages))
