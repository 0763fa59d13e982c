use Rattle.ck_error.specs.Gathered.{Adds, Below}
use Rattle.ck_facts.specs.PageUses.{IsByPage}
use Rattle.ck_alloc.specs.MapRules.{PartOfMapSays}
use Rattle.ck_alloc.proofs.errors.add_parts.Given as goal

abbrev pub invariant-loop-e : goal.invariant-loop-e
invariant-loop-e l = IsByPage l.map.uses.items → Adds l.initial.errors.items l.errors.items (Below l.e (PartOfMapSays l.map))
