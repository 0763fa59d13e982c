use Rattle.std.proofs.Common.{◌+◌, ◌*◌}
use Rattle.ck_error.specs.Gathered.{Adds, Below}
use Rattle.ck_facts.specs.PageUses.{IsByPage}
use Rattle.ck_alloc.specs.MapRules.{page_state, uses_at}
use Rattle.ck_alloc.specs.PageRules.{PageSays}
use Rattle.ck_alloc.proofs.errors.add_pages.Given as goal

abbrev pub invariant-loop-k : goal.invariant-loop-k
invariant-loop-k l = IsByPage l.map.uses.items
    → Adds l.initial.errors.items l.errors.items (Below l.k (λ k. PageSays (page_state l.map (8 * l.e + k)) (uses_at l.map (8 * l.e + k)) l.markers))
