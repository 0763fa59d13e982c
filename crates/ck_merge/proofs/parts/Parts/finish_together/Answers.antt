use Rattle.std.proofs.Common.{subst, sym, ◌∙◌}
use Rattle.spec_check.specs.Errors.{Lists}
use Rattle.spec_tree.specs.Trees.{IsTreeError}
use Rattle.ck_error.proofs.GatheringLaws.{lists_in_order}
use Rattle.ck_facts.specs.Facts.{known_of}
use Rattle.ck_merge.specs.Held.{roots_in}
use Rattle.ck_merge.proofs.Merging.{all_buckets}
use Rattle.ck_merge.proofs.parts.Parts.finish_together.Goals as goal

pub returns : goal.returns
returns g c = λ facts h.
    let parts = c.sort_together.new.self in
    let held = c.sort_together.ensures.holds facts h in
    subst (λ roots. Lists c.in_order.result.items (IsTreeError (known_of roots facts))) c.sort_together.ensures.roots
    (lists_in_order c.in_ok-found.found.items c.in_order.result.items (IsTreeError (known_of (roots_in parts) facts))
    c.in_order.ensures.sorted c.in_order.ensures.same
    (all_buckets parts.count (roots_in parts) facts parts.buckets.items c.in_ok-found.found.items parts.some
    (sym parts.buckets.ok.0 ∙ parts.counted) parts.own held.filed c.in_ok-found.ensures))
