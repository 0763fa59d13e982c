use Rattle.std.proofs.Common.{◌<◌, ◌≤◌, length, arith, subst, sym}
use Rattle.spec_run.specs.ChangedPages.{changes_page}
use Rattle.vol_pool.specs.Changed.{unchanged_stays}
use Rattle.vol_pool.proofs.Marked.{none_changes}
use Rattle.vol_pool.proofs.changed.changed_pages.Goals as goal

pub returns-clause-stay : goal.returns-clause-stay
returns-clause-stay c =
    λ image log is count p below unmarked.
    let all : length c.args.items.now ≤ c.loop-item.item-index = omega (arith, c.loop-item-test.false, c.loop-item.auto.item-index-end) in
    let inside : p < c.args.pages = subst (λ n. p < n) count below in
    sym (unchanged_stays image log p (none_changes (changes_page p) c.args.items.now log c.loop-item.item-index _ is all (c.loop-item.invariant.1 p inside) unmarked))
