use Rattle.std.proofs.Common.{arith}
use Rattle.std.proofs.lemmas.List.Sorted.{IsPermutation-trans}
use Rattle.pg_slots.specs.contracts.order.RowStartOrd.TheImpl.Laws.{matches_partial_cmp-law}
use Rattle.pg_slots.proofs.Sorted.{sorted_from_test, sorted_in_order}
use Rattle.pg_slots.proofs.order.sort_slots.Goals as goal

pub returns-then-not-is_sorted : goal.returns-then-not-is_sorted
returns-then-not-is_sorted c =
    let moved = rw (c.put_starts.ensures, c.requires.count) at c.sort_unstable_by_key.ensures.permutation in
    sorted_in_order c.args.page.now.bytes _ (omega arith) (IsPermutation-trans _ _ _ moved c.sort_unstable.ensures.permutation) c.sort_unstable.ensures.sorted

pub returns-else-not-is_sorted : goal.returns-else-not-is_sorted
returns-else-not-is_sorted c =
    let moved = rw (c.put_starts.ensures, c.requires.count) at c.sort_unstable_by_key.ensures.permutation in
    sorted_in_order c.args.page.now.bytes _ (omega arith) moved (sorted_from_test c.sort_unstable_by_key.new.self (λ k d within. rw matches_partial_cmp-law at (c.if-not-is_sorted.ensures.cases k d within)))
