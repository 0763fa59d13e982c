use Rattle.std.proofs.Common.{rules, ◌≡◌}
use Rattle.std.specs.Ordering.{is_lt}
use Rattle.std.proofs.lemmas.List.Sorted.{answers_always}
use Rattle.spec_words.specs.Orders.{is_below}
use Rattle.db_heap.proofs.Rising.{below_order, sorted_is}
use Rattle.db_heap.proofs.order.sort.Goals as goal

pub returns : goal.returns
returns c =
    sorted_is c.args.payloads.now.items c.sort_unstable_by.new.self.items c.sort_unstable_by.ensures.permutation
    (c.sort_unstable_by.ensures.sorted is_below below_order (answers_always _ (λ a r. is_lt r ≡ is_below a.0.now a.1.0.now) _ (λ f a r q k. search rules)))
