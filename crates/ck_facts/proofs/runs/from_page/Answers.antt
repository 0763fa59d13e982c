use Rattle.std.proofs.Common.{rules, nat_lt, ◌∙◌}
use Rattle.std.proofs.lemmas.List.{take_rest}
use Rattle.std.proofs.lemmas.List.Sorted.{IsPartitionPoint-from_clause, IsPartitionedBy-ltb}
use Rattle.ck_facts.proofs.Filtering.{rest_is}
use Rattle.ck_facts.proofs.runs.from_page.Goals as goal

pub returns : goal.returns
returns c sorted = take_rest c.args.uses.now c.partition_point-at.result ∙ rest_is (λ u. nat_lt u.page c.args.low) _ _ c.partition_point-at.ensures.bound
    (IsPartitionPoint-from_clause (λ u. nat_lt u.page c.args.low) _ _ c.partition_point-at.ensures.partitioned
    (IsPartitionedBy-ltb (λ u. u.page) _ _ sorted.rises) (λ a r q k. search rules))
