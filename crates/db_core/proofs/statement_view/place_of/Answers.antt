use Rattle.std.proofs.Common.{rules, arith, nat_lt}
use Rattle.std.proofs.lemmas.List.Sorted.{IsPartitionPoint-from_clause, IsPartitionedBy-ltb, IsNonDecreasingBy-from_all_adjacent}
use Rattle.spec_file.specs.declared.data.PageNo.{PageNo}
use Rattle.db_core.specs.PutLaws.{rises, stands_from, fits_from, fits_behind}
use Rattle.db_core.proofs.statement_view.place_of.Goals as goal

pub returns-then-at-put : goal.returns-then-at-put
returns-then-at-put c =
    let parts = IsPartitionPoint-from_clause (λ (q : PageNo). nat_lt q.0 c.args.p.0) _ _ c.partition_point-at.ensures.partitioned
    (IsPartitionedBy-ltb (λ (q : PageNo). q.0) _ _ (IsNonDecreasingBy-from_all_adjacent (λ (q : PageNo). q.0) _ (rises c.args.put.now c.requires))) (λ a r q k. search rules) in
    let all = c.if-at-put.true in
    fits_from c.args.p c.args.put.now _ c.args.p parts.0 c.partition_point-at.ensures.bound (λ lt. absurd (omega (arith, all, lt)))

pub returns-then-put-at : goal.returns-then-put-at
returns-then-put-at c =
    let parts = IsPartitionPoint-from_clause (λ (q : PageNo). nat_lt q.0 c.args.p.0) _ _ c.partition_point-at.ensures.partitioned
    (IsPartitionedBy-ltb (λ (q : PageNo). q.0) _ _ (IsNonDecreasingBy-from_all_adjacent (λ (q : PageNo). q.0) _ (rises c.args.put.now c.requires))) (λ a r q k. search rules) in
    let bound = c.partition_point-at.ensures.bound in
    let some = c.if-at-put.false in
    stands_from c.args.p c.args.put.now _ _ parts.0 (omega (arith, bound, some)) c.if-put-at.true

pub returns : goal.returns
returns c =
    let parts = IsPartitionPoint-from_clause (λ (q : PageNo). nat_lt q.0 c.args.p.0) _ _ c.partition_point-at.ensures.partitioned
    (IsPartitionedBy-ltb (λ (q : PageNo). q.0) _ _ (IsNonDecreasingBy-from_all_adjacent (λ (q : PageNo). q.0) _ (rises c.args.put.now c.requires))) (λ a r q k. search rules) in
    fits_behind c.args.p c.args.put.now c.partition_point-at.result _ parts.0 parts.1 c.partition_point-at.ensures.bound c.if-put-at.false
