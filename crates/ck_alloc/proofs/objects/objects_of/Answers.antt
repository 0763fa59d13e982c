use Rattle.std.proofs.Common.{arith}
use Rattle.ck_alloc.proofs.CatalogIds.{sorted_rows, same_rows, few_rows}
use Rattle.ck_alloc.proofs.objects.objects_of.Goals as goal

pub returns-in-Ok-clause-sorted : goal.returns-in-Ok-clause-sorted
returns-in-Ok-clause-sorted c = sorted_rows _ _ _ c.in-Ok.ensures.bad c.in-Ok.ensures.rows c.by_id.ensures.same c.by_id.ensures.rises

pub returns-in-Ok-clause-same : goal.returns-in-Ok-clause-same
returns-in-Ok-clause-same c = λ r. same_rows _ _ _ c.in-Ok.ensures.rows c.by_id.ensures.same r

pub returns-in-Ok-clause-few : goal.returns-in-Ok-clause-few
returns-in-Ok-clause-few c =
    let few = few_rows _ _ _ c.in-Ok.ensures.rows c.by_id.ensures.same in
    omega (arith, few, c.by_id.result.ok)
