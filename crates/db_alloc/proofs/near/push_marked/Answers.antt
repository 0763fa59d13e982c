use Rattle.std.proofs.Common.{◌≡◌, ◌*◌, ◌/◌, true}
use Rattle.db_alloc.specs.Marks.{marks}
use Rattle.db_alloc.specs.Near.{IsInBytes}
use Rattle.db_alloc.proofs.NearPages.{ok_weaker, includes_as, marked_as}
use Rattle.db_alloc.proofs.near.push_marked.Goals as goal

pub returns : goal.returns
returns c =
    let bytes = c.args.iam.now.bytes in
    let interval = c.u32_at-interval.result in
    let size = c.interval_size-size.result in
    ok_weaker c.push_bytes.result _ _ (λ done h.
    includes_as c.args.pages (IsInBytes bytes (interval * size) (size / 8)) (λ p. marks c.args.g p bytes ≡ true) _ _ h
    (λ p below marked. marked_as c.args.g p interval size bytes c.u32_at-interval.ensures c.interval_size-size.ensures marked))
    c.push_bytes.ensures
