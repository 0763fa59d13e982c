use Rattle.std.proofs.Common.{arith, ap, length}
use Rattle.std.proofs.lemmas.List.{length-map}
use Rattle.pg_base.specs.declared.page.Page.{Page}
use Rattle.db_locks.proofs.memory.MemViewPlanPages.after.Goals as goal

pub copy-requires : goal.copy-requires
copy-requires c =
    let view = c.args.self.now in
    let inside = view.differ.inside c.args.p c.requires in
    let now = length-map view.pages.items (λ (p : Page). p.bytes) in
    let read = ap length c.deref.ensures.value in
    omega (arith, inside, now, read)
