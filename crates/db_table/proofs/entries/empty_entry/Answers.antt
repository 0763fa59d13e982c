use Rattle.std.proofs.Common.{◌+◌, ◌*◌, replicate, sym, ap, ◌∙◌}
use Rattle.spec_file.specs.declared.data.Resource.TheVariants as resource
use Rattle.spec_log.specs.declared.item.Cell.TheVariants.{Bytes}
use Rattle.spec_log.specs.Cells.{with_bytes}
use Rattle.db_locks.proofs.CellSteps.{write_unlooked, write_looked}
use Rattle.db_alloc.proofs.Parts.{part_written}
use Rattle.db_table.proofs.Steps.{boot_seen}
use Rattle.db_table.proofs.entries.empty_entry.Goals as goal

pub returns-in_err-look_catalog : goal.returns-in_err-look_catalog
returns-in_err-look_catalog g c = λ looked before.
    let at = 96 + 40 * c.args.i in
    write_unlooked (g.P.PlanPages.state c.args.v.now) (g.P.PlanPages.state c.look_catalog.new.view) resource.Catalog 9 (Bytes (record { 0 = 9 }) at) (replicate 40 0) looked _ before
    c.in_err-look_catalog.ensures.does c.from_residual.ensures.1

pub returns : goal.returns
returns g c = λ looked before.
    let a = g.P.PlanPages.state c.args.v.now in
    let b = g.P.PlanPages.state c.look_catalog.new.view in
    let at = 96 + 40 * c.args.i in
    let bytes = replicate 40 0 in
    write_looked a b (g.P.PlanPages.state c.put_catalog.new.view) resource.Catalog 9 (Bytes (record { 0 = 9 }) at) bytes looked c.put_catalog.result before c.in_ok-look_catalog.ensures.does
    (part_written looked resource.Catalog 9 at bytes c.clear.new.page.bytes
    (λ told. c.clear.ensures ∙ ap (λ old. with_bytes old at bytes) (boot_seen _ c.in_ok-look_catalog.ensures.does c.in_ok-look_catalog.ensures.view told))
    (c.put_catalog.ensures looked (λ told. before (sym c.in_ok-look_catalog.ensures.does.stays.told ∙ told))))
