use Rattle.std.proofs.Common.{sym, ap, ◌∙◌}
use Rattle.byteorder.specs.Endian.{little_bytes}
use Rattle.spec_file.specs.declared.data.Resource.TheVariants as resource
use Rattle.spec_file.specs.Image.{page}
use Rattle.spec_log.specs.declared.item.Cell.TheVariants.{Bytes}
use Rattle.spec_log.specs.Cells.{with_bytes}
use Rattle.spec_words.specs.Views.{View}
use Rattle.db_locks.proofs.CellSteps.{write_unlooked, write_looked}
use Rattle.db_alloc.proofs.Parts.{part_written}
use Rattle.db_alloc.proofs.part.put_number.Goals as goal

pub returns-in_err-look_page : goal.returns-in_err-look_page
returns-in_err-look_page g c = λ looked before.
    write_unlooked (g.P.PlanPages.state c.args.v.now) (g.P.PlanPages.state c.look_page.new.v) (resource.Page c.args.q) c.args.q.0 (Bytes c.args.q c.args.at) (little_bytes 4 c.args.value) looked _ before
    c.in_err-look_page.ensures.look c.from_residual.ensures.1

pub returns : goal.returns
returns g c = λ looked before.
    let a = g.P.PlanPages.state c.args.v.now in
    let b = g.P.PlanPages.state c.look_page.new.v in
    let bytes = little_bytes 4 c.args.value in
    write_looked a b (g.P.PlanPages.state c.put_page.new.view) (resource.Page c.args.q) c.args.q.0 (Bytes c.args.q c.args.at) bytes looked c.put_page.result before c.in_ok-look_page.ensures.look
    (part_written looked (resource.Page c.args.q) c.args.q.0 c.args.at bytes c.edit_number.new.page.bytes
    (λ told. c.edit_number.ensures
    ∙ ap (λ old. with_bytes old c.args.at bytes)
    (c.in_ok-look_page.ensures.told (sym c.in_ok-look_page.ensures.look.stays.told ∙ told) c.requires.ownable.ordinary ∙ ap (λ (v : View). page v.now c.args.q.0) (sym c.in_ok-look_page.ensures.view)))
    (c.put_page.ensures looked (λ told. before (sym c.in_ok-look_page.ensures.look.stays.told ∙ told))))
