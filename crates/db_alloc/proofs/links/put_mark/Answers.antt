use Rattle.std.proofs.Common.{refl, ℕ, sym, ap, ◌∙◌}
use Rattle.std.specs.Prelude.{slice_index}
use Rattle.spec_file.specs.declared.data.Resource.TheVariants as resource
use Rattle.spec_file.specs.Image.{page}
use Rattle.spec_file.specs.Places.{interval_size}
use Rattle.spec_log.specs.declared.item.Cell.TheVariants.{Bytes}
use Rattle.spec_log.specs.Cells.{with_bytes}
use Rattle.spec_words.specs.Views.{View}
use Rattle.db_locks.proofs.CellSteps.{write_unlooked, write_looked}
use Rattle.db_alloc.proofs.LinkBytes.{mark_place, byte_marked, byte_there, mark_put, mark_written}
use Rattle.db_alloc.proofs.Parts.{part_written}
use Rattle.db_alloc.proofs.Steps.{does_plan}
use Rattle.db_alloc.proofs.links.put_mark.Goals as goal

pub returns-in_err-look_page : goal.returns-in_err-look_page
returns-in_err-look_page g c = λ looked before.
    let a = g.P.PlanPages.state c.args.v.now in
    let size = interval_size a.view.shape.geometry in
    let byte = byte_there c.args.q.0 (mark_place size c.args.e.0) a.view in
    mark_written looked size c.args.e.0 c.args.value c.args.q.0 byte (λ told. refl)
    (write_unlooked a (g.P.PlanPages.state c.look_page.new.v) (resource.Page c.args.q) c.args.q.0 (Bytes c.args.q (mark_place size c.args.e.0)) (byte_marked size c.args.e.0 c.args.value byte) looked _ before
    c.in_err-look_page.ensures.look c.from_residual.ensures.1)

pub returns : goal.returns
returns g c = λ looked before.
    let a = g.P.PlanPages.state c.args.v.now in
    let b = g.P.PlanPages.state c.look_page.new.v in
    let size = c.interval_size.result in
    let at = mark_place size c.args.e.0 in
    let bytes = byte_marked size c.args.e.0 c.args.value (slice_index c.look_page.new.into.bytes at) in
    does_plan (ap (λ (n : ℕ). mark_put n c.args.e.0 c.args.value c.args.q.0) (c.interval_size.ensures ∙ ap interval_size c.requires.geometry))
    (mark_written looked size c.args.e.0 c.args.value c.args.q.0 (slice_index c.look_page.new.into.bytes at)
    (λ told. ap (λ bytes. slice_index bytes at) (c.in_ok-look_page.ensures.told told c.requires.ownable.ordinary))
    (write_looked a b (g.P.PlanPages.state c.put_page.new.view) (resource.Page c.args.q) c.args.q.0 (Bytes c.args.q at) bytes looked c.put_page.result before c.in_ok-look_page.ensures.look
    (part_written looked (resource.Page c.args.q) c.args.q.0 at bytes c.edit_mark.new.page.bytes
    (λ told. c.edit_mark.ensures
    ∙ ap (λ old. with_bytes old at bytes)
    (c.in_ok-look_page.ensures.told (sym c.in_ok-look_page.ensures.look.stays.told ∙ told) c.requires.ownable.ordinary ∙ ap (λ (v : View). page v.now c.args.q.0) (sym c.in_ok-look_page.ensures.view)))
    (c.put_page.ensures looked (λ told. before (sym c.in_ok-look_page.ensures.look.stays.told ∙ told))))))
