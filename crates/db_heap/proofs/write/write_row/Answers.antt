use Rattle.std.proofs.Common.{◌<◌, sym, ap, ◌∙◌, subst}
use Rattle.spec_file.specs.Roles.{is_ordinary}
use Rattle.spec_words.specs.NetChanges.{FileShape}
use Rattle.spec_words.specs.Views.{View}
use Rattle.db_heap.proofs.RowSteps.{row_unread, row_seen, row_byte_exit, row_done, shape_after, byte_reached}
use Rattle.db_heap.proofs.write.write_row.Goals as goal

pub returns-in_err-before : goal.returns-in_err-before
returns-in_err-before g c = λ looked read reached. row_unread looked c.args.p.0 c.args.row.now _ read c.in_err-before.ensures.does c.from_residual.ensures.1

pub returns-in_err-set_pfs_byte : goal.returns-in_err-set_pfs_byte
returns-in_err-set_pfs_byte g c = λ looked read reached.
    let a = g.P.PlanPages.state c.args.v.now in
    let same = c.in_ok-before.ensures.view in
    row_byte_exit looked c.args.p.0 _ _ c.args.row.now c.args.page.now.bytes _ c.byte_after-after.ensures same
    (row_seen looked c.args.p.0 _ c.args.row.now c.args.page.now.bytes read same c.requires.room.seen c.in_ok-before.ensures.does)
    (c.in_err-set_pfs_byte.ensures looked (λ told. byte_reached looked c.args.table.now.geometry a.view c.args.p.0 c.requires.geometry (read (sym c.in_ok-before.ensures.does.stays.told ∙ told))))
    c.from_residual-in_err-set_pfs_byte.ensures.1

pub put_page-requires-clause-inside : goal.put_page-requires-clause-inside
put_page-requires-clause-inside g c =
    subst (λ (shape : FileShape). c.args.p.0 < shape.pages)
    (sym (shape_after c.args.table.now.geometry c.args.p.0 _ _ c.in_ok-set_pfs_byte.ensures ∙ ap (λ (v : View). v.shape) c.in_ok-before.ensures.view)) c.requires.room.inside

pub put_page-requires-clause-ordinary : goal.put_page-requires-clause-ordinary
put_page-requires-clause-ordinary g c =
    ap (λ (shape : FileShape). is_ordinary shape.geometry c.args.p.0)
    (shape_after c.args.table.now.geometry c.args.p.0 _ _ c.in_ok-set_pfs_byte.ensures ∙ ap (λ (v : View). v.shape) c.in_ok-before.ensures.view) ∙ c.requires.room.ordinary

pub returns : goal.returns
returns g c = λ looked read reached.
    let a = g.P.PlanPages.state c.args.v.now in
    let same = c.in_ok-before.ensures.view in
    let put = c.in_ok-set_pfs_byte.ensures looked (λ told. byte_reached looked c.args.table.now.geometry a.view c.args.p.0 c.requires.geometry (read (sym c.in_ok-before.ensures.does.stays.told ∙ told))) in
    row_done looked c.args.p.0 _ _ c.args.row.now c.args.page.now.bytes _ c.put_page.result c.byte_after-after.ensures same c.put_row.ensures.row
    (row_seen looked c.args.p.0 _ c.args.row.now c.args.page.now.bytes read same c.requires.room.seen c.in_ok-before.ensures.does)
    put (c.put_page.ensures looked (λ told. reached (sym c.in_ok-before.ensures.does.stays.told ∙ (sym put.stays.told ∙ told))))
