use Rattle.std.proofs.Common.{arith, length, subst, sym, ap, ◌∙◌}
use Rattle.pg_base.specs.declared.page.Page.{Page}
use Rattle.db_core.specs.SeenPages.{StandsAt, FitsAt}
use Rattle.db_core.specs.PutLaws.{stands_inside, shown_put, shown_other, not_put}
use Rattle.db_core.proofs.statement_view.StatementView.show.Goals as goal

pub index-requires : goal.index-requires
index-requires c =
    let view = c.args.self.now in
    let inside = stands_inside c.args.p c.deref.result.now c.in-Ok.at c.in-Ok.ensures in
    let read = ap length c.deref.ensures.value in
    let long = view.are_put.long in
    let size = view.pages.ok.0 in
    omega (arith, inside, read, long, size)

pub returns-in-Ok : goal.returns-in-Ok
returns-in-Ok c =
    let view = c.args.self.now in
    let shown = shown_put c.args.p view.put.items c.in-Ok.at view.pages.items c.index.result.now view.state.now.frames
    (subst (λ xs. StandsAt c.args.p xs c.in-Ok.at) c.deref.ensures.value c.in-Ok.ensures) view.are_put.long c.requires in
    ap (λ (x : Page). x.bytes) c.index.ensures ∙ sym shown

pub returns-in-Err : goal.returns-in-Err
returns-in-Err c =
    let view = c.args.self.now in
    c.page.ensures ∙ sym (shown_other c.args.p view.put.items view.pages.items view.state.now.frames
    (not_put c.args.p view.put.items c.in-Err.field-0 view.are_put.rising (subst (λ xs. FitsAt c.args.p xs c.in-Err.field-0) c.deref.ensures.value c.in-Err.ensures)))
