use Rattle.std.proofs.Common.{◌<◌, length, arith, refl, ap, sym, subst, ◌∙◌}
use Rattle.std.proofs.Math.Logic.{∥∥₁_map}
use Rattle.spec_file.specs.Image.{Image, page}
use Rattle.spec_run.specs.Begun.{shape_of}
use Rattle.db_locks.proofs.ViewLaws.{page_put}
use Rattle.db_core.specs.Store.{run_is}
use Rattle.db_core.specs.SeenPages.{seen_pages}
use Rattle.db_core.specs.SeenLaws.{seen_put}
use Rattle.db_core.specs.StatementViews.{shown_of, state_of}
use Rattle.db_core.specs.StatementViewLaws.{frames_count, images_of}
use Rattle.db_core.proofs.StatementSteps.{are_put_or_not, differ_or_not}
use Rattle.db_core.proofs.statement_view.StatementViewPlanPages.put.Goals as goal

pub invariant_of-self-clause-are_put : goal.invariant_of-self-clause-are_put
invariant_of-self-clause-are_put c =
    let old = c.args.self.now in
    let here : c.args.p.0 < length old.state.now.frames = subst (λ n. c.args.p.0 < n) (sym (frames_count old.state.now old.good)) c.requires.inside in
    are_put_or_not c.put_page.result c.args.p old.put.items c.put_page.new.put.items old.pages.items c.put_page.new.pages.items (length old.state.now.frames) here
    c.put_page.ensures.put c.put_page.ensures.same_put c.put_page.ensures.long c.put_page.ensures.whole old.are_put

pub invariant_of-self-clause-only : goal.invariant_of-self-clause-only
invariant_of-self-clause-only c =
    let old = c.args.self.now in
    let here : c.args.p.0 < length old.state.now.frames = subst (λ n. c.args.p.0 < n) (sym (frames_count old.state.now old.good)) c.requires.inside in
    ∥∥₁_map old.only (differ_or_not c.put_page.result (shape_of (run_is old.state.now)) old.taken.items old.state.now.frames c.args.p c.args.from.now.bytes
    old.put.items c.put_page.new.put.items old.pages.items c.put_page.new.pages.items here (c.requires.guarded refl)
    c.put_page.ensures.image c.put_page.ensures.same_put c.put_page.ensures.same_pages)

pub returns-in-Ok-clause-put : goal.returns-in-Ok-clause-put
returns-in-Ok-clause-put c =
    let old = c.args.self.now in
    let a = state_of old in
    let frames = old.state.now.frames in
    let images = images_of old refl in
    page_put a _ c.args.p.0 (page (shown_of old) c.args.p.0) c.args.from.now.bytes
    (ap (λ (m : Image). record a.view { now = seen_pages frames m a.view.start }) (c.in-Ok.ensures.image frames)
    ∙ ap (λ (m : Image). record a.view { now = m })
    (seen_put frames (shown_of old) a.view.start c.args.p.0 c.args.from.now.bytes (subst (λ n. c.args.p.0 < n) (sym images.start.pages) c.requires.inside) (images.shown.pages ∙ sym images.start.pages)))
    (record { told = refl; shape = refl; start = refl; other = refl; own = refl; faults = omega arith })
