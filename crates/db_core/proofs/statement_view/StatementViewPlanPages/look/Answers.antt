use Rattle.std.proofs.Common.{◌<◌, refl, ap, sym, subst, ◌∙◌}
use Rattle.std.specs.Prelude.{slice_index, take as front}
use Rattle.std.specs.Int.{bit_at}
use Rattle.std.specs.Option.{option_map}
use Rattle.spec_file.specs.declared.data.Tran.{Tran}
use Rattle.spec_file.specs.Image.{maps_start}
use Rattle.spec_run.specs.Begun.{shape_of}
use Rattle.db_locks.proofs.ViewLaws.{look_free, look_held}
use Rattle.db_core.specs.Store.{run_is}
use Rattle.db_core.specs.SeenPages.{began_at}
use Rattle.db_core.specs.SeenLaws.{seen_agrees}
use Rattle.db_core.specs.StatementViews.{shown_of, state_of}
use Rattle.db_core.specs.StatementViewLaws.{frames_count, agrees_by, images_of}
use Rattle.db_core.proofs.StatementSteps.{header_seen}
use Rattle.db_core.proofs.statement_view.StatementViewPlanPages.look.Goals as goal

pub returns-in-Some-clause-look : goal.returns-in-Some-clause-look
returns-in-Some-clause-look c =
    look_held (state_of c.args.self.now) c.args.r c.args.p.0 c.in-Some.by (sym c.holder.ensures ∙ ap (option_map (λ (t : Tran). t.0)) c.in-Some.is)

pub show-requires : goal.show-requires
show-requires c =
    let view = c.args.self.now in
    subst (λ n. c.args.p.0 < n) (sym (frames_count view.state.now view.good)) c.requires

pub returns-clause-look : goal.returns-clause-look
returns-clause-look c =
    look_free (state_of c.args.self.now) c.args.r c.args.p.0 (sym c.holder.ensures ∙ ap (option_map (λ (t : Tran). t.0)) c.in_default.is)

pub returns-clause-guarded : goal.returns-clause-guarded
returns-clause-guarded c = λ told s free i j here low guarded.
    let view = c.args.self.now in
    let st = view.state.now in
    let images = images_of view refl in
    ap (λ bytes. bit_at (slice_index bytes i) j) c.show.ensures
    ∙ seen_agrees (shape_of (run_is st)) s st.frames (shown_of view) (began_at st view.at).start c.args.p.0 images.shown images.start
    (agrees_by st view.at s view.good free c.args.p.0) i j here low guarded

pub returns-clause-header : goal.returns-clause-header
returns-clause-header c = λ told tells.
    ap (front maps_start) c.show.ensures
    ∙ header_seen c.args.self.now c.args.r c.args.p.0 (sym c.holder.ensures ∙ ap (option_map (λ (t : Tran). t.0)) c.in_default.is) c.requires tells
