use Rattle.std.proofs.Common.{ℕ, ◌*◌, ◌<◌, Some, sym, ap, ◌∙◌, subst}
use Rattle.std.specs.Option.{option_map}
use Rattle.std.proofs.lemmas.Bool.{true≢false, false≢true}
use Rattle.spec_file.specs.declared.data.PageNo.{PageNo}
use Rattle.spec_file.specs.declared.geometry.Geometry.{Geometry}
use Rattle.spec_file.specs.Places.{gam_place, page_limit}
use Rattle.db_locks.proofs.PlanLaws.{stays_same}
use Rattle.db_alloc.proofs.MapPlaces.{extent_low}
use Rattle.db_alloc.proofs.SearchSteps.{at_unread, stop_handed}
use Rattle.db_alloc.proofs.search.have_maps.Goals as goal

pub gam_of-at-requires : goal.gam_of-at-requires
gam_of-at-requires g c =
    let a = g.P.PlanPages.state c.args.v.now in
    subst (λ (k : Geometry). 8 * c.args.e.0 < page_limit k) (sym c.requires.reader.geometry) (extent_low a.view.shape.geometry a.view.shape.pages c.args.e.0 (g.P.PlanPages.size c.args.v.now) c.requires.inside)

pub returns-then-has_read-clause-stays : goal.returns-then-has_read-clause-stays
returns-then-has_read-clause-stays g c = stays_same (g.P.PlanPages.state c.args.v.now)

pub returns-then-has_read-clause-held : goal.returns-then-has_read-clause-held
returns-then-has_read-clause-held g c = λ no. absurd (true≢false no)

pub returns-then-has_read-clause-place : goal.returns-then-has_read-clause-place
returns-then-has_read-clause-place g c = λ have.
    ap (option_map (λ (p : PageNo). p.0)) (c.has_read.ensures c.if-has_read.true)
    ∙ ap (λ (n : ℕ). Some n) (c.gam_of-at.ensures.page ∙ ap (λ (k : Geometry). (gam_place k c.args.e.0).page) c.requires.reader.geometry)

pub returns-then-is_held-clause-stays : goal.returns-then-is_held-clause-stays
returns-then-is_held-clause-stays g c = stays_same (g.P.PlanPages.state c.args.v.now)

pub returns-then-is_held-clause-held : goal.returns-then-is_held-clause-held
returns-then-is_held-clause-held g c = λ no. sym c.is_held.ensures ∙ c.if-is_held.true

pub returns-then-is_held-clause-place : goal.returns-then-is_held-clause-place
returns-then-is_held-clause-place g c = λ have. absurd (false≢true have)

pub returns-in_err-read_maps-clause-stops : goal.returns-in_err-read_maps-clause-stops
returns-in_err-read_maps-clause-stops g c =
    stop_handed _ _ c.from_residual.ensures.1 (λ fits find. at_unread fits find c.args.e.0 (sym c.is_held.ensures ∙ c.if-is_held.false) c.in_err-read_maps.ensures.does)

pub returns-in_err-read_maps-clause-stays : goal.returns-in_err-read_maps-clause-stays
returns-in_err-read_maps-clause-stays g c = c.in_err-read_maps.ensures.does.stays

pub returns-clause-stays : goal.returns-clause-stays
returns-clause-stays g c = c.in_ok-read_maps.ensures.does.stays

pub returns-clause-held : goal.returns-clause-held
returns-clause-held g c = λ no. absurd (true≢false no)

pub returns-clause-place : goal.returns-clause-place
returns-clause-place g c = λ have. c.in_ok-read_maps.ensures.place

pub returns-clause-told : goal.returns-clause-told
returns-clause-told g c = c.in_ok-read_maps.ensures.told
