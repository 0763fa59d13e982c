use Rattle.std.proofs.Common.{ℕ, ◌*◌, ◌/◌, ◌<◌, IsTrue, true, false, refl, sym, ap, ◌∙◌, subst}
use Rattle.std.specs.Prelude.{IfOk, IfSome}
use Rattle.spec_file.specs.declared.data.Resource.TheVariants as resource
use Rattle.spec_file.specs.declared.geometry.Geometry.{Geometry}
use Rattle.spec_file.specs.declared.sizes.TheConstants.{BIT_COUNT}
use Rattle.spec_file.specs.Places.{gam_place, page_limit}
use Rattle.spec_words.specs.Views.{View}
use Rattle.spec_alloc.specs.Search.{is_held, search_at}
use Rattle.db_alloc.specs.Maps.{IsOwnable}
use Rattle.db_alloc.specs.Searches.{fits_of, find_of, AreMaps}
use Rattle.db_alloc.proofs.MapPlaces.{extent_low, bit_low}
use Rattle.db_alloc.proofs.SearchSteps.{at_held, at_unfit, at_fit, maps_at, fit_told, does_still, stop_as, ok_given}
use Rattle.db_alloc.proofs.search.search_at.Goals as goal

pub gam_of-at-requires : goal.gam_of-at-requires
gam_of-at-requires g c =
    let a = g.P.PlanPages.state c.args.v.now in
    subst (λ (k : Geometry). 8 * c.args.e.0 < page_limit k) (sym c.requires.reader.geometry) (extent_low a.view.shape.geometry a.view.shape.pages c.args.e.0 (g.P.PlanPages.size c.args.v.now) c.requires.inside)

pub do_fit-requires : goal.do_fit-requires
do_fit-requires g c = subst (λ (n : ℕ). n < BIT_COUNT) (sym c.gam_of-at.ensures.at) (bit_low c.args.reader.geometry c.args.e.0)

pub find_in-requires-clause-reader : goal.find_in-requires-clause-reader
find_in-requires-clause-reader g c = record {
  geometry = c.requires.reader.geometry ∙ ap (λ (v : View). v.shape.geometry) (sym c.in_ok-have.ensures.view);
  pages = c.requires.reader.pages ∙ ap (λ (v : View). v.shape.pages) (sym c.in_ok-have.ensures.view);
  own = ap (λ (v : View). v.other c.args.reader.own) c.in_ok-have.ensures.view ∙ c.requires.reader.own;
}

pub find_in-requires-clause-inside : goal.find_in-requires-clause-inside
find_in-requires-clause-inside g c = subst (λ (v : View). c.args.e.0 < v.shape.pages / 8) (sym c.in_ok-have.ensures.view) c.requires.inside

pub returns-in_err-have-clause-does : goal.returns-in_err-have-clause-does
returns-in_err-have-clause-does g c =
    let a = g.P.PlanPages.state c.args.v.now in
    stop_as _ _ c.from_residual.ensures.1 (c.in_err-have.ensures.stops (fits_of c.args.wanted a.view.shape) (find_of c.args.wanted a.view.shape))

pub returns-then-not-have-clause-does : goal.returns-then-not-have-clause-does
returns-then-not-have-clause-does g c =
    let b = g.P.PlanPages.state c.have_maps.new.v in
    does_still (λ shape. search_at shape (fits_of c.args.wanted shape) (find_of c.args.wanted shape) c.args.e.0) c.in_ok-have.ensures.stays c.in_ok-have.ensures.view
    (at_held b (fits_of c.args.wanted b.view.shape) (find_of c.args.wanted b.view.shape) c.args.e.0 (ap (λ (v : View). is_held v (resource.Extent c.args.e)) c.in_ok-have.ensures.view ∙ c.in_ok-have.ensures.held c.if-not-have.true))

pub returns-then-not-do_fit-clause-does : goal.returns-then-not-do_fit-clause-does
returns-then-not-do_fit-clause-does g c =
    let a = g.P.PlanPages.state c.args.v.now in
    let b = g.P.PlanPages.state c.have_maps.new.v in
    let gam = c.have_maps.new.maps.gam.bytes in
    let sgam = c.have_maps.new.maps.sgam.bytes in
    let maps = λ (told : IsTrue b.told). subst (λ (v : View). AreMaps v (gam_place v.shape.geometry c.args.e.0).page gam sgam) (sym c.in_ok-have.ensures.view)
    (maps_at a.view c.have_maps.new.maps.read _ gam sgam (c.in_ok-have.ensures.told (sym c.in_ok-have.ensures.stays.told ∙ told)) (c.in_ok-have.ensures.place c.if-not-have.false)) in
    let place = c.gam_of-at.ensures.at ∙ ap (λ (k : Geometry). (gam_place k c.args.e.0).at) (c.requires.reader.geometry ∙ ap (λ (v : View). v.shape.geometry) (sym c.in_ok-have.ensures.view)) in
    let inside = subst (λ (v : View). c.args.e.0 < v.shape.pages / 8) (sym c.in_ok-have.ensures.view) c.requires.inside in
    does_still (λ shape. search_at shape (fits_of c.args.wanted shape) (find_of c.args.wanted shape) c.args.e.0) c.in_ok-have.ensures.stays c.in_ok-have.ensures.view
    (at_unfit b (fits_of c.args.wanted b.view.shape) (find_of c.args.wanted b.view.shape) c.args.e.0 (is_held b.view (resource.Extent c.args.e)) refl (λ told. (maps told).gam_good) (λ told. (maps told).sgam_good)
    (λ held told. fit_told b.view c.args.wanted c.args.e.0 c.gam_of-at.result.1 gam sgam false (g.P.PlanPages.size c.have_maps.new.v) inside (maps told) held place (sym c.if-not-do_fit.true ∙ c.do_fit.ensures)))

pub returns-then-is_held-clause-does : goal.returns-then-is_held-clause-does
returns-then-is_held-clause-does g c =
    let b = g.P.PlanPages.state c.have_maps.new.v in
    does_still (λ shape. search_at shape (fits_of c.args.wanted shape) (find_of c.args.wanted shape) c.args.e.0) c.in_ok-have.ensures.stays c.in_ok-have.ensures.view
    (at_held b (fits_of c.args.wanted b.view.shape) (find_of c.args.wanted b.view.shape) c.args.e.0 (sym c.is_held.ensures ∙ c.if-is_held.true))

pub returns-clause-does : goal.returns-clause-does
returns-clause-does g c =
    let a = g.P.PlanPages.state c.args.v.now in
    let b = g.P.PlanPages.state c.have_maps.new.v in
    let gam = c.have_maps.new.maps.gam.bytes in
    let sgam = c.have_maps.new.maps.sgam.bytes in
    let maps = λ (told : IsTrue b.told). subst (λ (v : View). AreMaps v (gam_place v.shape.geometry c.args.e.0).page gam sgam) (sym c.in_ok-have.ensures.view)
    (maps_at a.view c.have_maps.new.maps.read _ gam sgam (c.in_ok-have.ensures.told (sym c.in_ok-have.ensures.stays.told ∙ told)) (c.in_ok-have.ensures.place c.if-not-have.false)) in
    let place = c.gam_of-at.ensures.at ∙ ap (λ (k : Geometry). (gam_place k c.args.e.0).at) (c.requires.reader.geometry ∙ ap (λ (v : View). v.shape.geometry) (sym c.in_ok-have.ensures.view)) in
    let inside = subst (λ (v : View). c.args.e.0 < v.shape.pages / 8) (sym c.in_ok-have.ensures.view) c.requires.inside in
    let held = sym c.is_held.ensures ∙ c.if-is_held.false in
    does_still (λ shape. search_at shape (fits_of c.args.wanted shape) (find_of c.args.wanted shape) c.args.e.0) c.in_ok-have.ensures.stays c.in_ok-have.ensures.view
    (at_fit (fits_of c.args.wanted b.view.shape) (find_of c.args.wanted b.view.shape) c.args.e.0 held (λ told. (maps told).gam_good) (λ told. (maps told).sgam_good)
    (λ told. fit_told b.view c.args.wanted c.args.e.0 c.gam_of-at.result.1 gam sgam true (g.P.PlanPages.size c.have_maps.new.v) inside (maps told) held place (sym c.if-not-do_fit.false ∙ c.do_fit.ensures))
    c.find_in.ensures.does)

pub returns-clause-ownable : goal.returns-clause-ownable
returns-clause-ownable g c = subst (λ (v : View). IfOk c.find_in.result (λ found. IfSome found (λ p. IsOwnable v.shape p.0))) c.in_ok-have.ensures.view c.find_in.ensures.ownable

pub returns-clause-told : goal.returns-clause-told
returns-clause-told g c = ok_given c.find_in.result c.in_ok-have.ensures.told

pub returns-clause-view : goal.returns-clause-view
returns-clause-view g c = c.find_in.ensures.view ∙ c.in_ok-have.ensures.view
