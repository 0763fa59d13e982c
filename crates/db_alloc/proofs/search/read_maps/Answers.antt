use Rattle.std.proofs.Common.{ℕ, ◌*◌, ◌/◌, ◌<◌, Some, sym, ap, ◌∙◌, subst}
use Rattle.spec_file.specs.declared.geometry.Geometry.{Geometry}
use Rattle.spec_file.specs.declared.page_type.TheConstants.{SGAM_TYPE}
use Rattle.spec_file.specs.Places.{gam_place, sgam_place, page_limit}
use Rattle.spec_alloc.specs.Search.{sgam_read}
use Rattle.spec_words.specs.Views.{View}
use Rattle.db_locks.proofs.PlanLaws.{does_then, does_exit}
use Rattle.db_alloc.specs.Maps.{IsMap, MapTells}
use Rattle.db_alloc.specs.Searches.{AreMaps}
use Rattle.db_alloc.proofs.MapPlaces.{extent_low}
use Rattle.db_alloc.proofs.SearchSteps.{does_handed}
use Rattle.db_alloc.proofs.Steps.{does_plan}
use Rattle.db_alloc.proofs.search.read_maps.Goals as goal

pub gam_of-at-requires : goal.gam_of-at-requires
gam_of-at-requires g c =
    let a = g.P.PlanPages.state c.args.v.now in
    subst (λ (k : Geometry). 8 * c.args.e.0 < page_limit k) (sym c.requires.reader.geometry) (extent_low a.view.shape.geometry a.view.shape.pages c.args.e.0 (g.P.PlanPages.size c.args.v.now) c.requires.inside)

pub read_sgam-requires-clause-geometry : goal.read_sgam-requires-clause-geometry
read_sgam-requires-clause-geometry g c = c.requires.reader.geometry ∙ ap (λ (v : View). v.shape.geometry) (sym c.in_ok-read_gam.ensures.view)

pub read_sgam-requires-clause-inside : goal.read_sgam-requires-clause-inside
read_sgam-requires-clause-inside g c = subst (λ (v : View). c.args.e.0 < v.shape.pages / 8) (sym c.in_ok-read_gam.ensures.view) c.requires.inside

pub read_sgam-requires-clause-own : goal.read_sgam-requires-clause-own
read_sgam-requires-clause-own g c = ap (λ (v : View). v.other c.args.reader.own) c.in_ok-read_gam.ensures.view ∙ c.requires.reader.own

pub returns-in_err-read_gam-clause-does : goal.returns-in_err-read_gam-clause-does
returns-in_err-read_gam-clause-does g c = does_exit _ c.in_err-read_gam.ensures.does c.from_residual.ensures.1

pub returns-in_err-read_sgam-clause-does : goal.returns-in_err-read_sgam-clause-does
returns-in_err-read_sgam-clause-does g c =
    does_then _ c.in_ok-read_gam.ensures.does
    (does_handed _ (does_plan (ap (λ (v : View). sgam_read v.shape c.args.e.0) c.in_ok-read_gam.ensures.view) c.in_err-read_sgam.ensures.does) c.from_residual-in_err-read_sgam.ensures.1)

pub returns-clause-does : goal.returns-clause-does
returns-clause-does g c =
    does_then _ c.in_ok-read_gam.ensures.does (does_plan (ap (λ (v : View). sgam_read v.shape c.args.e.0) c.in_ok-read_gam.ensures.view) c.in_ok-read_sgam.ensures.does)

pub returns-clause-place : goal.returns-clause-place
returns-clause-place g c = ap (λ (n : ℕ). Some n) (c.gam_of-at.ensures.page ∙ ap (λ (k : Geometry). (gam_place k c.args.e.0).page) c.requires.reader.geometry)

pub returns-clause-told : goal.returns-clause-told
returns-clause-told g c = λ told.
    let a = g.P.PlanPages.state c.args.v.now in
    let eq = c.gam_of-at.ensures.page ∙ ap (λ (k : Geometry). (gam_place k c.args.e.0).page) c.requires.reader.geometry in
    let later = c.in_ok-read_gam.ensures.does.stays.told ∙ told in
    subst (λ (q : ℕ). AreMaps a.view q c.read_gam.new.into.bytes c.read_sgam.new.into.bytes) (sym eq) (record {
      gam_good = c.in_ok-read_gam.ensures.good told;
      sgam_good = subst (λ (v : View). IsMap v SGAM_TYPE (sgam_place v.shape.geometry c.args.e.0).page) c.in_ok-read_gam.ensures.view (c.in_ok-read_sgam.ensures.good later);
      gam_tells = c.in_ok-read_gam.ensures.told told;
      sgam_tells = subst (λ (v : View). MapTells v (sgam_place v.shape.geometry c.args.e.0).page c.read_sgam.new.into.bytes) c.in_ok-read_gam.ensures.view (c.in_ok-read_sgam.ensures.told later);
    })

pub returns-clause-view : goal.returns-clause-view
returns-clause-view g c = c.in_ok-read_sgam.ensures.view ∙ c.in_ok-read_gam.ensures.view
