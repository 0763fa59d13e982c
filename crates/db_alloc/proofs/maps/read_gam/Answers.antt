use Rattle.std.proofs.Common.{ℕ, ◌*◌, ◌<◌, IsTrue, sym, ap, ◌∙◌, subst}
use Rattle.std.specs.Prelude.{OnOk}
use Rattle.spec_file.specs.declared.geometry.Geometry.{Geometry}
use Rattle.spec_file.specs.declared.page_type.TheConstants.{GAM_TYPE}
use Rattle.spec_file.specs.Places.{gam_place, page_limit}
use Rattle.spec_file.specs.Roles.{is_system_place}
use Rattle.spec_alloc.specs.Search.{map_read}
use Rattle.db_locks.specs.Does.{Does}
use Rattle.db_alloc.specs.Maps.{IsMap, MapTells}
use Rattle.db_alloc.proofs.MapPlaces.{extent_low, gam_inside, gam_system}
use Rattle.db_alloc.proofs.maps.read_gam.Goals as goal

pub gam_of-at-requires : goal.gam_of-at-requires
gam_of-at-requires g c =
    let a = g.P.PlanPages.state c.args.v.now in
    subst (λ (k : Geometry). 8 * c.args.e.0 < page_limit k) (sym c.requires.geometry) (extent_low a.view.shape.geometry a.view.shape.pages c.args.e.0 (g.P.PlanPages.size c.args.v.now) c.requires.inside)

pub read_map-requires-clause-inside : goal.read_map-requires-clause-inside
read_map-requires-clause-inside g c =
    let a = g.P.PlanPages.state c.args.v.now in
    let eq = c.gam_of-at.ensures.page ∙ ap (λ (k : Geometry). (gam_place k c.args.e.0).page) c.requires.geometry in
    subst (λ (q : ℕ). q < a.view.shape.pages) (sym eq) (gam_inside a.view.shape.geometry a.view.shape.pages c.args.e.0 (g.P.PlanPages.size c.args.v.now) c.requires.inside)

pub read_map-requires-clause-map : goal.read_map-requires-clause-map
read_map-requires-clause-map g c =
    let a = g.P.PlanPages.state c.args.v.now in
    ap (is_system_place a.view.shape.geometry) (c.gam_of-at.ensures.page ∙ ap (λ (k : Geometry). (gam_place k c.args.e.0).page) c.requires.geometry) ∙ gam_system a.view.shape.geometry c.args.e.0

pub returns-clause-does : goal.returns-clause-does
returns-clause-does g c =
    let a = g.P.PlanPages.state c.args.v.now in
    let b = g.P.PlanPages.state c.read_map.new.v in
    let eq = c.gam_of-at.ensures.page ∙ ap (λ (k : Geometry). (gam_place k c.args.e.0).page) c.requires.geometry in
    subst (λ (q : ℕ). Does a b (map_read GAM_TYPE q) c.read_map.result) eq c.read_map.ensures.does

pub returns-clause-good : goal.returns-clause-good
returns-clause-good g c =
    let a = g.P.PlanPages.state c.args.v.now in
    let eq = c.gam_of-at.ensures.page ∙ ap (λ (k : Geometry). (gam_place k c.args.e.0).page) c.requires.geometry in
    subst (λ (q : ℕ). OnOk c.read_map.result (IsTrue a.told → IsMap a.view GAM_TYPE q)) eq c.read_map.ensures.good

pub returns-clause-told : goal.returns-clause-told
returns-clause-told g c =
    let a = g.P.PlanPages.state c.args.v.now in
    let eq = c.gam_of-at.ensures.page ∙ ap (λ (k : Geometry). (gam_place k c.args.e.0).page) c.requires.geometry in
    subst (λ (q : ℕ). OnOk c.read_map.result (IsTrue a.told → MapTells a.view q c.read_map.new.into.bytes)) eq c.read_map.ensures.told
