use Rattle.std.proofs.Common.{ℕ, ◌<◌, IsTrue, sym, ap, ◌∙◌, subst}
use Rattle.std.specs.Prelude.{OnOk}
use Rattle.spec_file.specs.declared.geometry.Geometry.{Geometry}
use Rattle.spec_file.specs.declared.page_type.TheConstants.{PFS_TYPE}
use Rattle.spec_file.specs.Places.{pfs_page}
use Rattle.spec_file.specs.Roles.{is_system_place}
use Rattle.spec_alloc.specs.Search.{map_read}
use Rattle.db_locks.specs.Does.{Does}
use Rattle.db_alloc.specs.Maps.{MapTells}
use Rattle.db_alloc.proofs.MapPlaces.{pfs_inside, pfs_system}
use Rattle.db_alloc.proofs.maps.read_pfs.Goals as goal

pub read_map-requires-clause-inside : goal.read_map-requires-clause-inside
read_map-requires-clause-inside g c =
    let a = g.P.PlanPages.state c.args.v.now in
    let eq = c.pfs_of-at.ensures.page ∙ ap (λ (k : Geometry). pfs_page k c.args.p.0) c.requires.geometry in
    subst (λ (q : ℕ). q < a.view.shape.pages) (sym eq) (pfs_inside a.view.shape.geometry a.view.shape.pages c.args.p.0 (g.P.PlanPages.size c.args.v.now) c.requires.inside)

pub read_map-requires-clause-map : goal.read_map-requires-clause-map
read_map-requires-clause-map g c =
    let a = g.P.PlanPages.state c.args.v.now in
    ap (is_system_place a.view.shape.geometry) (c.pfs_of-at.ensures.page ∙ ap (λ (k : Geometry). pfs_page k c.args.p.0) c.requires.geometry) ∙ pfs_system a.view.shape.geometry c.args.p.0

pub returns-clause-does : goal.returns-clause-does
returns-clause-does g c =
    let a = g.P.PlanPages.state c.args.v.now in
    let b = g.P.PlanPages.state c.read_map.new.v in
    let eq = c.pfs_of-at.ensures.page ∙ ap (λ (k : Geometry). pfs_page k c.args.p.0) c.requires.geometry in
    subst (λ (q : ℕ). Does a b (map_read PFS_TYPE q) c.read_map.result) eq c.read_map.ensures.does

pub returns-clause-told : goal.returns-clause-told
returns-clause-told g c =
    let a = g.P.PlanPages.state c.args.v.now in
    let eq = c.pfs_of-at.ensures.page ∙ ap (λ (k : Geometry). pfs_page k c.args.p.0) c.requires.geometry in
    subst (λ (q : ℕ). OnOk c.read_map.result (IsTrue a.told → MapTells a.view q c.read_map.new.into.bytes)) eq c.read_map.ensures.told
