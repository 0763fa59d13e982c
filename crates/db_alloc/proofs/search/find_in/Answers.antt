use Rattle.std.proofs.Common.{refl, ◌*◌, ◌/◌, ◌<◌, [], arith, sym, ap, ◌∙◌, subst}
use Rattle.spec_file.specs.Places.{pfs_page}
use Rattle.spec_words.specs.Views.{View}
use Rattle.std.specs.Prelude.{IfSome}
use Rattle.db_locks.proofs.PlanLaws.{does_then, does_see}
use Rattle.db_alloc.specs.Maps.{MapTells, IsOwnable}
use Rattle.db_alloc.specs.Searches.{find_of}
use Rattle.db_alloc.proofs.Steps.{does_exit_as}
use Rattle.db_alloc.proofs.search.find_in.Goals as goal

pub read_pfs-requires-clause-inside : goal.read_pfs-requires-clause-inside
read_pfs-requires-clause-inside g c = let lt = c.requires.inside in omega (arith, lt)

pub page_in-requires-clause-geometry : goal.page_in-requires-clause-geometry
page_in-requires-clause-geometry g c = c.requires.reader.geometry ∙ ap (λ (v : View). v.shape.geometry) (sym c.in_ok-read_pfs.ensures.view)

pub page_in-requires-clause-inside : goal.page_in-requires-clause-inside
page_in-requires-clause-inside g c = subst (λ (v : View). c.args.e.0 < v.shape.pages / 8) (sym c.in_ok-read_pfs.ensures.view) c.requires.inside

pub page_in-requires-clause-read : goal.page_in-requires-clause-read
page_in-requires-clause-read g c = λ told.
    subst (λ (v : View). MapTells v (pfs_page v.shape.geometry (8 * c.args.e.0)) c.read_pfs.new.into.bytes) (sym c.in_ok-read_pfs.ensures.view)
    (c.in_ok-read_pfs.ensures.told (sym c.in_ok-read_pfs.ensures.does.stays.told ∙ told))

pub returns-in_err-read_pfs-clause-does : goal.returns-in_err-read_pfs-clause-does
returns-in_err-read_pfs-clause-does g c = does_exit_as _ _ c.in_err-read_pfs.field-0.0 _ refl c.in_err-read_pfs.ensures.does c.from_residual.ensures.1

pub returns-clause-does : goal.returns-clause-does
returns-clause-does g c =
    let a = g.P.PlanPages.state c.args.v.now in
    let b = g.P.PlanPages.state c.read_pfs.new.v in
    does_then _ c.in_ok-read_pfs.ensures.does
    (does_see [] b (λ view. find_of c.args.wanted a.view.shape view c.args.e.0) _
    (λ told. c.page_in.ensures.page told ∙ ap (λ (v : View). find_of c.args.wanted v.shape b.view c.args.e.0) c.in_ok-read_pfs.ensures.view))

pub returns-clause-ownable : goal.returns-clause-ownable
returns-clause-ownable g c = subst (λ (v : View). IfSome c.page_in.result (λ p. IsOwnable v.shape p.0)) c.in_ok-read_pfs.ensures.view c.page_in.ensures.ownable
