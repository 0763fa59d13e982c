use Rattle.std.proofs.Common.{◌<◌, Err, refl, sym, subst, [], ◌∷◌}
use Rattle.std.proofs.lemmas.List.Elements.{Contains-push}
use Rattle.spec_file.specs.declared.data.Resource.TheVariants as resource
use Rattle.spec_file.specs.Places.{pfs_page, pfs_place}
use Rattle.spec_log.specs.declared.item.Cell.TheVariants.{Bytes}
use Rattle.spec_chain.specs.Uses.{pfs_byte}
use Rattle.spec_words.specs.NetChanges.{FileShape}
use Rattle.spec_alloc.specs.ObjectPages.{as_allocated}
use Rattle.db_locks.proofs.CellSteps.{write_unlooked}
use Rattle.db_locks.proofs.PlanLaws.{does_more, does_see, stays_then}
use Rattle.db_alloc.proofs.MarkedSteps.{allocated_byte}
use Rattle.db_alloc.proofs.SingleSteps.{does_next}
use Rattle.db_alloc.proofs.Steps.{does_exit_as}
use Rattle.db_alloc.proofs.marked.take_marked.Goals as goal

pub take_page-requires : goal.take_page-requires
take_page-requires g c =
    let q = pfs_page c.args.geometry c.args.p.0 in
    let put = c.in_ok-set_pfs_byte.ensures (q ∷ []) (λ told. Contains-push [] q) in
    record { inside = subst (λ (s : FileShape). c.args.p.0 < s.pages) (sym (stays_then c.in_ok-byte.ensures.look.stays put.stays).shape) c.requires.inside }

pub returns-in_err-byte : goal.returns-in_err-byte
returns-in_err-byte g c = λ looked before.
    let a = g.P.PlanPages.state c.args.v.now in
    let place = pfs_place a.view.shape.geometry c.args.p.0 in
    let byte = pfs_byte a.view.shape.geometry a.view.now c.args.p.0 in
    let stop = c.in_err-byte.field-0.0 in
    does_next _ (does_see looked a (λ view. pfs_byte a.view.shape.geometry view.now c.args.p.0) byte (λ told. refl))
    (does_exit_as _ _ stop _ refl
    (write_unlooked a (g.P.PlanPages.state c.reread_byte.new.v) (resource.Byte c.args.p) place.page (Bytes (record { 0 = place.page }) place.at) (as_allocated byte ∷ []) looked (Err stop) before c.in_err-byte.ensures.look refl)
    c.from_residual.ensures.1)

pub returns-in_err-set_pfs_byte : goal.returns-in_err-set_pfs_byte
returns-in_err-set_pfs_byte g c = λ looked before.
    let a = g.P.PlanPages.state c.args.v.now in
    let byte = c.in_ok-byte.byte in
    does_next _ (does_see looked a (λ view. pfs_byte a.view.shape.geometry view.now c.args.p.0) byte c.in_ok-byte.ensures.told)
    (does_exit_as _ _ c.in_err-set_pfs_byte.field-0.0 _ refl
    (allocated_byte looked c.args.geometry c.args.p.0 byte c.byte_with_bit.result _ c.requires.geometry c.byte_with_bit.ensures before c.in_ok-byte.ensures.look c.in_err-set_pfs_byte.ensures)
    c.from_residual-in_err-set_pfs_byte.ensures.1)

pub returns : goal.returns
returns g c = λ looked before.
    let a = g.P.PlanPages.state c.args.v.now in
    let byte = c.in_ok-byte.byte in
    does_next _ (does_see looked a (λ view. pfs_byte a.view.shape.geometry view.now c.args.p.0) byte c.in_ok-byte.ensures.told)
    (does_next _ (allocated_byte looked c.args.geometry c.args.p.0 byte c.byte_with_bit.result _ c.requires.geometry c.byte_with_bit.ensures before c.in_ok-byte.ensures.look c.in_ok-set_pfs_byte.ensures)
    (does_more looked c.take_page.ensures.does))
