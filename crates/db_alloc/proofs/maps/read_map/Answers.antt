use Rattle.std.proofs.Common.{sym, ◌∙◌}
use Rattle.spec_file.specs.Image.{page}
use Rattle.db_alloc.proofs.MapPlaces.{map_header}
use Rattle.db_alloc.proofs.Pfs.{says_same}
use Rattle.db_alloc.proofs.MapReads.{map_unread, map_good, map_bad}
use Rattle.db_alloc.proofs.maps.read_map.Goals as goal

pub returns-in_err-look-clause-does : goal.returns-in_err-look-clause-does
returns-in_err-look-clause-does g c = map_unread c.args.page_type c.args.p.0 c.args.own _ c.requires.own c.in_err-look.ensures.look c.from_residual.ensures.1

pub returns-then-not-is_page_of-clause-does : goal.returns-then-not-is_page_of-clause-does
returns-then-not-is_page_of-clause-does g c =
    let a = g.P.PlanPages.state c.args.v.now in
    map_bad c.args.page_type c.args.p c.args.own c.look.new.into.bytes c.requires.own c.in_ok-look.ensures.look
    (λ told. c.in_ok-look.ensures.header told (map_header a.view.shape.geometry c.args.own c.args.p.0 c.requires.map)) (sym c.is_page_of.ensures ∙ c.if-not-is_page_of.true)

pub returns-clause-does : goal.returns-clause-does
returns-clause-does g c =
    let a = g.P.PlanPages.state c.args.v.now in
    map_good c.args.page_type c.args.p.0 c.args.own c.look.new.into.bytes c.requires.own c.in_ok-look.ensures.look
    (λ told. c.in_ok-look.ensures.header told (map_header a.view.shape.geometry c.args.own c.args.p.0 c.requires.map)) (sym c.is_page_of.ensures ∙ c.if-not-is_page_of.false)

pub returns-clause-good : goal.returns-clause-good
returns-clause-good g c = λ told.
    let a = g.P.PlanPages.state c.args.v.now in
    sym (says_same c.args.page_type c.args.p.0 c.look.new.into.bytes (page a.view.now c.args.p.0) (c.in_ok-look.ensures.header told (map_header a.view.shape.geometry c.args.own c.args.p.0 c.requires.map)))
    ∙ sym c.is_page_of.ensures ∙ c.if-not-is_page_of.false

pub returns-clause-told : goal.returns-clause-told
returns-clause-told g c = λ told. record { agrees = c.in_ok-look.ensures.guarded told }
