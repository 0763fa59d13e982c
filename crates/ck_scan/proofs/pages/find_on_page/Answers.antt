use Rattle.std.proofs.Common.{◌∙◌, ap, sym}
use Rattle.pg_base.specs.declared.page.Page.{Page}
use Rattle.ck_scan.proofs.pages.find_on_page.Goals as goal

pub returns-then-not-ordinary-clause-adds : goal.returns-then-not-ordinary-clause-adds
returns-then-not-ordinary-clause-adds g c = λ x at e of sound owner frame.
    (c.in_ok-add_not_ordinary.ensures.adds x c.args.map.now e owner (sym c.ordinary.ensures ∙ c.if-not-ordinary.true), frame)

pub returns-clause-adds : goal.returns-clause-adds
returns-clause-adds g c = λ x at e of sound owner frame.
    let shows = c.in_ok-bring.ensures.shows x at frame in
    (c.in_ok-add_page.ensures.adds x e of sound owner (sym c.ordinary.ensures ∙ c.if-not-ordinary.false) (ap (λ (p : Page). p.bytes) c.deref.ensures ∙ shows.1), shows.0)
