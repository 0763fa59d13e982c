use Rattle.std.proofs.Common.{ap, sym, ◌∙◌}
use Rattle.net_changes.specs.Shown.{is_put}
use Rattle.net_changes.proofs.PutLaws.{contains_put}
use Rattle.net_changes.proofs.put.read_put.Goals as goal

pub before-requires : goal.before-requires
before-requires g c =
    contains_put _ c.args.p (ap (λ ps. is_put ps c.args.p.0) (sym c.changed.ensures.pages) ∙ sym c.has_page.ensures ∙ c.if-not-has_page.false)

pub after-requires : goal.after-requires
after-requires g c =
    contains_put _ c.args.p (ap (λ ps. is_put ps c.args.p.0) (sym c.changed.ensures.pages) ∙ sym c.has_page.ensures ∙ c.if-not-has_page.false)

pub returns-clause-inside : goal.returns-clause-inside
returns-clause-inside g c = λ read.
    c.changed.ensures.inside c.args.p
    (contains_put _ c.args.p (ap (λ ps. is_put ps c.args.p.0) (sym c.changed.ensures.pages) ∙ sym c.has_page.ensures ∙ c.if-not-has_page.false))
