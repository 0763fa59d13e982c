use Rattle.std.proofs.Common.{sym, ◌∙◌, subst, reverse, length}
use Rattle.std.specs.Prelude.{◌↔◌, IsTrue}
use Rattle.std.proofs.lemmas.Bool.{false≢true}
use Rattle.spec_log.specs.Cover.{IsCovered}
use Rattle.spec_log.specs.Rules.{AreFreeFor, Follows}
use Rattle.plain_log.proofs.rules.follows.Goals as goal

pub returns-then-may_start : goal.returns-then-may_start
returns-then-may_start c =
    let log = reverse c.args.older.now in
    let free : IsTrue c.are_free_for.result ↔ AreFreeFor log c.in-Start.tran.0 c.in-Start.takes =
    subst (λ takes. IsTrue c.are_free_for.result ↔ AreFreeFor log c.in-Start.tran.0 takes) c.as_slice.ensures c.are_free_for.ensures in
    subst (λ x. IsTrue c.are_free_for.result ↔ Follows c.args.g c.args.pages log x) (sym c.in-Start.is)
    (λ h. (c.may_start.ensures.0 c.if-may_start.true, free.0 h), λ whole. free.1 whole.1)

pub returns-then-is_unfinished : goal.returns-then-is_unfinished
returns-then-is_unfinished c =
    let log = reverse c.args.older.now in
    let covered : IsTrue c.is_covered.result ↔ IsCovered c.args.g c.args.pages log c.in-Change.tran.0 c.in-Change.cell (length c.in-Change.after) =
    subst (λ after. IsTrue c.is_covered.result ↔ IsCovered c.args.g c.args.pages log c.in-Change.tran.0 c.in-Change.cell (length after)) c.as_slice-in-Change.ensures c.is_covered.ensures in
    subst (λ x. IsTrue c.is_covered.result ↔ Follows c.args.g c.args.pages log x) (sym c.in-Change.is)
    (λ h. (sym c.is_unfinished.ensures ∙ c.if-is_unfinished.true, covered.0 h), λ whole. covered.1 whole.1)

pub returns-else-is_unfinished : goal.returns-else-is_unfinished
returns-else-is_unfinished c =
    subst (λ x. IsTrue c.is_unfinished.result ↔ Follows c.args.g c.args.pages (reverse c.args.older.now) x) (sym c.in-Change.is)
    (λ h. absurd (false≢true (sym c.if-is_unfinished.false ∙ h)), λ whole. c.is_unfinished.ensures ∙ whole.0)
