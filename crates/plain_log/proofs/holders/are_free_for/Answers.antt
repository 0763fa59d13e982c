use Rattle.std.proofs.Common.{refl, sym, ◌∙◌, subst, reverse, take_all}
use Rattle.std.proofs.lemmas.Bool.{false≢true}
use Rattle.spec_log.specs.Rules.{AreFreeFor}
use Rattle.plain_log.proofs.Holding.{free_more, not_free}
use Rattle.plain_log.proofs.holders.are_free_for.Goals as goal

pub returns-then-not-is_free_for : goal.returns-then-not-is_free_for
returns-then-not-is_free_for c = (
  λ e. absurd (false≢true e),
  λ all. absurd (false≢true (sym c.if-not-is_free_for.true ∙ c.is_free_for.ensures.1 (not_free (reverse c.args.items.now) c.args.t c.args.takes.now c.loop-r.r-index _ _ c.loop-r-test.true refl all))),
)

pub loop-r-preserved : goal.loop-r-preserved
loop-r-preserved c =
    free_more (reverse c.args.items.now) c.args.t c.args.takes.now c.loop-r.r-index _ _ c.loop-r-test.true refl c.loop-r.invariant (c.is_free_for.ensures.0 c.if-not-is_free_for.false)

pub returns : goal.returns
returns c = (λ e. subst (AreFreeFor (reverse c.args.items.now) c.args.t) (take_all c.loop-r.r-index c.args.takes.now c.loop-r-test.false) c.loop-r.invariant, λ all. refl)
