use Rattle.std.proofs.Common.{◌+◌, sym, ◌∙◌, reverse}
use Rattle.std.proofs.lemmas.Bool.{false≢true}
use Rattle.spec_log.specs.Rules.{IsFirstBroken}
use Rattle.plain_log.proofs.Broken.{keeps_all, broken_at, broken_answer, kept_answer, not_kept}
use Rattle.plain_log.proofs.rules.first_broken.Goals as goal

first : (c : goal.Then-not-follows) → IsFirstBroken c.args.g c.args.pages (reverse c.args.items.now) (c.loop-i.i + 1)
first c =
    broken_at c.args.g c.args.pages c.args.items.now c.loop-i.i c.index-items-i.result c.loop-i-test.true c.index-items-i.is c.loop-i.invariant
    (λ may. false≢true (sym c.if-not-follows.true ∙ c.follows.ensures.1 may))

pub returns-then-not-follows-clause-kept : goal.returns-then-not-follows-clause-kept
returns-then-not-follows-clause-kept c = not_kept c.args.g c.args.pages (reverse c.args.items.now) (c.loop-i.i + 1) _ (first c)

pub returns-then-not-follows-clause-broken : goal.returns-then-not-follows-clause-broken
returns-then-not-follows-clause-broken c = broken_answer c.args.g c.args.pages (reverse c.args.items.now) (c.loop-i.i + 1) (first c)

pub returns-clause-broken : goal.returns-clause-broken
returns-clause-broken c =
    kept_answer c.args.g c.args.pages (reverse c.args.items.now) (keeps_all c.args.g c.args.pages c.args.items.now c.loop-i.i c.loop-i-test.false c.loop-i.invariant)
