use Rattle.std.proofs.Common.{◌≡◌, ◌+◌, ◌-◌, ◌<◌, suc, sym, ◌∙◌, arith}
use Rattle.app_words.specs.Words.{is_wrong_at}
use Rattle.app_words.proofs.Least.{least_here, least_behind}
use Rattle.app_words.proofs.command.wrong_place.Goals as goal

pub returns-then-is_wrong_at-clause-least : goal.returns-then-is_wrong_at-clause-least
returns-then-is_wrong_at-clause-least c =
    let some : 0 < c.places_of-end.result + 1 - c.loop-i.i = omega (arith, c.loop-i-test.true, c.loop-i.auto.i-end) in
    sym (c.loop-i.invariant
    ∙ least_here (is_wrong_at c.args.verb c.args.words.now) (c.places_of-end.result + 1 - c.loop-i.i) c.loop-i.i some
    (sym c.is_wrong_at.ensures ∙ c.if-is_wrong_at.true))

pub loop-i-preserved : goal.loop-i-preserved
loop-i-preserved c =
    let more : c.places_of-end.result + 1 - c.loop-i.i ≡ suc (c.places_of-end.result + 1 - (c.loop-i.i + 1)) =
    omega (arith, c.loop-i-test.true, c.loop-i.auto.i-end) in
    c.loop-i.invariant
    ∙ least_behind (is_wrong_at c.args.verb c.args.words.now) (c.places_of-end.result + 1 - c.loop-i.i)
    (c.places_of-end.result + 1 - (c.loop-i.i + 1)) c.loop-i.i more (sym c.is_wrong_at.ensures ∙ c.if-is_wrong_at.false)
