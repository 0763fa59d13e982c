use Rattle.std.proofs.lemmas.Result.{on_ok_weaker}
use Rattle.ck_error.proofs.GatheringLaws.{adds_given, adds_not}
use Rattle.ck_alloc.proofs.wrong.note.Goals as goal

pub returns-then-not-is_wrong : goal.returns-then-not-is_wrong
returns-then-not-is_wrong c = adds_not _ _ _ (λ h. let right = c.is_wrong.ensures.1 h in let wrong = c.if-not-is_wrong.true in cc)

pub returns : goal.returns
returns c = on_ok_weaker c.add_both.result (adds_given _ _ _ _ (c.is_wrong.ensures.0 c.if-not-is_wrong.false)) c.add_both.ensures
