use Rattle.std.proofs.lemmas.Result.{on_ok_weaker}
use Rattle.std.proofs.Common.{sym, ◌∙◌}
use Rattle.ck_error.proofs.GatheringLaws.{adds_given}
use Rattle.ck_alloc.proofs.pages.add_test_alone.Goals as goal

pub returns : goal.returns
returns c = on_ok_weaker c.add_test.result (adds_given _ _ _ _ (sym c.is_alone.ensures ∙ c.if-not-is_alone.false)) c.add_test.ensures
