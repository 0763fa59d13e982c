use Rattle.ck_error.proofs.GatheringLaws.{gathers_first}
use Rattle.ck_merge.proofs.together.match_one.Goals as goal

pub returns : goal.returns
returns c = gathers_first _ _ (rw c.new-errors.ensures.items at c.in_ok-of_bucket.ensures)
