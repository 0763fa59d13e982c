use Rattle.std.proofs.Common.{[]}
use Rattle.ck_error.proofs.GatheringLaws.{adds_both}
use Rattle.ck_facts.specs.Tested.{IsOutOfOrder, HasOtherFullness}
use Rattle.ck_facts.proofs.shown.errors_of.Goals as goal

pub returns : goal.returns
returns c = adds_both [] c.push_order_errors.new.errors.items _ (IsOutOfOrder c.args.page.now) (HasOtherFullness c.args.page.now c.args.pfs)
    (rw c.new-errors.ensures.items at c.in_ok-push_order_errors.ensures) c.in_ok-push_fullness_error.ensures
