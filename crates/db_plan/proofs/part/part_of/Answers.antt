use Rattle.std.proofs.Common.{ap}
use Rattle.db_plan.specs.Plans.{is_planned}
use Rattle.db_plan.proofs.part.part_of.Goals as goal

pub returns-in-CreateHeap : goal.returns-in-CreateHeap
returns-in-CreateHeap c = ap is_planned c.in-CreateHeap.is

pub returns-in-Drop : goal.returns-in-Drop
returns-in-Drop c = ap is_planned c.in-Drop.is

pub returns-in-Insert : goal.returns-in-Insert
returns-in-Insert c = ap is_planned c.in-Insert.is

pub returns-in-Count : goal.returns-in-Count
returns-in-Count c = ap is_planned c.in-Count.is

pub returns-in-Select : goal.returns-in-Select
returns-in-Select c = ap is_planned c.in-Select.is
