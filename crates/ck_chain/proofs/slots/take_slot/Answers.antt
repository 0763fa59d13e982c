use Rattle.std.proofs.Common.{◌∙◌, sym}
use Rattle.ck_chain.proofs.SlotList.{slot_empty, slot_taken}
use Rattle.ck_chain.proofs.slots.take_slot.Goals as goal

pub returns-then-not-is_inside : goal.returns-then-not-is_inside
returns-then-not-is_inside c = slot_empty c.args.pages c.args.id c.args.i _ _ _ c.slot_at-page.ensures (sym c.is_inside.ensures ∙ c.if-not-is_inside.true)

pub returns : goal.returns
returns c = slot_taken c.args.pages c.args.id c.args.i _ _ _ _ c.slot_at-page.ensures (sym c.is_inside.ensures ∙ c.if-not-is_inside.false) c.in_ok-push.ensures.items
