use Rattle.pg_slots.proofs.Bytes.{puts_slot}
use Rattle.pg_slots.proofs.puts.put_slot.Goals as goal

pub returns : goal.returns
returns c = puts_slot c.args.slot c.args.at c.args.page.now.bytes c.put_u16.new.page.bytes c.requires c.put_u16.ensures
