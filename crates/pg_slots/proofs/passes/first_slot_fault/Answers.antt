use Rattle.std.proofs.Common.{◌≡◌, arith, ap}
use Rattle.spec_file.specs.declared.header.Header.{Header}
use Rattle.spec_file.specs.Header.{header_of}
use Rattle.spec_rows.specs.Slots.{rows_end, slot_count}
use Rattle.spec_rows.proofs.SlotLaws.{rows_room}
use Rattle.pg_slots.proofs.passes.first_slot_fault.Goals as goal

pub slot_fault-requires-clause-end : goal.slot_fault-requires-clause-end
slot_fault-requires-clause-end c =
    let end : c.args.header.now.free_from ≡ rows_end c.args.page.now.bytes = ap (λ (h : Header). h.free_from) c.requires.header in
    omega (arith, end, (rows_room (header_of c.args.page.now.bytes) c.requires.room).within)

pub slot_fault-requires-clause-slot : goal.slot_fault-requires-clause-slot
slot_fault-requires-clause-slot c =
    let count : c.args.header.now.slots ≡ slot_count c.args.page.now.bytes = ap (λ (h : Header). h.slots) c.requires.header in
    omega (arith, count, (rows_room (header_of c.args.page.now.bytes) c.requires.room).few)
