use Rattle.std.proofs.Common.{ℕ, ◌≡◌, ◌+◌, ◌-◌, ◌*◌, ◌≤◌, length, slice_range, arith, ap, sym, ◌∙◌}
use Rattle.spec_file.specs.declared.header.Header.{Header}
use Rattle.spec_file.specs.Header.{header_of}
use Rattle.spec_rows.specs.Slots.{slot_count, rows_end}
use Rattle.spec_rows.specs.Changes.{with_counts}
use Rattle.spec_rows.proofs.SlotLaws.{rows_room}
use Rattle.pg_base.proofs.NumberLaws.{same_front}
use Rattle.pg_base.proofs.HeaderLaws.{same_header}
use Rattle.pg_slots.proofs.Bytes.{stays_front, stays_back, slot_stays_back}
use Rattle.pg_slots.proofs.change.place.Goals as goal

pub returns : goal.returns
returns c =
    let old = c.args.page.now.bytes in
    let opened = c.open_slot.new.page.bytes in
    let put = c.put_row.new.page.bytes in
    let new = c.set_counts.new.page.bytes in
    let said = c.read_header-header.result in
    let read = c.read_header-header.ensures in
    let long = length c.args.row.now in
    let room = rows_room (header_of old) c.requires.room in
    let open_facts = c.open_slot.ensures in
    let put_facts = c.put_row.ensures in
    let counts = c.set_counts.ensures in
    let slots : c.read_header-header.result.slots ≡ slot_count old = ap (λ (h : Header). h.slots) read in
    let ends : c.read_header-header.result.free_from ≡ rows_end old = ap (λ (h : Header). h.free_from) read in
    let behind : rows_end old + length c.args.row.now + 2 * (slot_count old + 1) ≤ 8192 = c.requires.behind in
    let kept : header_of opened ≡ header_of old = same_header opened old (same_front 96 (8190 - 2 * said.slots) opened old open_facts.front (omega (arith, room.from, behind, slots))) in
    let kept' : header_of put ≡ header_of opened = same_header put opened (same_front 96 said.free_from put opened put_facts.front (omega (arith, room.from, ends))) in
    record {
      long = c.is_whole-2.ensures.long ∙ sym c.is_whole.ensures.long;
      header = counts.header
          ∙ ap (with_counts (said.slots + 1) (said.free_count - (long + 2)) (said.free_from + long)) (kept' ∙ kept)
          ∙ ap (λ (h : Header). with_counts (h.slots + 1) (h.free_count - (long + 2)) (h.free_from + long) (header_of old)) read;
      front = counts.front ∙ same_front 20 said.free_from put opened put_facts.front (omega (arith, room.from, ends))
          ∙ same_front 20 (8190 - 2 * said.slots) opened old open_facts.front (omega (arith, room.from, behind, slots));
      others = stays_back 26 (rows_end old) 26 put new counts.behind (omega arith)
          ∙ stays_front 26 (rows_end old) said.free_from opened put put_facts.front (omega (arith, room.from)) (omega (arith, ends))
          ∙ stays_front 26 (rows_end old) (8190 - 2 * said.slots) old opened open_facts.front (omega (arith, room.from)) (omega (arith, behind, slots));
      placed = stays_back (rows_end old) (rows_end old + long) 26 put new counts.behind (omega (arith, room.from))
          ∙ ap (λ (n : ℕ). slice_range put n (n + long)) (sym ends) ∙ put_facts.here;
      behind = stays_back (rows_end old + long) (8192 - 2 * (slot_count old + 1)) 26 put new counts.behind (omega (arith, room.from))
          ∙ stays_back (rows_end old + long) (8192 - 2 * (slot_count old + 1)) (said.free_from + long) opened put put_facts.back (omega (arith, ends))
          ∙ stays_front (rows_end old + long) (8192 - 2 * (slot_count old + 1)) (8190 - 2 * said.slots) old opened open_facts.front (omega (arith, behind)) (omega (arith, slots));
      earlier = λ j below.
          slot_stays_back j 26 put new counts.behind (omega (arith, behind, room.from))
          ∙ slot_stays_back j (said.free_from + long) opened put put_facts.back (omega (arith, behind, ends)) ∙ open_facts.earlier j below;
      here = slot_stays_back c.args.i 26 put new counts.behind (omega (arith, behind, room.from))
          ∙ slot_stays_back c.args.i (said.free_from + long) opened put put_facts.back (omega (arith, behind, ends)) ∙ open_facts.here ∙ ends;
      later = λ j above within.
          slot_stays_back (j + 1) 26 put new counts.behind (omega (arith, behind, room.from))
          ∙ slot_stays_back (j + 1) (said.free_from + long) opened put put_facts.back (omega (arith, behind, ends)) ∙ open_facts.later j above (omega (arith, slots));
    }
