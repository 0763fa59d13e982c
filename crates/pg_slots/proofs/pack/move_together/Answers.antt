use Rattle.std.proofs.Common.{ℕ, ◌≡◌, ◌+◌, ◌-◌, ◌*◌, slice_range, replicate, arith, ap, sym, ◌∙◌}
use Rattle.spec_file.specs.declared.header.Header.{Header}
use Rattle.spec_file.specs.Header.{header_of}
use Rattle.spec_rows.specs.Slots.{slot_count, rows_size}
use Rattle.spec_rows.specs.Changes.{with_counts}
use Rattle.spec_rows.proofs.SlotLaws.{rows_room}
use Rattle.pg_base.proofs.NumberLaws.{same_front}
use Rattle.pg_base.proofs.HeaderLaws.{same_header}
use Rattle.pg_slots.proofs.Bytes.{stays_front, stays_back, slot_stays_back}
use Rattle.pg_slots.proofs.Compacted.{rises}
use Rattle.pg_slots.proofs.pack.move_together.Goals as goal

pub returns : goal.returns
returns c =
    let old = c.args.page.now.bytes in
    let moved = c.move_rows-end.new.page.bytes in
    let cleared = c.clear.new.page.bytes in
    let new = c.set_counts.new.page.bytes in
    let said = c.read_header-header.result in
    let read = c.read_header-header.ensures in
    let room = rows_room (header_of old) c.requires.room in
    let end = c.move_rows-end.result in
    let slots : c.read_header-header.result.slots ≡ slot_count old = ap (λ (h : Header). h.slots) read in
    let ends : c.move_rows-end.result ≡ 96 + rows_size old (slot_count old) = c.move_rows-end.ensures.end ∙ ap (λ (n : ℕ). 96 + rows_size old n) slots in
    let within = c.move_rows-end.ensures.within in
    let moves = c.move_rows-end.ensures.moved in
    let clears = c.clear.ensures in
    let counts = c.set_counts.ensures in
    let kept : header_of cleared ≡ header_of old =
    same_header cleared old (same_front 96 end cleared moved clears.front (omega (arith, ends)) ∙ moves.front) in
    record {
      long = c.is_whole-2.ensures.long ∙ sym c.is_whole.ensures.long;
      header = counts.header ∙ ap (with_counts said.slots said.free_count end) kept
          ∙ ap (λ (n : ℕ). with_counts said.slots said.free_count n (header_of old)) ends
          ∙ ap (λ (h : Header). with_counts h.slots h.free_count (96 + rows_size old (slot_count old)) (header_of old)) read;
      front = counts.front ∙ same_front 20 end cleared moved clears.front (omega (arith, ends)) ∙ same_front 20 96 moved old moves.front (omega arith);
      unused = stays_back 26 96 26 cleared new counts.behind (omega arith)
          ∙ stays_front 26 96 end moved cleared clears.front (omega arith) (omega (arith, ends))
          ∙ stays_front 26 96 96 old moved moves.front (omega arith) (omega arith);
      slots = λ i inside.
          slot_stays_back i 26 cleared new counts.behind (omega (arith, room.few))
          ∙ slot_stays_back i (8192 - 2 * said.slots) moved cleared clears.back (omega (arith, slots, room.few))
          ∙ moves.slots i (omega (arith, slots));
      rows = λ i inside.
          stays_back (96 + rows_size old i) (96 + rows_size old (i + 1)) 26 cleared new counts.behind (omega arith)
          ∙ stays_front (96 + rows_size old i) (96 + rows_size old (i + 1)) end moved cleared clears.front
          (omega (arith, rises old i (i + 1) (omega arith))) (omega (arith, ends, rises old (i + 1) (slot_count old) (omega arith)))
          ∙ moves.rows i (omega (arith, slots));
      zeros = stays_back (96 + rows_size old (slot_count old)) (8192 - 2 * slot_count old) 26 cleared new counts.behind (omega arith)
          ∙ ap (λ (n : ℕ). slice_range cleared n (8192 - 2 * slot_count old)) (sym ends)
          ∙ ap (λ (n : ℕ). slice_range cleared end (8192 - 2 * n)) (sym slots)
          ∙ clears.zeros
          ∙ ap (λ (n : ℕ). replicate (8192 - 2 * n - end) 0) slots
          ∙ ap (λ (n : ℕ). replicate (8192 - 2 * slot_count old - n) 0) ends;
    }
