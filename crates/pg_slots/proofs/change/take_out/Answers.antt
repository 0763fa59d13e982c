use Rattle.std.proofs.Common.{ℕ, ◌≡◌, ◌+◌, ◌-◌, ◌*◌, ◌==◌, if◌then◌else◌, arith, ap, sym, ◌∙◌}
use Rattle.spec_file.specs.declared.header.Header.{Header}
use Rattle.spec_file.specs.Header.{header_of}
use Rattle.spec_rows.specs.Slots.{row_size, slot_at, slot_count}
use Rattle.spec_rows.specs.Changes.{with_counts}
use Rattle.spec_rows.proofs.SlotLaws.{rows_room}
use Rattle.pg_base.proofs.NumberLaws.{same_front}
use Rattle.pg_base.proofs.HeaderLaws.{same_header}
use Rattle.pg_slots.proofs.Bytes.{stays_front, stays_back, slot_stays_back}
use Rattle.pg_slots.proofs.change.take_out.Goals as goal

pub row_size-size-requires-clause-says : goal.row_size-size-requires-clause-says
row_size-size-requires-clause-says c = c.requires.rows.says c.args.i c.requires.i

pub overflow_add-header : goal.overflow_add-header
overflow_add-header c =
    let free = ap (λ (h : Header). h.free_count) c.read_header-header.ensures in
    record { fits = omega (arith, free, c.requires.free, c.row_size-size.ensures, c.requires.rows.ends c.args.i c.requires.i) }

pub overflow_add-header-2 : goal.overflow_add-header-2
overflow_add-header-2 c =
    let free = ap (λ (h : Header). h.free_count) c.read_header-header.ensures in
    record { fits = omega (arith, free, c.requires.free, c.row_size-size.ensures, c.requires.rows.ends c.args.i c.requires.i) }

pub returns : goal.returns
returns c =
    let old = c.args.page.now.bytes in
    let middle = c.close_slot.new.page.bytes in
    let new = c.set_counts.new.page.bytes in
    let said = c.read_header-header.result in
    let read = c.read_header-header.ensures in
    let room = rows_room (header_of old) c.requires.room in
    let closed = c.close_slot.ensures in
    let counts = c.set_counts.ensures in
    let slots : c.read_header-header.result.slots ≡ slot_count old = ap (λ (h : Header). h.slots) read in
    let size = c.row_size-size.ensures in
    let kept : header_of middle ≡ header_of old = same_header middle old (same_front 96 (8192 - 2 * said.slots) middle old closed.front (omega (arith, room.from, room.within, slots))) in
    record {
      long = c.is_whole-2.ensures.long ∙ sym c.is_whole.ensures.long;
      header = counts.header
          ∙ ap (with_counts (said.slots - 1) (said.free_count + c.row_size-size.result + 2) c.end_without_one.result) kept
          ∙ ap (λ (e : ℕ). with_counts (said.slots - 1) (said.free_count + c.row_size-size.result + 2) e (header_of old)) c.end_without_one.ensures
          ∙ ap (λ (s : ℕ). with_counts (said.slots - 1) (said.free_count + s + 2) (if said.slots == 1 then 96 else said.free_from) (header_of old)) size
          ∙ ap (λ (h : Header). with_counts (h.slots - 1) (h.free_count + row_size old c.args.i + 2) (if h.slots == 1 then 96 else h.free_from) (header_of old)) read;
      front = counts.front ∙ same_front 20 (8192 - 2 * said.slots) middle old closed.front (omega (arith, room.from, room.within, slots));
      others = stays_back 26 (8192 - 2 * slot_count old) 26 middle new counts.behind (omega arith)
          ∙ stays_front 26 (8192 - 2 * slot_count old) (8192 - 2 * said.slots) old middle closed.front (omega (arith, room.from, room.within)) (omega (arith, slots));
      earlier = λ j below. slot_stays_back j 26 middle new counts.behind (omega (arith, room.few)) ∙ closed.earlier j below;
      later = λ j above within. slot_stays_back j 26 middle new counts.behind (omega (arith, room.few)) ∙ closed.later j above (omega (arith, slots));
      cleared = slot_stays_back (slot_count old - 1) 26 middle new counts.behind (omega (arith, room.few))
          ∙ ap (λ (n : ℕ). slot_at middle (n - 1)) (sym slots) ∙ closed.cleared;
    }
