use Rattle.std.proofs.Common.{◌+◌, ◌-◌, ◌*◌, length, arith, ◌∙◌}
use Rattle.pg_base.proofs.NumberLaws.{same_front}
use Rattle.pg_slots.proofs.Bytes.{stays_front, slot_stays_back}
use Rattle.pg_slots.proofs.Compacted.{row_ends}
use Rattle.pg_slots.proofs.pack.move_row.Goals as goal

pub put_row-requires : goal.put_row-requires
put_row-requires c =
    let facts = row_ends c.args.source.now.bytes c.row_at-row.result.now c.args.slot c.args.at c.row_at-row.ensures.long c.requires.rows c.requires.slot c.requires.at c.row_at-row.ensures.row in
    omega (arith, facts.within)

pub overflow_add-result : goal.overflow_add-result
overflow_add-result c =
    let facts = row_ends c.args.source.now.bytes c.row_at-row.result.now c.args.slot c.args.at c.row_at-row.ensures.long c.requires.rows c.requires.slot c.requires.at c.row_at-row.ensures.row in
    record { fits = omega (arith, facts.within) }

pub returns-clause-end : goal.returns-clause-end
returns-clause-end c =
    (row_ends c.args.source.now.bytes c.row_at-row.result.now c.args.slot c.args.at c.row_at-row.ensures.long c.requires.rows c.requires.slot c.requires.at c.row_at-row.ensures.row).next

pub returns-clause-moved : goal.returns-clause-moved
returns-clause-moved c =
    let old = c.args.page.now.bytes in
    let put = c.put_row.new.page.bytes in
    let new = c.put_slot.new.page.bytes in
    let at = c.args.at in
    let slot = c.args.slot in
    let stop = c.args.at + length c.row_at-row.result.now in
    let facts = row_ends c.args.source.now.bytes c.row_at-row.result.now c.args.slot c.args.at c.row_at-row.ensures.long c.requires.rows c.requires.slot c.requires.at c.row_at-row.ensures.row in
    let few = c.requires.rows.stand.few in
    let slot_facts = c.put_slot.ensures in
    let row_facts = c.put_row.ensures in
    record {
      front = same_front at (8190 - 2 * slot) new put slot_facts.front (omega (arith, facts.within)) ∙ row_facts.front;
      placed = stays_front at stop (8190 - 2 * slot) put new slot_facts.front (omega arith) (omega (arith, facts.within))
          ∙ row_facts.here ∙ c.row_at-row.ensures.row;
      here = slot_facts.here;
      earlier = λ j below. slot_facts.others j (omega (arith, few)) (omega arith) ∙ slot_stays_back j stop old put row_facts.back (omega (arith, facts.within));
    }
