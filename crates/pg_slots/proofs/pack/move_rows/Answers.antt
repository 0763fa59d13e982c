use Rattle.std.proofs.Common.{ℕ, ◌≡◌, ◌+◌, slice_range, arith, ap, sym, ◌∙◌, inl, inr}
use Rattle.std.proofs.lemmas.Bool.{cases_order}
use Rattle.spec_rows.specs.Slots.{slot_at, rows_size, page_row}
use Rattle.pg_base.proofs.NumberLaws.{same_front}
use Rattle.pg_slots.proofs.Bytes.{stays_front}
use Rattle.pg_slots.proofs.Compacted.{rises}
use Rattle.pg_slots.proofs.pack.move_rows.Goals as goal

pub loop-slot-preserved : goal.loop-slot-preserved
loop-slot-preserved c =
    let bytes = c.args.source.now.bytes in
    let before = c.loop-slot.page.bytes in
    let new = c.move_row-at.new.page.bytes in
    let slot = c.loop-slot.slot in
    let at : c.loop-slot.at ≡ 96 + rows_size bytes slot = c.loop-slot.invariant.end in
    let so_far = c.loop-slot.invariant.moved in
    let moved = c.move_row-at.ensures.moved in
    let stop = c.move_row-at.ensures.end in
    record {
      end = stop;
      moved = record {
        front = same_front 96 c.loop-slot.at new before moved.front (omega (arith, at)) ∙ so_far.front;
        slots = λ i within. elim (cases_order i slot) [
          | inl same ↦ ap (slot_at new) same ∙ moved.here ∙ at ∙ ap (λ (n : ℕ). 96 + rows_size bytes n) (sym same)
          | inr (inl below) ↦ moved.earlier i below ∙ so_far.slots i below
          | inr (inr above) ↦ absurd (omega (arith, above))
        ];
        rows = λ i within. elim (cases_order i slot) [
          | inl same ↦
              ap (λ (n : ℕ). slice_range new (96 + rows_size bytes n) (96 + rows_size bytes (n + 1))) same
              ∙ ap (λ (n : ℕ). slice_range new n (96 + rows_size bytes (slot + 1))) (sym at)
              ∙ ap (slice_range new c.loop-slot.at) (sym stop) ∙ moved.placed ∙ ap (page_row bytes) (sym same)
          | inr (inl below) ↦
              stays_front (96 + rows_size bytes i) (96 + rows_size bytes (i + 1)) c.loop-slot.at before new moved.front
              (omega (arith, rises bytes i (i + 1) (omega arith))) (omega (arith, at, rises bytes (i + 1) slot (omega (arith, below))))
              ∙ so_far.rows i below
          | inr (inr above) ↦ absurd (omega (arith, above))
        ];
      };
    }

pub returns-clause-within : goal.returns-clause-within
returns-clause-within c =
    omega (arith, c.loop-slot.invariant.end, c.requires.rows.room c.loop-slot.slot (omega arith))

pub returns-clause-end : goal.returns-clause-end
returns-clause-end c =
    let all : c.loop-slot.slot ≡ c.args.count = omega arith in
    c.loop-slot.invariant.end ∙ ap (λ (n : ℕ). 96 + rows_size c.args.source.now.bytes n) all
