use Rattle.std.proofs.Common.{ℕ, ◌+◌, ◌-◌, ◌*◌, arith, ap, sym, ◌∙◌, inl, inr}
use Rattle.std.proofs.lemmas.Bool.{cases_eq}
use Rattle.spec_rows.specs.Slots.{slot_at}
use Rattle.pg_base.proofs.NumberLaws.{same_front}
use Rattle.pg_slots.proofs.puts.open_slot.Goals as goal

pub loop-k-preserved : goal.loop-k-preserved
loop-k-preserved c =
    let count = c.args.count in
    let slot = c.args.count - 1 - c.loop-k.k in
    let old = c.args.page.now.bytes in
    let middle = c.loop-k.page.bytes in
    let new = c.put_slot.new.page.bytes in
    let put = c.put_slot.ensures in
    let before = c.loop-k.invariant in
    record {
      later = λ j above within. elim (cases_eq j slot) [
        | inl same ↦
            ap (λ (m : ℕ). slot_at new (m + 1)) same ∙ put.here ∙ c.slot_at-offset.ensures ∙ before.below slot (omega arith) ∙ ap (slot_at old) (sym same)
        | inr other ↦ put.others (j + 1) (omega arith) (omega (arith, other)) ∙ before.later j (omega (arith, other)) within
      ];
      below = λ j within. put.others j (omega arith) (omega arith) ∙ before.below j (omega arith);
      front = same_front (8190 - 2 * count) _ new middle put.front (omega arith) ∙ before.front;
    }

pub returns : goal.returns
returns c =
    let put = c.put_slot-2.ensures in
    let before = c.loop-k.invariant in
    record {
      earlier = λ j below. put.others j (omega arith) (omega arith) ∙ before.below j (omega arith);
      here = put.here;
      later = λ j above within. put.others (j + 1) (omega arith) (omega arith) ∙ before.later j (omega arith) within;
      front = same_front (8190 - 2 * c.args.count) _ c.put_slot-2.new.page.bytes c.loop-k.page.bytes put.front (omega arith) ∙ before.front;
    }
