use Rattle.std.proofs.Common.{◌≡◌, arith, ℕ, ◌+◌, ◌-◌, ◌==◌, length, filter, slice_index, Bool, sym, ap, ◌∙◌}
use Rattle.std.specs.List.{range_with_len}
use Rattle.spec_alloc.specs.Search.{first_in}
use Rattle.db_alloc.specs.Tables.{numbers}
use Rattle.db_alloc.proofs.MapReads.{first_hit, first_miss}
use Rattle.db_alloc.proofs.SearchSteps.{extents_first, extents_end}
use Rattle.db_alloc.proofs.SlotSteps.{slot_hit, slot_miss}
use Rattle.db_alloc.proofs.slot.free_slot.Goals as goal

all_left : (n : ℕ) → n ≡ n - 0
all_left n = omega arith

pub loop-i-init : goal.loop-i-init
loop-i-init c =
    let f : ℕ → Bool = λ i. slice_index (numbers c.args.slots.now) i == 0 in
    ap (λ (n : ℕ). first_in (filter f (range_with_len 0 n))) (all_left (length c.args.slots.now))

pub returns-then-slots-i-eq0-clause-slot : goal.returns-then-slots-i-eq0-clause-slot
returns-then-slots-i-eq0-clause-slot c =
    let slots = c.args.slots.now in
    let i = c.loop-i.i in
    let n = length slots in
    let f : ℕ → Bool = λ i. slice_index (numbers slots) i == 0 in
    sym (c.loop-i.invariant ∙ ap (λ xs. first_in (filter f xs)) (extents_first i n c.loop-i-test.true)
    ∙ first_hit f i (range_with_len (i + 1) (n - (i + 1))) (slot_hit 0 slots i (record { 0 = 0 }) c.loop-i-test.true c.if-slots-i-eq0.true))

pub loop-i-preserved : goal.loop-i-preserved
loop-i-preserved c =
    let slots = c.args.slots.now in
    let i = c.loop-i.i in
    let n = length slots in
    let f : ℕ → Bool = λ i. slice_index (numbers slots) i == 0 in
    c.loop-i.invariant ∙ ap (λ xs. first_in (filter f xs)) (extents_first i n c.loop-i-test.true)
    ∙ first_miss f i (range_with_len (i + 1) (n - (i + 1))) (slot_miss 0 slots i (record { 0 = 0 }) c.loop-i-test.true c.if-slots-i-eq0.false)

pub returns-clause-slot : goal.returns-clause-slot
returns-clause-slot c =
    let slots = c.args.slots.now in
    let f : ℕ → Bool = λ i. slice_index (numbers slots) i == 0 in
    sym (c.loop-i.invariant ∙ ap (λ xs. first_in (filter f xs)) (extents_end c.loop-i.i (length slots) c.loop-i-test.false))
