use Rattle.std.proofs.Common.{◌≡◌, ◌==◌, ◌-◌, length, filter, slice_index}
use Rattle.std.specs.List.{range_with_len}
use Rattle.spec_alloc.specs.Search.{first_in}
use Rattle.db_alloc.specs.Tables.{numbers}
use Rattle.db_alloc.proofs.slot.free_slot.Given as goal

abbrev pub invariant-loop-i : goal.invariant-loop-i
invariant-loop-i l =
    let n = length l.slots in
    first_in (filter (λ i. slice_index (numbers l.slots) i == 0) (range_with_len 0 n)) ≡ first_in (filter (λ i. slice_index (numbers l.slots) i == 0) (range_with_len l.i (n - l.i)))
