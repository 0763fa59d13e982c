use Rattle.std.proofs.Common.{arith, ap}
use Rattle.spec_file.specs.declared.header.Header.{Header}
use Rattle.pg_slots.proofs.Stand.{holds_stand, free_within}
use Rattle.pg_slots.proofs.change.replace_at.Goals as goal

pub row_size-requires-clause-slot : goal.row_size-requires-clause-slot
row_size-requires-clause-slot c = omega (arith, c.requires.i, (holds_stand c.args.kind c.args.page.now.bytes c.requires.holds).few)

pub row_size-requires-clause-says : goal.row_size-requires-clause-says
row_size-requires-clause-says c = (holds_stand c.args.kind c.args.page.now.bytes c.requires.holds).says c.args.i c.requires.i

pub overflow_add-free : goal.overflow_add-free
overflow_add-free c =
    let free = ap (λ (h : Header). h.free_count) c.read_header-header.ensures in
    let ends = (holds_stand c.args.kind c.args.page.now.bytes c.requires.holds).ends c.args.i c.requires.i in
    record { fits = omega (arith, free, free_within c.args.kind c.args.page.now.bytes c.requires.holds, c.row_size.ensures, ends) }
