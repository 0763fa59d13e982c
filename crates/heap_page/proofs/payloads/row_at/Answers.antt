use Rattle.std.proofs.Common.{◌≡◌, ◌+◌, ◌≤◌, ap, sym, ◌∙◌, arith}
use Rattle.spec_file.specs.Image.{number_at}
use Rattle.spec_rows.specs.Slots.{slot_at, row_size}
use Rattle.heap_page.proofs.KeyRows.{row_stands_there, part_is_row}
use Rattle.heap_page.proofs.payloads.row_at.Goals as goal

pub overflow_sub-i : goal.overflow_sub-i
overflow_sub-i c = let slot = (row_stands_there c.args.page.now.bytes c.args.i c.requires.heap c.requires.i).slot in omega (arith, slot)

pub u16_at-size-requires : goal.u16_at-size-requires
u16_at-size-requires c =
    let says = (row_stands_there c.args.page.now.bytes c.args.i c.requires.heap c.requires.i).says in
    omega (arith, says, c.u16_at-start.ensures, c.is_whole.ensures.long)

pub slice_bounds-result-end : goal.slice_bounds-result-end
slice_bounds-result-end c =
    let bytes = c.args.page.now.bytes in
    let stands = row_stands_there bytes c.args.i c.requires.heap c.requires.i in
    let ends = stands.ends in
    let at : c.u16_at-start.result ≡ slot_at bytes c.args.i = c.u16_at-start.ensures in
    let size : c.u16_at-size.result ≡ row_size bytes c.args.i = c.u16_at-size.ensures ∙ ap (λ k. number_at 2 (k + 1) bytes) at ∙ sym stands.size in
    let whole : c.u16_at-start.result + c.u16_at-size.result ≤ 8192 = omega (arith, at, size, ends) in
    whole

pub returns : goal.returns
returns c =
    part_is_row c.args.page.now.bytes c.args.i c.u16_at-start.result c.u16_at-size.result (row_stands_there c.args.page.now.bytes c.args.i c.requires.heap c.requires.i) c.u16_at-start.ensures c.u16_at-size.ensures
