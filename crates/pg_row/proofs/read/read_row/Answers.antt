use Rattle.std.proofs.Common.{◌≡◌, ◌-◌, false, None, refl, length, take, drop, length-drop, arith, sym, ◌∙◌}
use Rattle.std.proofs.lemmas.List.{take_all}
use Rattle.spec_rows.specs.Rows.{is_data_row, is_index_row, row_of}
use Rattle.spec_rows.proofs.RowLaws.{data_spelled, index_spelled, no_row}
use Rattle.pg_row.proofs.read.read_row.Goals as goal

pub returns-then-is_data_row-clause-spelled : goal.returns-then-is_data_row-clause-spelled
returns-then-is_data_row-clause-spelled c =
    let bytes = c.args.bytes.now in
    let payload : take (length bytes - 11) (drop 11 bytes) ≡ drop 11 bytes = take_all _ (drop 11 bytes) (omega (arith, length-drop 11 bytes)) in
    rw (c.u64_at.ensures, payload) (data_spelled bytes (λ k. (c.type_inv.bytes k).fits) (sym c.is_data_row.ensures ∙ c.if-is_data_row.true))

pub returns-then-is_index_row-clause-spelled : goal.returns-then-is_index_row-clause-spelled
returns-then-is_index_row-clause-spelled c =
    rw (c.u64_at-then-is_index_row.ensures, c.u32_at.ensures)
    (index_spelled c.args.bytes.now (λ k. (c.type_inv.bytes k).fits) (sym c.is_index_row.ensures ∙ c.if-is_index_row.true))

pub returns-else-is_index_row-clause-none : goal.returns-else-is_index_row-clause-none
returns-else-is_index_row-clause-none c =
    let bytes = c.args.bytes.now in
    let leaf : is_data_row bytes ≡ false = sym c.is_data_row.ensures ∙ c.if-is_data_row.false in
    let index : is_index_row bytes ≡ false = sym c.is_index_row.ensures ∙ c.if-is_index_row.false in
    let none : row_of bytes ≡ None = rw (leaf, index) refl in
    no_row bytes none
