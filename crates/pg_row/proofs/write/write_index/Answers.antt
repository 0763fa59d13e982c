use Rattle.std.proofs.Common.{ℕ, List, [], ◌∷◌, ◌++◌, length, arith, ap, refl, ◌∙◌}
use Rattle.byteorder.specs.Endian.{little_bytes}
use Rattle.spec_rows.specs.Rows.{IndexRow, row_bytes, row_of}
use Rattle.spec_rows.proofs.RowLaws.{reads_back}
use Rattle.pg_row.proofs.Follow.{follows, stays}
use Rattle.pg_row.proofs.write.write_index.Goals as goal

pub returns-clause-bytes : goal.returns-clause-bytes
unfolding row_bytes
returns-clause-bytes c =
    let key = ap length c.to_le_bytes.ensures in
    let child = ap length c.to_le_bytes-2.ensures in
    let one = follows 0 1 (6 ∷ []) [] _ _ c.put.ensures refl refl in
    let two = follows 1 9 _ _ _ _ c.put-2.ensures one (omega (arith, key)) in
    let three = follows 9 13 _ _ _ _ c.put-3.ensures two (omega (arith, child)) in
    three ∙ ap (λ (l : List ℕ). 6 ∷ (l ++ c.to_le_bytes-2.result)) c.to_le_bytes.ensures
    ∙ ap (λ (l : List ℕ). 6 ∷ (little_bytes 8 c.args.key ++ l)) c.to_le_bytes-2.ensures

pub returns-clause-behind : goal.returns-clause-behind
returns-clause-behind c =
    let key = ap length c.to_le_bytes.ensures in
    let child = ap length c.to_le_bytes-2.ensures in
    stays 9 13 _ _ _ c.put-3.ensures (omega (arith, child)) ∙ stays 1 13 _ _ _ c.put-2.ensures (omega (arith, key))
    ∙ stays 0 13 _ _ _ c.put.ensures (omega arith)

pub returns-clause-read : goal.returns-clause-read
returns-clause-read c =
    ap row_of (returns-clause-bytes c) ∙ reads_back (IndexRow c.args.key c.args.child) (c.ranges.key.fits, c.ranges.child.fits)
