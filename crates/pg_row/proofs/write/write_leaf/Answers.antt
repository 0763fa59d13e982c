use Rattle.std.proofs.Common.{ℕ, ◌+◌, List, [], ◌∷◌, ◌++◌, length, arith, ap, refl, ◌∙◌}
use Rattle.byteorder.specs.Endian.{little_bytes}
use Rattle.spec_rows.specs.Rows.{DataRow, row_bytes, row_of}
use Rattle.spec_rows.proofs.RowLaws.{reads_back}
use Rattle.pg_row.proofs.Follow.{follows, stays}
use Rattle.pg_row.proofs.write.write_leaf.Goals as goal

pub returns-clause-bytes : goal.returns-clause-bytes
unfolding row_bytes
returns-clause-bytes c =
    let payload = c.args.payload.now in
    let size = ap length c.to_le_bytes.ensures in
    let key = ap length c.to_le_bytes-2.ensures in
    let one = follows 0 1 (16 ∷ []) [] _ _ c.put.ensures refl refl in
    let two = follows 1 3 _ _ _ _ c.put-2.ensures one (omega (arith, size)) in
    let three = follows 3 11 _ _ _ _ c.put-3.ensures two (omega (arith, key)) in
    let four = follows 11 (11 + length payload) _ _ _ _ c.put-4.ensures three refl in
    four ∙ ap (λ (l : List ℕ). 16 ∷ (l ++ c.to_le_bytes-2.result ++ payload)) c.to_le_bytes.ensures
    ∙ ap (λ (l : List ℕ). 16 ∷ (little_bytes 2 (11 + length payload) ++ (l ++ payload))) c.to_le_bytes-2.ensures

pub returns-clause-behind : goal.returns-clause-behind
returns-clause-behind c =
    let size = ap length c.to_le_bytes.ensures in
    let key = ap length c.to_le_bytes-2.ensures in
    stays 11 _ _ _ _ c.put-4.ensures (omega arith) ∙ stays 3 _ _ _ _ c.put-3.ensures (omega (arith, key))
    ∙ stays 1 _ _ _ _ c.put-2.ensures (omega (arith, size)) ∙ stays 0 _ _ _ _ c.put.ensures (omega arith)

pub returns-clause-read : goal.returns-clause-read
returns-clause-read c =
    ap row_of (returns-clause-bytes c) ∙ reads_back (DataRow c.args.key c.args.payload.now) (c.ranges.key.fits, omega arith)
