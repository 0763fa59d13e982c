use Rattle.std.proofs.Common.{◌≡◌, ℕ, List, length, take, ◌++◌, arith, ap, ◌∙◌}
use Rattle.std.proofs.lemmas.Slice.{take-put_mid, drop-put_mid}
use Rattle.pg_row.proofs.write.put.Goals as goal

pub returns : goal.returns
returns c =
    let same = c.copy_from_slice.ensures.after in
    let size : length c.copy_from_slice.new.self ≡ length c.args.bytes.now = ap length same in
    record {
      front = take-put_mid c.args.at _ c.args.into.now c.copy_from_slice.new.self _ (omega arith) (omega arith)
          ∙ ap (λ (l : List ℕ). take c.args.at c.args.into.now ++ l) same;
      back = drop-put_mid c.args.at _ c.args.into.now c.copy_from_slice.new.self _ (omega arith) (omega arith) (omega arith);
    }
