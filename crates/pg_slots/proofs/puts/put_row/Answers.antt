use Rattle.std.proofs.Common.{◌≡◌, ◌+◌, length, arith, ap, ◌∙◌}
use Rattle.std.proofs.lemmas.Slice.{take-put_mid_below, drop-put_mid, between-put_mid}
use Rattle.pg_slots.proofs.puts.put_row.Goals as goal

pub returns : goal.returns
returns c =
    let same = c.copy_from_slice.ensures.after in
    let bytes = c.args.page.now.bytes in
    let at = c.args.at in
    let size : length c.copy_from_slice.new.self ≡ length c.args.row.now = ap length same in
    record {
      front = take-put_mid_below at _ bytes c.copy_from_slice.new.self at (omega arith) (omega arith);
      here = between-put_mid at _ bytes c.copy_from_slice.new.self (at + length c.args.row.now) (omega arith) (omega arith) ∙ same;
      back = drop-put_mid at _ bytes c.copy_from_slice.new.self _ (omega arith) (omega arith) (omega arith);
    }
