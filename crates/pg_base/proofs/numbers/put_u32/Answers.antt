use Rattle.std.proofs.Common.{arith}
use Rattle.pg_base.proofs.Written.{puts_number}
use Rattle.pg_base.proofs.numbers.put_u32.Goals as goal

pub returns : goal.returns
returns c = puts_number 4 _ c.args.at c.args.value c.args.page.now.bytes c.write_u32.new.buf
    (omega arith) (omega arith) (omega arith) c.write_u32.ensures
