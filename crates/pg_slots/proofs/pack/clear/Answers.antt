use Rattle.std.proofs.Common.{arith}
use Rattle.std.proofs.lemmas.Slice.{take-put_mid_below, drop-put_mid}
use Rattle.pg_slots.proofs.pack.clear.Goals as goal

pub returns-clause-front : goal.returns-clause-front
returns-clause-front c = take-put_mid_below c.args.from _ c.args.page.now.bytes c.fill.new.self c.args.from (omega arith) (omega arith)

pub returns-clause-back : goal.returns-clause-back
returns-clause-back c = drop-put_mid c.args.from _ c.args.page.now.bytes c.fill.new.self c.args.to (omega arith) (omega arith) (omega arith)
