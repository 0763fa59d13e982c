use Rattle.std.proofs.Common.{refl, arith}
use Rattle.db_core.proofs.CheckEnds.{reads_in_session}
use Rattle.db_core.proofs.checks.read_in.Goals as goal

pub returns-clause-reads : goal.returns-clause-reads
returns-clause-reads c =
    reads_in_session c.args.session.now _ c.in-Checking.check _ c.read_on.result c.in-Checking.is refl
    (record { kept = record { script = refl; tran = refl; held = refl; used = refl }; left = refl; replies = refl; room = record { replies = omega arith; left = omega arith } })
    refl refl refl refl c.read_on.ensures
