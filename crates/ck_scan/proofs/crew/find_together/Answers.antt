use Rattle.std.proofs.Common.{refl}
use Rattle.ck_scan.proofs.ReaderLaws.{want_none, want_exit}
use Rattle.ck_scan.proofs.crew.find_together.Goals as goal

pub returns-in_default-clause-reads : goal.returns-in_default-clause-reads
returns-in_default-clause-reads g c = want_none g.R.SnapReader c.args.readers.now.items

pub returns-in_err-jobs-clause-reads : goal.returns-in_err-jobs-clause-reads
returns-in_err-jobs-clause-reads g c = want_exit g.R.SnapReader c.args.readers.now.items c.from_residual.result c.from_residual.ensures.1

pub returns-in_err-workers-clause-reads : goal.returns-in_err-workers-clause-reads
returns-in_err-workers-clause-reads g c = want_exit g.R.SnapReader c.args.readers.now.items c.from_residual-in_err-workers.result c.from_residual-in_err-workers.ensures.1

pub returns-clause-found : goal.returns-clause-found
returns-clause-found g c = λ image of told. c.in_ok-gather.ensures.found image of (c.in_default-stop.ensures.found refl image of told)
