use Rattle.std.proofs.Common.{take, map, false}
use Rattle.spec_script.specs.Replies.{text_of}
use Rattle.vol_dev.specs.Output.{Wrote}
use Rattle.checkdb_top.proofs.run.write_replies.Given as goal

abbrev pub invariant-loop-k : goal.invariant-loop-k
invariant-loop-k g l = Wrote g.K.Sink l.fn.out l.out (text_of (take l.k (map (λ r. r.now) l.replies))) false
