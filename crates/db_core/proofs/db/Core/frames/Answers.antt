use Rattle.db_core.proofs.Begun.{frames_seen}
use Rattle.db_core.proofs.db.Core.frames.Goals as goal

pub returns : goal.returns
returns c = frames_seen c.self.inside.state c.args.self.now c.self.view_is c.self.invariant
