use Rattle.std.proofs.Common.{reverse}
use Rattle.plain_log.proofs.Covered.{covers_none}
use Rattle.plain_log.proofs.cover.covers_bytes.Goals as goal

pub returns-then-p-pages : goal.returns-then-p-pages
returns-then-p-pages c = covers_none c.args.g c.args.pages (reverse c.args.items.now) c.args.t c.args.p.0 c.args.off c.args.size c.if-p-pages.true
