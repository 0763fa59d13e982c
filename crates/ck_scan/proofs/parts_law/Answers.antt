use Rattle.ck_scan.proofs.KnownLaws.{parts_show_trees}
use Rattle.ck_scan.proofs.parts_law.Goals as goal

pub returns : goal.returns
returns c = parts_show_trees
