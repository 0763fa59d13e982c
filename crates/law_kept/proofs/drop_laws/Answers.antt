use Rattle.law_kept.proofs.Dropped.{drop_drops, drop_leaves_maps, drop_leaves_file, drop_leaves_sgam}
use Rattle.law_kept.proofs.drop_laws.Goals as goal

pub returns : goal.returns
returns c = record { drops = drop_drops; maps = drop_leaves_maps; file = drop_leaves_file; sgam = drop_leaves_sgam }
