use Rattle.law_kept.proofs.Created.{create_creates, create_leaves_maps, create_leaves_file, create_leaves_sgam}
use Rattle.law_kept.proofs.create_laws.Goals as goal

pub returns : goal.returns
returns c = record { creates = create_creates; maps = create_leaves_maps; file = create_leaves_file; sgam = create_leaves_sgam }
