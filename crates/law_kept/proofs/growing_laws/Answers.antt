use Rattle.law_kept.proofs.Growing.{page_is_got, growing_leaves_maps, growing_leaves_others, growing_changes_taken, growing_leaves_sgam}
use Rattle.law_kept.proofs.growing_laws.Goals as goal

pub returns : goal.returns
returns c = record { got = page_is_got; maps = growing_leaves_maps; others = growing_leaves_others; parts = growing_changes_taken; sgam = growing_leaves_sgam }
