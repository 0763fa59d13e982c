use Rattle.law_kept.proofs.Giving.{page_is_given_back, giving_leaves_maps, giving_leaves_others, giving_changes_taken, giving_leaves_sgam}
use Rattle.law_kept.proofs.giving_laws.Goals as goal

pub returns : goal.returns
returns c = record { given = page_is_given_back; maps = giving_leaves_maps; others = giving_leaves_others; parts = giving_changes_taken; sgam = giving_leaves_sgam }
