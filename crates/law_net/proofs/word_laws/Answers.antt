use Rattle.law_net.proofs.ReadingLeaves.{look_leaves_view, reach_leaves_view, held_leaves_view, good_leaves_view}
use Rattle.law_net.proofs.WordsKeep.{take_keeps_good, gam_keeps_good, sgam_keeps_good, pfs_keeps_good, page_keeps_good, catalog_keeps_good}
use Rattle.law_net.proofs.word_laws.Goals as goal

pub returns : goal.returns
returns c = record {
  look = look_leaves_view;
  reach = reach_leaves_view;
  held = held_leaves_view;
  good = good_leaves_view;
  take = take_keeps_good;
  gam = gam_keeps_good;
  sgam = sgam_keeps_good;
  pfs = pfs_keeps_good;
  page = page_keeps_good;
  catalog = catalog_keeps_good;
}
