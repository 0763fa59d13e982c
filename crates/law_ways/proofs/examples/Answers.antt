use Rattle.std.proofs.Common.{refl}
use Rattle.law_ways.proofs.examples.Goals as goal

pub returns : goal.returns
returns c = record {
  root_leaf_splits = refl;
  two_levels_split = refl;
  row_is_replaced = refl;
  leaf_is_unlinked = refl;
  first_row_goes = refl;
  left_edge_moves = refl;
  root_collapses = refl;
  last_row_goes = refl;
  is_shown = ((refl, tt), ((refl, (refl, tt)), (refl, (refl, (refl, tt)))));
  is_way = refl;
  pages_are_read = refl;
  pages_are_freed = refl;
}
