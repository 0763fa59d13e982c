use Rattle.law_ways.proofs.DeleteLaw.{delete_keeps, delete_takes, delete_sinks}
use Rattle.law_ways.proofs.DeleteWritten.{delete_is_written}
use Rattle.law_ways.proofs.LeftEdge.{left_edge_is_next}
use Rattle.law_ways.proofs.LocalLaws.{delete_is_local}
use Rattle.law_ways.proofs.RoomKept.{delete_has_room}
use Rattle.law_ways.proofs.OtherPages.{delete_keeps_others}
use Rattle.law_ways.proofs.delete_laws.Goals as goal

pub returns : goal.returns
returns c = record {
  keeps = delete_keeps;
  takes = delete_takes;
  sinks = delete_sinks;
  written = delete_is_written;
  edge = left_edge_is_next;
  local = delete_is_local;
  others = delete_keeps_others;
  room = delete_has_room;
}
