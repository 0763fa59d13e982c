use Rattle.law_ways.proofs.InsertLaw.{insert_keeps, update_replaces, insert_climbs, insert_is_written}
use Rattle.law_ways.proofs.LocalLaws.{insert_is_local}
use Rattle.law_ways.proofs.RoomKept.{insert_has_room}
use Rattle.law_ways.proofs.OtherPages.{insert_keeps_others}
use Rattle.law_ways.proofs.insert_laws.Goals as goal

pub returns : goal.returns
returns c = record {
  keeps = insert_keeps;
  updates = update_replaces;
  climbs = insert_climbs;
  written = insert_is_written;
  local = insert_is_local;
  others = insert_keeps_others;
  room = insert_has_room;
}
