use Rattle.std.proofs.Common.{refl, subst, arith}
use Rattle.db_core.specs.Plans.{HasRoomFor}
use Rattle.db_core.proofs.Good.{get_at, get_same, get_put}
use Rattle.db_core.proofs.Ready.{room_put, same_items}
use Rattle.db_core.proofs.plans.make_room_at.Goals as goal

pub returns-in_err-make_room-clause-roomier : goal.returns-in_err-make_room-clause-roomier
returns-in_err-make_room-clause-roomier c =
    let st = c.args.state.now in
    let x = c.index_mut.result.now in
    let y = c.make_room.new.session in
    let here = get_at st.sessions.items c.args.at x c.requires.at c.index_mut.ensures.value in
    record {
      base = refl;
      first = refl;
      items = same_items st;
      len = refl;
      capacity = omega arith;
      frames = refl;
      last = refl;
      all_is = refl;
      size_is = refl;
      owed = refl;
      session = room_put st.sessions.items c.args.at x y here c.make_room.ensures.same c.make_room.ensures.kept_room;
    }

pub returns-in_err-reserve-clause-roomier : goal.returns-in_err-reserve-clause-roomier
returns-in_err-reserve-clause-roomier c =
    let st = c.args.state.now in
    let x = c.index_mut.result.now in
    let y = c.make_room.new.session in
    let here = get_at st.sessions.items c.args.at x c.requires.at c.index_mut.ensures.value in
    record {
      base = refl;
      first = refl;
      items = c.reserve.ensures.items;
      len = c.reserve.ensures.len;
      capacity = c.reserve.ensures.capacity;
      frames = refl;
      last = refl;
      all_is = refl;
      size_is = refl;
      owed = refl;
      session = room_put st.sessions.items c.args.at x y here c.make_room.ensures.same c.make_room.ensures.kept_room;
    }

pub returns-clause-roomier : goal.returns-clause-roomier
returns-clause-roomier c =
    let st = c.args.state.now in
    let x = c.index_mut.result.now in
    let y = c.make_room.new.session in
    let here = get_at st.sessions.items c.args.at x c.requires.at c.index_mut.ensures.value in
    record {
      base = refl;
      first = refl;
      items = c.reserve.ensures.items;
      len = c.reserve.ensures.len;
      capacity = c.reserve.ensures.capacity;
      frames = refl;
      last = refl;
      all_is = refl;
      size_is = refl;
      owed = refl;
      session = room_put st.sessions.items c.args.at x y here c.make_room.ensures.same c.make_room.ensures.kept_room;
    }

pub returns-clause-session : goal.returns-clause-session
returns-clause-session c z at =
    let y = c.make_room.new.session in
    subst (λ w. HasRoomFor w c.args.changes c.args.takes) (get_same _ c.args.at y z (get_put c.args.state.now.sessions.items c.args.at y c.requires.at) at) c.in_ok-make_room.ensures.room
