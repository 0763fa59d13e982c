use Rattle.std.proofs.Common.{◌+◌, length, refl, ap, ◌∙◌, subst, arith}
use Rattle.db_core.specs.Rooms.{owed_by, HasOwnRoom}
use Rattle.db_core.proofs.Good.{get_at, get_same, get_put}
use Rattle.db_core.proofs.BeginWord.{word_room, word_good}
use Rattle.db_core.proofs.GoOn.{room_for, went}
use Rattle.db_core.proofs.turns.begin_word.Goals as goal

pub settle-requires-clause-own : goal.settle-requires-clause-own
settle-requires-clause-own c z at =
    let st = c.args.state.now in
    let x = c.index_mut.result.now in
    let y = c.start-item.new.session in
    let here = get_at st.sessions.items c.args.at x c.requires.at c.index_mut.ensures.value in
    let room = word_room c.args.word st.last c.place_of-place.result x y c.start-item.result (c.requires.next x here) (c.requires.good.each_room c.args.at x here) c.start-item.ensures.kept_room c.start-item.ensures.starts in
    subst HasOwnRoom (get_same _ c.args.at y z (get_put st.sessions.items c.args.at y c.requires.at) at) room.0.own

pub settle-requires-clause-room : goal.settle-requires-clause-room
settle-requires-clause-room c =
    let st = c.args.state.now in
    let x = c.index_mut.result.now in
    let y = c.start-item.new.session in
    let here = get_at st.sessions.items c.args.at x c.requires.at c.index_mut.ensures.value in
    let room = word_room c.args.word st.last c.place_of-place.result x y c.start-item.result (c.requires.next x here) (c.requires.good.each_room c.args.at x here) c.start-item.ensures.kept_room c.start-item.ensures.starts in
    let less = room.0.less in
    room_for st c.args.at x c.requires.good here (omega (arith, less))

pub returns : goal.returns
returns c =
    let st = c.args.state.now in
    let x = c.index_mut.result.now in
    let y = c.start-item.new.session in
    let item = c.start-item.result in
    let place = c.place_of-place.result in
    let here = get_at st.sessions.items c.args.at x c.requires.at c.index_mut.ensures.value in
    let first = get_at st.sessions.items c.args.at c.index.result.now c.requires.at c.index.ensures in
    let second = get_at st.sessions.items c.args.at c.index-2.result.now c.requires.at c.index-2.ensures in
    let next = c.requires.next x here in
    let room = word_room c.args.word st.last place x y item next (c.requires.good.each_room c.args.at x here) c.start-item.ensures.kept_room c.start-item.ensures.starts in
    let before = c.owed_by-before.ensures ∙ ap owed_by (get_same st.sessions.items c.args.at c.index.result.now x first here) in
    let index = c.place_of-place.ensures.index ∙ ap (λ q. length q.replies.items + 1) (get_same st.sessions.items c.args.at c.index-2.result.now x second here) in
    let step = word_good st c.args.at place x y c.args.word item c.requires.good here next c.place_of-place.ensures.session index c.start-item.ensures.starts in
    record {
      went = went st _ c.settle.new.state c.args.at c.owed_by-before.result x y st.frames item c.requires.good here
          (record { base = refl; first = refl; items = refl; len = refl; frames = refl; sessions = refl; last = refl; owed = refl }) refl refl refl
          step room.0.own room.0.less room.1 before (c.settle.ensures y (get_put st.sessions.items c.args.at y c.requires.at));
    }
