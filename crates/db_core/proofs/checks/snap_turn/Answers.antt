use Rattle.std.proofs.Common.{◌+◌, length, refl, ap, ◌∙◌, subst, arith}
use Rattle.db_core.specs.Rooms.{owed_by, HasOwnRoom}
use Rattle.db_core.proofs.Good.{get_at, get_same, get_put}
use Rattle.db_core.proofs.GoOn.{room_for}
use Rattle.db_core.proofs.Left.{fresh_few}
use Rattle.db_core.proofs.SnapTurns.{snap_good, snapped, is_busy}
use Rattle.db_core.proofs.checks.snap_turn.Goals as goal

pub settle-requires-clause-own : goal.settle-requires-clause-own
settle-requires-clause-own c z at =
    let st = c.args.state.now in
    let x = c.index_mut.result.now in
    let y = c.begin_in-item.new.session in
    let here = get_at st.sessions.items c.args.at x c.requires.at c.index_mut.ensures.value in
    let second = get_at st.sessions.items c.args.at c.index-2.result.now c.requires.at c.index-2.ensures in
    let next = c.requires.next x here in
    let index = c.place_of-place.ensures.index ∙ ap (λ q. length q.replies.items + 1) (get_same st.sessions.items c.args.at c.index-2.result.now x second here) in
    let e = snap_good st c.args.at next.1.0 c.place_of-place.result c.args.check x y c.begin_in-item.result c.requires.good here next.0 next.1.1 c.requires.fresh c.place_of-place.ensures.session index c.begin_in-item.ensures in
    subst HasOwnRoom (get_same _ c.args.at y z (get_put st.sessions.items c.args.at y c.requires.at) at) e.1

pub settle-requires-clause-room : goal.settle-requires-clause-room
settle-requires-clause-room c =
    let st = c.args.state.now in
    let x = c.index_mut.result.now in
    let y = c.begin_in-item.new.session in
    let here = get_at st.sessions.items c.args.at x c.requires.at c.index_mut.ensures.value in
    let second = get_at st.sessions.items c.args.at c.index-2.result.now c.requires.at c.index-2.ensures in
    let next = c.requires.next x here in
    let index = c.place_of-place.ensures.index ∙ ap (λ q. length q.replies.items + 1) (get_same st.sessions.items c.args.at c.index-2.result.now x second here) in
    let e = snap_good st c.args.at next.1.0 c.place_of-place.result c.args.check x y c.begin_in-item.result c.requires.good here next.0 next.1.1 c.requires.fresh c.place_of-place.ensures.session index c.begin_in-item.ensures in
    let less = e.2 in
    room_for st c.args.at x c.requires.good here (omega (arith, less))

pub returns : goal.returns
returns c =
    let st = c.args.state.now in
    let x = c.index_mut.result.now in
    let y = c.begin_in-item.new.session in
    let here = get_at st.sessions.items c.args.at x c.requires.at c.index_mut.ensures.value in
    let first = get_at st.sessions.items c.args.at c.index.result.now c.requires.at c.index.ensures in
    let second = get_at st.sessions.items c.args.at c.index-2.result.now c.requires.at c.index-2.ensures in
    let next = c.requires.next x here in
    let before = c.owed_by-before.ensures ∙ ap owed_by (get_same st.sessions.items c.args.at c.index.result.now x first here) in
    let index = c.place_of-place.ensures.index ∙ ap (λ q. length q.replies.items + 1) (get_same st.sessions.items c.args.at c.index-2.result.now x second here) in
    let e = snap_good st c.args.at next.1.0 c.place_of-place.result c.args.check x y c.begin_in-item.result c.requires.good here next.0 next.1.1 c.requires.fresh c.place_of-place.ensures.session index c.begin_in-item.ensures in
    snapped st _ c.settle.new.state c.args.at c.owed_by-before.result _ x y c.begin_in-item.result c.requires.good here
    (record { base = refl; first = refl; items = refl; len = refl; frames = refl; sessions = refl; last = refl; owed = refl }) refl refl refl
    e.0 e.1 e.2 e.3 c.begin_in-item.ensures.replies (is_busy c.place_of-place.result c.args.check x y c.begin_in-item.result c.begin_in-item.ensures)
    (fresh_few st c.place_of-place.result c.args.check x y c.begin_in-item.result c.requires.good c.requires.fresh c.begin_in-item.ensures) before (c.settle.ensures y (get_put st.sessions.items c.args.at y c.requires.at))
