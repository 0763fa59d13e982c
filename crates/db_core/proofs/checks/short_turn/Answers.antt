use Rattle.std.proofs.Common.{◌≡◌, ◌+◌, ◌<◌, length, Some, refl, sym, ap, ◌∙◌, subst, arith}
use Rattle.std.specs.Prelude.{slice_get}
use Rattle.std.proofs.Math.ListN.{length-set}
use Rattle.db_core.specs.Rooms.{owed_by, HasOwnRoom}
use Rattle.db_core.proofs.Good.{get_at, get_same, get_put}
use Rattle.db_core.proofs.GoOn.{room_for}
use Rattle.db_core.proofs.SnapTurns.{short_good, short_start, owes_two, short_own, low_owed}
use Rattle.db_core.proofs.checks.short_turn.Goals as goal

pub settle-requires-clause-room : goal.settle-requires-clause-room
settle-requires-clause-room c =
    let st = c.args.state.now in
    let x = c.index.result.now in
    let here = get_at st.sessions.items c.args.at x c.requires.at c.index.ensures in
    let next = c.requires.next x here in
    let four = (owes_two st c.args.at x _ c.requires.good here next.0 next.1.1).0 in
    room_for st c.args.at x c.requires.good here (omega (arith, four))

pub index_mut-requires : goal.index_mut-requires
index_mut-requires c =
    let st = c.args.state.now in
    let x = c.index.result.now in
    let here = get_at st.sessions.items c.args.at x c.requires.at c.index.ensures in
    let set = c.settle.ensures x here in
    let len = c.settle.new.state.sessions.ok.0 in
    let same = ap length set.sessions in
    let at = c.requires.at in
    omega (arith, len, same, at)

pub short_end-end-requires : goal.short_end-end-requires
short_end-end-requires c =
    let st = c.args.state.now in
    let y = c.index_mut.result.now in
    let x = c.index.result.now in
    let first = get_at st.sessions.items c.args.at x c.requires.at c.index.ensures in
    let set = c.settle.ensures x first in
    let at = subst (λ ss. c.args.at < length ss) (sym set.sessions) c.requires.at in
    let here = subst (λ ss. slice_get ss c.args.at ≡ Some y) set.sessions (get_at c.settle.new.state.sessions.items c.args.at y at c.index_mut.ensures.value) in
    let next = c.requires.next y here in
    (owes_two st c.args.at y _ c.requires.good here next.0 next.1.1).1

pub settle-requires-2-clause-at : goal.settle-requires-2-clause-at
settle-requires-2-clause-at c =
    let st = c.args.state.now in
    let x = c.index.result.now in
    let set = c.settle.ensures x (get_at st.sessions.items c.args.at x c.requires.at c.index.ensures) in
    let same = ap length set.sessions in
    let long = length-set c.settle.new.state.sessions.items c.args.at c.short_end-end.new.session in
    let at = c.requires.at in
    omega (arith, same, long, at)

pub settle-requires-2-clause-own : goal.settle-requires-2-clause-own
settle-requires-2-clause-own c z is =
    let st = c.args.state.now in
    let y = c.index_mut.result.now in
    let x = c.index.result.now in
    let set = c.settle.ensures x (get_at st.sessions.items c.args.at x c.requires.at c.index.ensures) in
    let at = subst (λ ss. c.args.at < length ss) (sym set.sessions) c.requires.at in
    let here = subst (λ ss. slice_get ss c.args.at ≡ Some y) set.sessions (get_at c.settle.new.state.sessions.items c.args.at y at c.index_mut.ensures.value) in
    let next = c.requires.next y here in
    subst HasOwnRoom (get_same _ c.args.at c.short_end-end.new.session z (get_put c.settle.new.state.sessions.items c.args.at c.short_end-end.new.session at) is)
    (short_own st c.args.at next.1.0 c.place_of-place.result y c.short_end-end.new.session c.short_end-end.result c.requires.good here next.0 next.1.1 c.short_end-end.ensures)

pub settle-requires-2-clause-room : goal.settle-requires-2-clause-room
settle-requires-2-clause-room c =
    let st = c.args.state.now in
    let x = c.index.result.now in
    let here = get_at st.sessions.items c.args.at x c.requires.at c.index.ensures in
    let next = c.requires.next x here in
    (short_start st c.settle.new.state c.args.at c.owed_by-before.result next.1.0 x _ c.requires.good here next.0 next.1.1 c.owed_by-before.ensures (c.settle.ensures x here)).room

pub settle-requires-2-clause-before : goal.settle-requires-2-clause-before
settle-requires-2-clause-before c =
    let st = c.args.state.now in
    let x = c.index.result.now in
    let here = get_at st.sessions.items c.args.at x c.requires.at c.index.ensures in
    let next = c.requires.next x here in
    (short_start st c.settle.new.state c.args.at c.owed_by-before.result next.1.0 x _ c.requires.good here next.0 next.1.1 c.owed_by-before.ensures (c.settle.ensures x here)).before_is

pub settle-requires-2-clause-low : goal.settle-requires-2-clause-low
settle-requires-2-clause-low c =
    let st = c.args.state.now in
    let x = c.index.result.now in
    let here = get_at st.sessions.items c.args.at x c.requires.at c.index.ensures in
    let next = c.requires.next x here in
    let same = (short_start st c.settle.new.state c.args.at c.owed_by-before.result next.1.0 x _ c.requires.good here next.0 next.1.1 c.owed_by-before.ensures (c.settle.ensures x here)).owed in
    subst (λ n. n < 9223372036854775808) (sym same) (low_owed st c.requires.good)

pub returns : goal.returns
returns c =
    let st = c.args.state.now in
    let y = c.index_mut.result.now in
    let x = c.index.result.now in
    let first = get_at st.sessions.items c.args.at x c.requires.at c.index.ensures in
    let second = get_at st.sessions.items c.args.at c.index-2.result.now c.requires.at c.index-2.ensures in
    let set = c.settle.ensures x first in
    let at = subst (λ ss. c.args.at < length ss) (sym set.sessions) c.requires.at in
    let here = subst (λ ss. slice_get ss c.args.at ≡ Some y) set.sessions (get_at c.settle.new.state.sessions.items c.args.at y at c.index_mut.ensures.value) in
    let next = c.requires.next y here in
    let before = c.owed_by-before.ensures ∙ ap owed_by (get_same st.sessions.items c.args.at x y first here) in
    let index = c.place_of-place.ensures.index ∙ ap (λ q. length q.replies.items + 1) (get_same st.sessions.items c.args.at c.index-2.result.now y second here) in
    short_good st c.settle.new.state _ c.settle-2.new.state c.args.at c.owed_by-before.result next.1.0 c.place_of-place.result y c.short_end-end.new.session _ c.short_end-end.result
    c.requires.good here next.0 next.1.1 c.place_of-place.ensures.session index refl before (c.settle.ensures y here) c.short_end-end.ensures
    (record { base = refl; first = refl; items = refl; len = refl; frames = refl; sessions = refl; last = refl; owed = refl }) refl refl refl
    (c.settle-2.ensures c.short_end-end.new.session (get_put c.settle.new.state.sessions.items c.args.at c.short_end-end.new.session at))
