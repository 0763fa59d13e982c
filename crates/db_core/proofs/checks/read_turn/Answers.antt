use Rattle.std.proofs.Common.{◌+◌, length, refl, ap, ◌∙◌, arith}
use Rattle.db_core.specs.Rooms.{owed_by}
use Rattle.db_core.proofs.Good.{get_at, get_same, get_put}
use Rattle.db_core.proofs.GoOn.{room_for, went, nearer_by}
use Rattle.db_core.proofs.CheckTurns.{check_reads, read_good, read_nearer, end_good, replies_room, went_checked}
use Rattle.db_core.proofs.checks.read_turn.Goals as goal

pub read_or_end-requires-clause-room : goal.read_or_end-requires-clause-room
read_or_end-requires-clause-room c =
    let st = c.args.state.now in
    let x = c.index_mut.result.now in
    let here = get_at st.sessions.items c.args.at x c.requires.at c.index_mut.ensures.value in
    replies_room x (c.requires.checking x here) (c.requires.good.each_room c.args.at x here)

pub read_or_end-requires-clause-checking : goal.read_or_end-requires-clause-checking
read_or_end-requires-clause-checking c = c.requires.checking c.index_mut.result.now (get_at c.args.state.now.sessions.items c.args.at c.index_mut.result.now c.requires.at c.index_mut.ensures.value)

pub read_or_end-requires-clause-may : goal.read_or_end-requires-clause-may
read_or_end-requires-clause-may c =
    let st = c.args.state.now in
    let x = c.index_mut.result.now in
    let here = get_at st.sessions.items c.args.at x c.requires.at c.index_mut.ensures.value in
    check_reads st c.args.at x c.requires.good here (λ check. c.requires.behind x check here)

pub returns-in-None-clause-checked : goal.returns-in-None-clause-checked
returns-in-None-clause-checked c =
    let st = c.args.state.now in
    let x = c.index_mut.result.now in
    let y = c.read_or_end.new.session in
    let here = get_at st.sessions.items c.args.at x c.requires.at c.index_mut.ensures.value in
    read_good st _ c.args.at x y c.requires.good here c.in-None.ensures
    (record { base = refl; first = refl; items = refl; len = refl; frames = refl; sessions = refl; last = refl; owed = refl }) refl refl refl

pub returns-in-None-clause-nearer : goal.returns-in-None-clause-nearer
returns-in-None-clause-nearer c =
    let st = c.args.state.now in
    let x = c.index_mut.result.now in
    let y = c.read_or_end.new.session in
    let here = get_at st.sessions.items c.args.at x c.requires.at c.index_mut.ensures.value in
    read_nearer st c.args.at x y c.requires.at here c.in-None.ensures

pub settle-requires-clause-room : goal.settle-requires-clause-room
settle-requires-clause-room c =
    let st = c.args.state.now in
    let x = c.index_mut.result.now in
    let y = c.read_or_end.new.session in
    let here = get_at st.sessions.items c.args.at x c.requires.at c.index_mut.ensures.value in
    let second = get_at st.sessions.items c.args.at c.index-2.result.now c.requires.at c.index-2.ensures in
    let index = c.place_of-place.ensures.index ∙ ap (λ q. length q.replies.items + 1) (get_same st.sessions.items c.args.at c.index-2.result.now x second here) in
    let e = end_good st c.args.at c.place_of-place.result x y c.in-Some.item c.requires.good here (λ check. c.requires.behind x check here) c.place_of-place.ensures.session index c.in-Some.ensures in
    let less = e.2 in
    room_for st c.args.at x c.requires.good here (omega (arith, less))

pub returns-in-Some-clause-checked : goal.returns-in-Some-clause-checked
returns-in-Some-clause-checked c =
    let st = c.args.state.now in
    let x = c.index_mut.result.now in
    let y = c.read_or_end.new.session in
    let here = get_at st.sessions.items c.args.at x c.requires.at c.index_mut.ensures.value in
    let second = get_at st.sessions.items c.args.at c.index-2.result.now c.requires.at c.index-2.ensures in
    let index = c.place_of-place.ensures.index ∙ ap (λ q. length q.replies.items + 1) (get_same st.sessions.items c.args.at c.index-2.result.now x second here) in
    let e = end_good st c.args.at c.place_of-place.result x y c.in-Some.item c.requires.good here (λ check. c.requires.behind x check here) c.place_of-place.ensures.session index c.in-Some.ensures in
    let first = get_at st.sessions.items c.args.at c.index.result.now c.requires.at c.index.ensures in
    let before = c.owed_by-before.ensures ∙ ap owed_by (get_same st.sessions.items c.args.at c.index.result.now x first here) in
    went_checked c.args.at st c.settle.new.state c.requires.good
    (went st _ c.settle.new.state c.args.at c.owed_by-before.result x y st.frames c.in-Some.item c.requires.good here
    (record { base = refl; first = refl; items = refl; len = refl; frames = refl; sessions = refl; last = refl; owed = refl }) refl refl refl
    e.0 e.1 e.2 e.4 before (c.settle.ensures y (get_put st.sessions.items c.args.at y c.requires.at)))

pub returns-in-Some-clause-nearer : goal.returns-in-Some-clause-nearer
returns-in-Some-clause-nearer c =
    let st = c.args.state.now in
    let x = c.index_mut.result.now in
    let y = c.read_or_end.new.session in
    let here = get_at st.sessions.items c.args.at x c.requires.at c.index_mut.ensures.value in
    let second = get_at st.sessions.items c.args.at c.index-2.result.now c.requires.at c.index-2.ensures in
    let index = c.place_of-place.ensures.index ∙ ap (λ q. length q.replies.items + 1) (get_same st.sessions.items c.args.at c.index-2.result.now x second here) in
    let e = end_good st c.args.at c.place_of-place.result x y c.in-Some.item c.requires.good here (λ check. c.requires.behind x check here) c.place_of-place.ensures.session index c.in-Some.ensures in
    nearer_by st _ c.settle.new.state c.args.at _ x y st.frames c.in-Some.item c.requires.at here
    (record { base = refl; first = refl; items = refl; len = refl; frames = refl; sessions = refl; last = refl; owed = refl }) (e.3 st.items.items c.settle.new.state.items.items)
    (c.settle.ensures y (get_put st.sessions.items c.args.at y c.requires.at))
