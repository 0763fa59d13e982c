use Rattle.std.proofs.Common.{◌+◌, length, refl, ap, ◌∙◌, subst, arith}
use Rattle.db_core.specs.Rooms.{owed_by, HasOwnRoom}
use Rattle.db_core.proofs.Good.{get_at, get_same, get_put}
use Rattle.db_core.proofs.PlanTurn.{changes_by, more_left, ready_small, ready_held, starts, space_now, plan_went}
use Rattle.db_core.proofs.plans.begin_ready.Goals as goal

pub start_by-item-requires-clause-replies : goal.start_by-item-requires-clause-replies
start_by-item-requires-clause-replies c =
    let st = c.args.state.now in
    let k = c.args.at in
    let x = c.index_mut.result.now in
    let here = get_at st.sessions.items k x c.requires.at c.index_mut.ensures.value in
    let more = more_left st k x c.args.plan (c.requires.ready x here).planned in
    let room = (c.requires.good.each_room k x here).replies in
    let long = x.replies.ok.0 in
    omega (arith, more, room, long)

pub start_by-item-requires-clause-small : goal.start_by-item-requires-clause-small
start_by-item-requires-clause-small c =
    let st = c.args.state.now in
    let k = c.args.at in
    let x = c.index_mut.result.now in
    let here = get_at st.sessions.items k x c.requires.at c.index_mut.ensures.value in
    ready_small st k x c.args.plan c.requires.good here (c.requires.ready x here)

pub start_by-item-requires-clause-used : goal.start_by-item-requires-clause-used
start_by-item-requires-clause-used c =
    let st = c.args.state.now in
    let k = c.args.at in
    let x = c.index_mut.result.now in
    let here = get_at st.sessions.items k x c.requires.at c.index_mut.ensures.value in
    (c.requires.good.each_room k x here).used

pub start_by-item-requires-clause-held : goal.start_by-item-requires-clause-held
start_by-item-requires-clause-held c =
    let st = c.args.state.now in
    let k = c.args.at in
    let x = c.index_mut.result.now in
    let here = get_at st.sessions.items k x c.requires.at c.index_mut.ensures.value in
    ready_held st k x c.args.plan (c.requires.ready x here)

pub bytes_by-requires : goal.bytes_by-requires
bytes_by-requires c =
    let st = c.args.state.now in
    let k = c.args.at in
    let x = c.index_mut.result.now in
    let here = get_at st.sessions.items k x c.requires.at c.index_mut.ensures.value in
    let y = c.start_by-item.new.session in
    let second = get_at st.sessions.items k c.index-2.result.now c.requires.at c.index-2.ensures in
    let index = c.place_of-place.ensures.index ∙ ap (λ q. length q.replies.items + 1) (get_same st.sessions.items k c.index-2.result.now x second here) in
    let s = starts st k c.place_of-place.result x y c.args.plan c.start_by-item.result c.requires.good here (c.requires.ready x here) c.place_of-place.ensures.session index
    c.start_by-item.ensures.kept_room c.start_by-item.ensures.begins in
    let low = s.size_low in
    omega (arith, low)

pub overflow_add-state-2 : goal.overflow_add-state-2
overflow_add-state-2 c =
    let st = c.args.state.now in
    let k = c.args.at in
    let x = c.index_mut.result.now in
    let here = get_at st.sessions.items k x c.requires.at c.index_mut.ensures.value in
    let y = c.start_by-item.new.session in
    let second = get_at st.sessions.items k c.index-2.result.now c.requires.at c.index-2.ensures in
    let index = c.place_of-place.ensures.index ∙ ap (λ q. length q.replies.items + 1) (get_same st.sessions.items k c.index-2.result.now x second here) in
    let s = starts st k c.place_of-place.result x y c.args.plan c.start_by-item.result c.requires.good here (c.requires.ready x here) c.place_of-place.ensures.session index
    c.start_by-item.ensures.kept_room c.start_by-item.ensures.begins in
    let low = s.size_low in
    let bytes = c.bytes_by.ensures in
    omega (arith, low, bytes)

pub settle-requires-clause-own : goal.settle-requires-clause-own
settle-requires-clause-own c z at =
    let st = c.args.state.now in
    let k = c.args.at in
    let x = c.index_mut.result.now in
    let here = get_at st.sessions.items k x c.requires.at c.index_mut.ensures.value in
    let y = c.start_by-item.new.session in
    let second = get_at st.sessions.items k c.index-2.result.now c.requires.at c.index-2.ensures in
    let index = c.place_of-place.ensures.index ∙ ap (λ q. length q.replies.items + 1) (get_same st.sessions.items k c.index-2.result.now x second here) in
    let s = starts st k c.place_of-place.result x y c.args.plan c.start_by-item.result c.requires.good here (c.requires.ready x here) c.place_of-place.ensures.session index
    c.start_by-item.ensures.kept_room c.start_by-item.ensures.begins in
    subst HasOwnRoom (get_same _ k y z (get_put st.sessions.items k y c.requires.at) at) s.room.own

pub settle-requires-clause-room : goal.settle-requires-clause-room
settle-requires-clause-room c =
    let st = c.args.state.now in
    let k = c.args.at in
    let x = c.index_mut.result.now in
    let here = get_at st.sessions.items k x c.requires.at c.index_mut.ensures.value in
    let y = c.start_by-item.new.session in
    let second = get_at st.sessions.items k c.index-2.result.now c.requires.at c.index-2.ensures in
    let index = c.place_of-place.ensures.index ∙ ap (λ q. length q.replies.items + 1) (get_same st.sessions.items k c.index-2.result.now x second here) in
    let s = starts st k c.place_of-place.result x y c.args.plan c.start_by-item.result c.requires.good here (c.requires.ready x here) c.place_of-place.ensures.session index
    c.start_by-item.ensures.kept_room c.start_by-item.ensures.begins in
    space_now st k (changes_by c.args.plan) x y c.start_by-item.result c.requires.good here s

pub returns : goal.returns
returns c =
    let st = c.args.state.now in
    let k = c.args.at in
    let x = c.index_mut.result.now in
    let here = get_at st.sessions.items k x c.requires.at c.index_mut.ensures.value in
    let y = c.start_by-item.new.session in
    let second = get_at st.sessions.items k c.index-2.result.now c.requires.at c.index-2.ensures in
    let index = c.place_of-place.ensures.index ∙ ap (λ q. length q.replies.items + 1) (get_same st.sessions.items k c.index-2.result.now x second here) in
    let s = starts st k c.place_of-place.result x y c.args.plan c.start_by-item.result c.requires.good here (c.requires.ready x here) c.place_of-place.ensures.session index
    c.start_by-item.ensures.kept_room c.start_by-item.ensures.begins in
    let first = get_at st.sessions.items k c.index.result.now c.requires.at c.index.ensures in
    let before = c.owed_by-before.ensures ∙ ap owed_by (get_same st.sessions.items k c.index.result.now x first here) in
    record {
      went = plan_went st _ c.settle.new.state k (changes_by c.args.plan) c.owed_by-before.result x y c.start_by-item.result c.requires.good here
          (record { base = refl; first = refl; items = refl; len = refl; frames = refl; sessions = refl; last = refl; owed = refl }) refl
          (ap (λ n. st.all + n) c.announced_by.ensures) (ap (λ n. st.size + n) c.bytes_by.ensures) s before (c.settle.ensures y (get_put st.sessions.items k y c.requires.at));
    }
