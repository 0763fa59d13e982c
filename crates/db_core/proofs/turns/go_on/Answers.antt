use Rattle.std.proofs.Common.{◌+◌, length, refl, sym, ap, ◌∙◌, subst, arith}
use Rattle.db_core.specs.States.{MayStep, StepsBy}
use Rattle.db_core.specs.Rooms.{owed_by, HasOwnRoom}
use Rattle.db_core.proofs.Good.{get_at, get_same, get_put}
use Rattle.db_core.proofs.RoomSteps.{step_lighter}
use Rattle.db_core.proofs.GoOn.{good_may, good_step, room_for, went, nearer_by}
use Rattle.db_core.proofs.turns.go_on.Goals as goal

pub step-item-requires-clause-fits : goal.step-item-requires-clause-fits
step-item-requires-clause-fits c =
    let st = c.args.state.now in
    let x = c.index_mut.result.now in
    let here = get_at st.sessions.items c.args.at x c.requires.at c.index_mut.ensures.value in
    subst (λ is. MayStep st.frames is x x.doing) (sym c.deref.ensures.value) (good_may st c.args.at x c.requires.good here)

pub settle-requires-clause-own : goal.settle-requires-clause-own
settle-requires-clause-own c z at =
    let st = c.args.state.now in
    let x = c.index_mut.result.now in
    let y = c.step-item.new.session in
    let here = get_at st.sessions.items c.args.at x c.requires.at c.index_mut.ensures.value in
    let light = step_lighter (c.len.result + 1) c.deref.result.now x y st.frames c.step-item.new.frames c.step-item.result x.doing refl (c.requires.good.each_room c.args.at x here) c.step-item.ensures.kept_room c.step-item.ensures.steps in
    subst HasOwnRoom (get_same _ c.args.at y z (get_put st.sessions.items c.args.at y c.requires.at) at) light.0.own

pub settle-requires-clause-room : goal.settle-requires-clause-room
settle-requires-clause-room c =
    let st = c.args.state.now in
    let x = c.index_mut.result.now in
    let y = c.step-item.new.session in
    let here = get_at st.sessions.items c.args.at x c.requires.at c.index_mut.ensures.value in
    let light = step_lighter (c.len.result + 1) c.deref.result.now x y st.frames c.step-item.new.frames c.step-item.result x.doing refl (c.requires.good.each_room c.args.at x here) c.step-item.ensures.kept_room c.step-item.ensures.steps in
    let less = light.0.less in
    room_for st c.args.at x c.requires.good here (omega (arith, less))

pub returns-clause-went : goal.returns-clause-went
returns-clause-went c =
    let st = c.args.state.now in
    let x = c.index_mut.result.now in
    let y = c.step-item.new.session in
    let item = c.step-item.result in
    let here = get_at st.sessions.items c.args.at x c.requires.at c.index_mut.ensures.value in
    let first = get_at st.sessions.items c.args.at c.index.result.now c.requires.at c.index.ensures in
    let light = step_lighter (c.len.result + 1) c.deref.result.now x y st.frames c.step-item.new.frames item x.doing refl (c.requires.good.each_room c.args.at x here) c.step-item.ensures.kept_room c.step-item.ensures.steps in
    let before = c.owed_by-before.ensures ∙ ap owed_by (get_same st.sessions.items c.args.at c.index.result.now x first here) in
    let count = ap (λ n. n + 1) (c.len.ensures ∙ sym c.deref.ensures.len ∙ ap length c.deref.ensures.value) in
    let step = good_step st c.args.at (c.len.result + 1) x y c.step-item.new.frames item c.requires.good here count
    (subst (λ is. StepsBy (c.len.result + 1) is x y st.frames c.step-item.new.frames item x.doing) c.deref.ensures.value c.step-item.ensures.steps) in
    went st _ c.settle.new.state c.args.at c.owed_by-before.result x y c.step-item.new.frames item c.requires.good here
    (record { base = refl; first = refl; items = refl; len = refl; frames = refl; sessions = refl; last = refl; owed = refl }) refl refl refl
    step light.0.own light.0.less light.1 before (c.settle.ensures y (get_put st.sessions.items c.args.at y c.requires.at))

pub returns-clause-nearer : goal.returns-clause-nearer
returns-clause-nearer c =
    let st = c.args.state.now in
    let x = c.index_mut.result.now in
    let y = c.step-item.new.session in
    let here = get_at st.sessions.items c.args.at x c.requires.at c.index_mut.ensures.value in
    let light = step_lighter (c.len.result + 1) c.deref.result.now x y st.frames c.step-item.new.frames c.step-item.result x.doing refl (c.requires.good.each_room c.args.at x here) c.step-item.ensures.kept_room c.step-item.ensures.steps in
    nearer_by st _ c.settle.new.state c.args.at _ x y c.step-item.new.frames c.step-item.result c.requires.at here
    (record { base = refl; first = refl; items = refl; len = refl; frames = refl; sessions = refl; last = refl; owed = refl }) (light.0.nearer st.items.items c.settle.new.state.items.items)
    (c.settle.ensures y (get_put st.sessions.items c.args.at y c.requires.at))
