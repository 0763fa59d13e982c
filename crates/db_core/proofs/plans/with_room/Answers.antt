use Rattle.std.proofs.Common.{◌≤◌, ◌+◌, ◌*◌, Err, sym, subst, vec_len, vec_capacity}
use Rattle.spec_script.specs.declared.reply.Refusal.{Refusal}
use Rattle.db_core.specs.Plans.{HasRoomFor, IsPrepared, changes_in}
use Rattle.db_core.specs.ViewLaws.{get_within}
use Rattle.db_core.proofs.PlanTurn.{plan_small, few_in}
use Rattle.db_core.proofs.Ready.{prepared_plan, prepared_want}
use Rattle.db_core.proofs.plans.with_room.Goals as goal

pub make_room_at-requires-clause-few : goal.make_room_at-requires-clause-few
make_room_at-requires-clause-few c =
    let st = c.args.state.now in
    let x = get_within st.sessions.items c.args.at c.requires.at in
    subst (λ n. n ≤ 8192) (sym c.changes_in.ensures) (few_in c.args.plan (plan_small st c.args.at x.0 c.args.plan c.requires.good x.1 (c.requires.planned x.0 x.1).within))

pub returns-in-Ok : goal.returns-in-Ok
returns-in-Ok c =
    let st = c.args.state.now in
    let new = c.make_room_at.new.state in
    let x = get_within st.sessions.items c.args.at c.requires.at in
    prepared_plan c.args.at st new x.0 c.args.plan c.requires.good x.1 c.in-Ok.ensures.roomier (c.requires.planned x.0 x.1)
    (subst (λ n. vec_len new.items + (new.owed + 2 * n) ≤ vec_capacity new.items) c.changes_in.ensures c.in-Ok.ensures.items)
    (λ y there. subst (HasRoomFor y (changes_in c.args.plan)) c.takes_in.ensures (subst (λ n. HasRoomFor y n c.takes_in.result) c.changes_in.ensures (c.in-Ok.ensures.session y there)))

pub returns-in-Err : goal.returns-in-Err
returns-in-Err c =
    let st = c.args.state.now in
    let x = get_within st.sessions.items c.args.at c.requires.at in
    subst (λ (q : Refusal). IsPrepared c.args.at st c.make_room_at.new.state (Err q)) (sym c.plain.ensures)
    (prepared_want c.args.at st c.make_room_at.new.state x.0 c.args.plan c.requires.good x.1 c.in-Err.ensures.roomier (c.requires.planned x.0 x.1))
