use Rattle.db_core.proofs.Good.{get_at, get_same}
use Rattle.db_core.proofs.CheckTurns.{phase_of}
use Rattle.db_core.proofs.checks.go_on_check.Goals as goal

pub is_back_in-requires : goal.is_back_in-requires
is_back_in-requires c = c.requires.checking c.index.result.now (get_at c.args.state.now.sessions.items c.args.at c.index.result.now c.requires.at c.index.ensures)

pub back_turn-requires-clause-back : goal.back_turn-requires-clause-back
back_turn-requires-clause-back c x check here doing =
    let st = c.args.state.now in
    let same = get_same st.sessions.items c.args.at c.index.result.now x (get_at st.sessions.items c.args.at c.index.result.now c.requires.at c.index.ensures) here in
    phase_of c.index.result.now x check same doing c.is_back_in.ensures c.if-is_back_in.true

pub read_turn-requires-clause-behind : goal.read_turn-requires-clause-behind
read_turn-requires-clause-behind c x check here doing =
    let st = c.args.state.now in
    let same = get_same st.sessions.items c.args.at c.index.result.now x (get_at st.sessions.items c.args.at c.index.result.now c.requires.at c.index.ensures) here in
    phase_of c.index.result.now x check same doing c.is_back_in.ensures c.if-is_back_in.false
