use Rattle.std.proofs.Common.{refl, sym, subst}
use Rattle.db_core.specs.Back.{MayGoBack}
use Rattle.db_core.specs.Checks.{BacksIn}
use Rattle.db_core.proofs.Good.{get_at}
use Rattle.db_core.proofs.CheckTurns.{check_fits, back_good, back_nearer}
use Rattle.db_core.proofs.checks.back_turn.Goals as goal

pub back_in-requires-clause-checking : goal.back_in-requires-clause-checking
back_in-requires-clause-checking c = c.requires.checking c.index_mut.result.now (get_at c.args.state.now.sessions.items c.args.at c.index_mut.result.now c.requires.at c.index_mut.ensures.value)

pub back_in-requires-clause-fits : goal.back_in-requires-clause-fits
back_in-requires-clause-fits c check doing =
    let st = c.args.state.now in
    let x = c.index_mut.result.now in
    subst (λ is. MayGoBack is check) (sym c.deref.ensures.value) (check_fits st c.args.at x check c.requires.good (get_at st.sessions.items c.args.at x c.requires.at c.index_mut.ensures.value) doing)

pub returns-clause-checked : goal.returns-clause-checked
returns-clause-checked c =
    let st = c.args.state.now in
    let x = c.index_mut.result.now in
    let y = c.back_in.new.session in
    let here = get_at st.sessions.items c.args.at x c.requires.at c.index_mut.ensures.value in
    back_good st _ c.args.at x y c.requires.good here (subst (λ is. BacksIn is x y) c.deref.ensures.value c.back_in.ensures)
    (record { base = refl; first = refl; items = refl; len = refl; frames = refl; sessions = refl; last = refl; owed = refl }) refl refl refl

pub returns-clause-nearer : goal.returns-clause-nearer
returns-clause-nearer c a b ea eb =
    let st = c.args.state.now in
    let x = c.index_mut.result.now in
    let y = c.back_in.new.session in
    let here = get_at st.sessions.items c.args.at x c.requires.at c.index_mut.ensures.value in
    back_nearer st c.args.at x y c.requires.at here (subst (λ is. BacksIn is x y) c.deref.ensures.value c.back_in.ensures) (λ check. c.requires.back x check here) a b ea eb
