use Rattle.std.proofs.Common.{◌∙◌, refl, ap, arith}
use Rattle.db_core.specs.Plans.{used_now}
use Rattle.db_core.specs.Store.{run_is}
use Rattle.db_core.specs.ViewLaws.{good_size, good_geometry}
use Rattle.law_net.proofs.FewTakes.{limit_low}
use Rattle.db_core.proofs.Good.{get_at, get_same}
use Rattle.db_core.proofs.advance.sums_of.Goals as goal

pub geometry_of-requires : goal.geometry_of-requires
geometry_of-requires c = let low = (good_size c.args.state.now c.requires.good).low in omega (arith, low)

pub overflow_cast-result : goal.overflow_cast-result
overflow_cast-result c =
    let st = c.args.state.now in
    let high = limit_low (run_is st).geometry _ (good_size st c.requires.good).high in
    let count = c.count.ensures in
    omega (arith, high, count)

pub returns-clause-sums : goal.returns-clause-sums
returns-clause-sums c x here =
    let st = c.args.state.now in
    let first = get_at st.sessions.items c.args.at c.index.result.now c.requires.at c.index.ensures in
    record { used = c.used_now.ensures ∙ ap used_now (get_same st.sessions.items c.args.at c.index.result.now x first here); all_is = refl; size_is = refl }

pub returns-clause-geometry : goal.returns-clause-geometry
returns-clause-geometry c = c.geometry_of.ensures ∙ good_geometry c.args.state.now c.requires.good
