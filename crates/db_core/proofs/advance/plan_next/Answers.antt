use Rattle.std.proofs.Common.{◌≡◌, length, sym, ap, ◌∙◌, subst, arith}
use Rattle.spec_words.specs.NetChanges.{FileShape}
use Rattle.spec_statements.specs.Statements.{Plans, kind_of}
use Rattle.spec_words.specs.Views.{View}
use Rattle.spec_run.specs.Begun.{shape_of, view_at}
use Rattle.law_undo.proofs.Shapes.{final_shape}
use Rattle.db_core.specs.declared.session.Session.{Session}
use Rattle.db_core.specs.Store.{run_is, log_of}
use Rattle.db_core.specs.Plans.{IsPlanned}
use Rattle.db_core.specs.StatementViews.{state_of}
use Rattle.db_core.specs.Views.{tran_of_session}
use Rattle.db_core.proofs.Good.{get_at, get_same}
use Rattle.db_core.proofs.Advances.{next_is, proper_next}
use Rattle.db_core.proofs.Planned.{planned}
use Rattle.db_plan.proofs.PlannedWords.{planned_words}
use Rattle.db_core.proofs.advance.plan_next.Goals as goal

pub plan-requires-clause-geometry : goal.plan-requires-clause-geometry
plan-requires-clause-geometry c = c.sums_of.ensures.geometry ∙ sym (ap (λ (v : View). v.shape.geometry) c.of-view.ensures.begins)

pub plan-requires-clause-pages : goal.plan-requires-clause-pages
plan-requires-clause-pages c =
    let st = c.args.state.now in
    let good = c.requires.good in
    c.sums_of.ensures.pages ∙ ap length good.state.pages_are ∙ (final_shape (run_is st).opened (log_of st) (run_is st).image).pages
    ∙ sym (ap (λ (v : View). v.shape.pages) c.of-view.ensures.begins)

pub plan-requires-clause-proper : goal.plan-requires-clause-proper
plan-requires-clause-proper c =
    let st = c.args.state.now in
    let x = c.index-session.result.now in
    let here = get_at st.sessions.items c.args.at x c.requires.at c.index-session.ensures in
    proper_next st c.args.at x c.index.result.now c.requires.good here (next_is x c.len.result c.index.result.now (c.requires.next x here) c.len.ensures c.index.ensures).0

pub plan-requires-clause-planned : goal.plan-requires-clause-planned
plan-requires-clause-planned c =
    let x = c.index-session.result.now in
    let here = get_at c.args.state.now.sessions.items c.args.at x c.requires.at c.index-session.ensures in
    (next_is x c.len.result c.index.result.now (c.requires.next x here) c.len.ensures c.index.ensures).1

pub returns : goal.returns
returns c x here =
    let st = c.args.state.now in
    let k = c.args.at in
    let run = run_is st in
    let first = c.index-session.result.now in
    let first_here = get_at st.sessions.items k first c.requires.at c.index-session.ensures in
    let stage = c.requires.next first first_here in
    let s = c.index.result.now in
    let next = next_is first c.len.result s stage c.len.ensures c.index.ensures in
    let w = planned_words (shape_of run) s next.1 in
    let old = state_of c.of-view.result in
    let new = state_of c.plan.new.v in
    let begins = c.of-view.ensures.begins in
    let same = get_same st.sessions.items k first x first_here here in
    let view = begins ∙ ap (λ o. view_at run (log_of st) (tran_of_session o)) first_here in
    let is = c.plan.ensures w.words (subst (λ (f : FileShape). kind_of f s ≡ Plans w.words) (sym (ap (λ (v : View). v.shape) begins)) w.kind) in
    subst (λ (z : Session). IsPlanned st k z c.plan.result) same
    (planned st k first s w.words c.sums_of.result old new c.plan.result c.requires.good first_here stage.0 next.0 w.kind w.numbered (c.sums_of.ensures.sums first first_here) view c.of-view.ensures.told
    (λ rose. omega (arith, rose)) is)
