use Rattle.std.proofs.Common.{◌≡◌, ◌∙◌, subst}
use Rattle.db_core.specs.declared.session.Doing.TheVariants.{Idle}
use Rattle.db_core.specs.declared.stage.Stage.TheVariants as stages
use Rattle.db_core.specs.Stages.{IsStage}
use Rattle.db_core.specs.Words.{IsNextWord}
use Rattle.db_core.specs.ViewLaws.{get_within}
use Rattle.db_core.proofs.Good.{get_at, get_same}
use Rattle.db_core.proofs.CheckTurns.{went_checked}
use Rattle.db_core.proofs.Advances.{done_advanced, statement_left, checked_advanced, snapped_advanced, same_many}
use Rattle.db_core.proofs.advance.advance.Goals as goal

pub go_on_check-requires-clause-checking : goal.go_on_check-requires-clause-checking
go_on_check-requires-clause-checking c z here =
    let st = c.args.state.now in
    let x = c.index-2.result.now in
    subst (λ y. IsStage y stages.Checking) (get_same st.sessions.items c.args.at x z (get_at st.sessions.items c.args.at x c.requires.at c.index-2.ensures) here) c.in-Checking.ensures

pub begin_word-requires-clause-next : goal.begin_word-requires-clause-next
begin_word-requires-clause-next c z here =
    let st = c.args.state.now in
    let x = c.index-2.result.now in
    subst (λ y. IsNextWord c.in-Word.word y) (get_same st.sessions.items c.args.at x z (get_at st.sessions.items c.args.at x c.requires.at c.index-2.ensures) here) (record { idle = c.in-Word.ensures.0; next = c.in-Word.ensures.1 })

pub plan_next-plan-requires-clause-next : goal.plan_next-plan-requires-clause-next
plan_next-plan-requires-clause-next c z here =
    let st = c.args.state.now in
    let x = c.index-2.result.now in
    subst (λ y. IsStage y stages.Planned) (get_same st.sessions.items c.args.at x z (get_at st.sessions.items c.args.at x c.requires.at c.index-2.ensures) here) c.in-Planned.ensures

pub begin_check-requires-clause-next : goal.begin_check-requires-clause-next
begin_check-requires-clause-next c z here =
    let st = c.args.state.now in
    let x = c.index-2.result.now in
    subst (λ y. IsStage y stages.Check) (get_same st.sessions.items c.args.at x z (get_at st.sessions.items c.args.at x c.requires.at c.index-2.ensures) here) c.in-Check.ensures

pub returns-in-Done-clause-advanced : goal.returns-in-Done-clause-advanced
returns-in-Done-clause-advanced c =
    let st = c.args.state.now in
    let x = c.index-2.result.now in
    done_advanced st c.args.at x c.requires.good (get_at st.sessions.items c.args.at x c.requires.at c.index-2.ensures) c.in-Done.ensures.0 c.in-Done.ensures.1

pub returns-in-Done-clause-nearer : goal.returns-in-Done-clause-nearer
returns-in-Done-clause-nearer c p q ep eq busy =
    let st = c.args.state.now in
    let x = c.index-2.result.now in
    let same = get_same st.sessions.items c.args.at x p (get_at st.sessions.items c.args.at x c.requires.at c.index-2.ensures) ep in
    absurd (busy (subst (λ z. z.doing ≡ Idle) same c.in-Done.ensures.0))

pub returns-in-UnderWay-clause-advanced : goal.returns-in-UnderWay-clause-advanced
returns-in-UnderWay-clause-advanced c =
    let st = c.args.state.now in
    let x = c.index.result.now in
    let here = get_at st.sessions.items c.args.at x c.requires.at c.index.ensures in
    let checked = went_checked c.args.at st c.go_on.new.state c.requires.good c.go_on.ensures.went in
    let found = get_within c.go_on.new.state.sessions.items c.args.at (same_many st c.go_on.new.state c.args.at c.requires.good checked.good checked.turn.0 c.requires.at) in
    let more = statement_left st c.args.at x c.index-2.result.now stages.UnderWay c.requires.good here (get_at st.sessions.items c.args.at c.index-2.result.now c.requires.at c.index-2.ensures) c.in-UnderWay.ensures (λ e. cc) in
    checked_advanced st c.go_on.new.state c.args.at c.len-before.result x found.0 c.told.result c.requires.good here more checked (c.len-before.ensures ∙ x.replies.ok.0) found.1 (c.told.ensures found.0 found.1)

pub returns-in-Checking-clause-advanced : goal.returns-in-Checking-clause-advanced
returns-in-Checking-clause-advanced c =
    let st = c.args.state.now in
    let x = c.index.result.now in
    let here = get_at st.sessions.items c.args.at x c.requires.at c.index.ensures in
    let checked = c.go_on_check.ensures.checked in
    let found = get_within c.go_on_check.new.state.sessions.items c.args.at (same_many st c.go_on_check.new.state c.args.at c.requires.good checked.good checked.turn.0 c.requires.at) in
    let more = statement_left st c.args.at x c.index-2.result.now stages.Checking c.requires.good here (get_at st.sessions.items c.args.at c.index-2.result.now c.requires.at c.index-2.ensures) c.in-Checking.ensures (λ e. cc) in
    checked_advanced st c.go_on_check.new.state c.args.at c.len-before.result x found.0 c.told-in-Checking.result c.requires.good here more checked (c.len-before.ensures ∙ x.replies.ok.0) found.1 (c.told-in-Checking.ensures found.0 found.1)

pub returns-in-Word-clause-advanced : goal.returns-in-Word-clause-advanced
returns-in-Word-clause-advanced c =
    let st = c.args.state.now in
    let x = c.index.result.now in
    let here = get_at st.sessions.items c.args.at x c.requires.at c.index.ensures in
    let checked = went_checked c.args.at st c.begin_word.new.state c.requires.good c.begin_word.ensures.went in
    let found = get_within c.begin_word.new.state.sessions.items c.args.at (same_many st c.begin_word.new.state c.args.at c.requires.good checked.good checked.turn.0 c.requires.at) in
    let more = statement_left st c.args.at x c.index-2.result.now (stages.Word c.in-Word.word) c.requires.good here (get_at st.sessions.items c.args.at c.index-2.result.now c.requires.at c.index-2.ensures) c.in-Word.ensures (λ e. cc) in
    checked_advanced st c.begin_word.new.state c.args.at c.len-before.result x found.0 c.told-in-Word.result c.requires.good here more checked (c.len-before.ensures ∙ x.replies.ok.0) found.1 (c.told-in-Word.ensures found.0 found.1)

pub returns-in-Word-clause-nearer : goal.returns-in-Word-clause-nearer
returns-in-Word-clause-nearer c p q ep eq busy =
    let st = c.args.state.now in
    let x = c.index-2.result.now in
    let same = get_same st.sessions.items c.args.at x p (get_at st.sessions.items c.args.at x c.requires.at c.index-2.ensures) ep in
    absurd (busy (subst (λ z. z.doing ≡ Idle) same c.in-Word.ensures.0))

pub returns-in-Planned-clause-advanced : goal.returns-in-Planned-clause-advanced
returns-in-Planned-clause-advanced c =
    let st = c.args.state.now in
    let x = c.index.result.now in
    let here = get_at st.sessions.items c.args.at x c.requires.at c.index.ensures in
    let checked = went_checked c.args.at st c.begin_planned.new.state c.requires.good c.begin_planned.ensures.went in
    let found = get_within c.begin_planned.new.state.sessions.items c.args.at (same_many st c.begin_planned.new.state c.args.at c.requires.good checked.good checked.turn.0 c.requires.at) in
    let more = statement_left st c.args.at x c.index-2.result.now stages.Planned c.requires.good here (get_at st.sessions.items c.args.at c.index-2.result.now c.requires.at c.index-2.ensures) c.in-Planned.ensures (λ e. cc) in
    checked_advanced st c.begin_planned.new.state c.args.at c.len-before.result x found.0 c.told-in-Planned.result c.requires.good here more checked (c.len-before.ensures ∙ x.replies.ok.0) found.1 (c.told-in-Planned.ensures found.0 found.1)

pub returns-in-Planned-clause-nearer : goal.returns-in-Planned-clause-nearer
returns-in-Planned-clause-nearer c p q ep eq busy =
    let st = c.args.state.now in
    let x = c.index-2.result.now in
    let same = get_same st.sessions.items c.args.at x p (get_at st.sessions.items c.args.at x c.requires.at c.index-2.ensures) ep in
    absurd (busy (subst (λ z. z.doing ≡ Idle) same c.in-Planned.ensures.0))

pub returns-in-Ok-clause-advanced : goal.returns-in-Ok-clause-advanced
returns-in-Ok-clause-advanced c = snapped_advanced c.args.state.now c.begin_check.new.state c.args.at c.in-Ok.ensures

pub returns-in-Ok-clause-nearer : goal.returns-in-Ok-clause-nearer
returns-in-Ok-clause-nearer c p q ep eq busy =
    let st = c.args.state.now in
    let x = c.index-2.result.now in
    let same = get_same st.sessions.items c.args.at x p (get_at st.sessions.items c.args.at x c.requires.at c.index-2.ensures) ep in
    absurd (busy (subst (λ z. z.doing ≡ Idle) same c.in-Check.ensures.0))

pub returns-in-Err-clause-advanced : goal.returns-in-Err-clause-advanced
returns-in-Err-clause-advanced c =
    let st = c.args.state.now in
    let x = c.index.result.now in
    let here = get_at st.sessions.items c.args.at x c.requires.at c.index.ensures in
    let checked = c.in-Err.ensures in
    let found = get_within c.begin_check.new.state.sessions.items c.args.at (same_many st c.begin_check.new.state c.args.at c.requires.good checked.good checked.turn.0 c.requires.at) in
    let more = statement_left st c.args.at x c.index-2.result.now stages.Check c.requires.good here (get_at st.sessions.items c.args.at c.index-2.result.now c.requires.at c.index-2.ensures) c.in-Check.ensures (λ e. cc) in
    checked_advanced st c.begin_check.new.state c.args.at c.len-before.result x found.0 c.told-in-Err.result c.requires.good here more checked (c.len-before.ensures ∙ x.replies.ok.0) found.1 (c.told-in-Err.ensures found.0 found.1)

pub returns-in-Err-clause-nearer : goal.returns-in-Err-clause-nearer
returns-in-Err-clause-nearer c p q ep eq busy =
    let st = c.args.state.now in
    let x = c.index-2.result.now in
    let same = get_same st.sessions.items c.args.at x p (get_at st.sessions.items c.args.at x c.requires.at c.index-2.ensures) ep in
    absurd (busy (subst (λ z. z.doing ≡ Idle) same c.in-Check.ensures.0))
