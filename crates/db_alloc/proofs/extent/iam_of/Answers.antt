use Rattle.std.proofs.Common.{◌<◌, length, Box, refl, sym, ap, ◌∙◌, arith}
use Rattle.std.specs.Global.{Global}
use Rattle.pg_base.specs.declared.page.Page.{Page}
use Rattle.spec_file.specs.Iam.{iam_interval}
use Rattle.db_alloc.proofs.ExtentSteps.{iam_hit, iam_miss}
use Rattle.db_alloc.proofs.extent.iam_of.Goals as goal

pub loop-i-init : goal.loop-i-init
loop-i-init c = λ image same. refl

pub returns-then-u32_at-interval-clause-first : goal.returns-then-u32_at-interval-clause-first
returns-then-u32_at-interval-clause-first c = λ image same.
    let i = c.loop-i.i in
    let below = c.loop-i-test.true in
    let least = c.min-i-end.ensures in
    let in_chain : i < length c.args.chain.now = omega (arith, below, least) in
    let in_iams : i < length c.args.iams.now = omega (arith, below, least) in
    sym (c.loop-i.invariant image same
    ∙ iam_hit image c.args.interval c.args.chain.now c.args.iams.now i (record { 0 = 0 }) c.index-iams-i.result same in_chain in_iams
    (ap (λ (b : Box Page Global). iam_interval b.value.bytes) (sym c.index-iams-i.is) ∙ ap (λ (page : Page). iam_interval page.bytes) (sym c.deref.ensures) ∙ sym c.u32_at.ensures ∙ c.if-u32_at-interval.true))

pub loop-i-preserved : goal.loop-i-preserved
loop-i-preserved c = λ image same.
    let i = c.loop-i.i in
    let below = c.loop-i-test.true in
    let least = c.min-i-end.ensures in
    let in_chain : i < length c.args.chain.now = omega (arith, below, least) in
    let in_iams : i < length c.args.iams.now = omega (arith, below, least) in
    c.loop-i.invariant image same
    ∙ iam_miss image c.args.interval c.args.chain.now c.args.iams.now i c.index-iams-i.result same in_chain in_iams (λ e.
    c.if-u32_at-interval.false
    (c.u32_at.ensures ∙ ap (λ (page : Page). iam_interval page.bytes) c.deref.ensures ∙ ap (λ (b : Box Page Global). iam_interval b.value.bytes) c.index-iams-i.is ∙ e))
