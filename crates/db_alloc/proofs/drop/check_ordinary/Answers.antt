use Rattle.std.proofs.Common.{ℕ, ◌<◌, [], get_or, sym, ap, ◌∙◌, refl}
use Rattle.spec_file.specs.Places.{page_limit}
use Rattle.spec_file.specs.Roles.{is_ordinary}
use Rattle.spec_words.specs.Views.{Plan}
use Rattle.spec_words.specs.Words.{where_good, for_each}
use Rattle.db_locks.specs.declared.plan_pages.PageStop.TheVariants.{Bad}
use Rattle.db_locks.proofs.PlanLaws.{does_good, does_bad}
use Rattle.db_locks.proofs.LoopLaws.{each_step, each_exit, each_end}
use Rattle.db_alloc.proofs.Chains.{leads_plan}
use Rattle.db_alloc.proofs.Lists.{drop_at, drop_none, all_at}
use Rattle.db_alloc.proofs.drop.check_ordinary.Goals as goal

pub is_ordinary-requires : goal.is_ordinary-requires
is_ordinary-requires c = all_at (λ p. p < page_limit c.args.geometry) c.args.pages.now c.loop-p.p-index (record { 0 = 0 }) c.loop-p-test.true c.requires

pub returns-then-not-is_ordinary : goal.returns-then-not-is_ordinary
returns-then-not-is_ordinary c = λ a.
    let test : ℕ → Plan (Unit {0}) = λ p. where_good (is_ordinary c.args.geometry p) p in
    let p = get_or c.args.pages.now c.loop-p.p-index (record { 0 = 0 }) in
    each_exit test _ _ (leads_plan (ap (for_each test) (drop_at c.args.pages.now c.loop-p.p-index (record { 0 = 0 }) c.loop-p-test.true)) (c.loop-p.invariant a))
    (does_bad [] a (is_ordinary c.args.geometry p.0) p.0 (Bad p) refl (λ told. sym c.is_ordinary.ensures ∙ c.if-not-is_ordinary.true)) refl

pub loop-p-preserved : goal.loop-p-preserved
loop-p-preserved c = λ a.
    let test : ℕ → Plan (Unit {0}) = λ p. where_good (is_ordinary c.args.geometry p) p in
    let p = get_or c.args.pages.now c.loop-p.p-index (record { 0 = 0 }) in
    each_step test _ _ (leads_plan (ap (for_each test) (drop_at c.args.pages.now c.loop-p.p-index (record { 0 = 0 }) c.loop-p-test.true)) (c.loop-p.invariant a))
    (does_good [] a (is_ordinary c.args.geometry p.0) p.0 (λ told. sym c.is_ordinary.ensures ∙ c.if-not-is_ordinary.false))

pub returns : goal.returns
returns c = λ a.
    let test : ℕ → Plan (Unit {0}) = λ p. where_good (is_ordinary c.args.geometry p) p in
    each_end test (leads_plan (ap (for_each test) (drop_none c.args.pages.now c.loop-p.p-index c.loop-p-test.false)) (c.loop-p.invariant a))
