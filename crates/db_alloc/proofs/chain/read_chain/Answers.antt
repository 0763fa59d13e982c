use Rattle.std.proofs.Common.{ℕ, ◌+◌, ◌-◌, List, [], ◌∷◌, ◌++◌, refl, sym, ap, ◌∙◌, subst, All, Ok, Err, arith}
use Rattle.std.proofs.lemmas.List.{length-map}
use Rattle.std.proofs.lemmas.List.Elements.{All-nil, All-push}
use Rattle.spec_file.specs.declared.data.PageNo.{PageNo}
use Rattle.spec_file.specs.Image.{page}
use Rattle.spec_chain.specs.Chains.{is_last}
use Rattle.spec_plan.specs.Refusals.{bad_page}
use Rattle.spec_words.specs.Views.{View}
use Rattle.spec_words.specs.Tables.{chain_of, chain_from}
use Rattle.db_cat.specs.Rows.{row_of}
use Rattle.db_locks.specs.declared.plan_pages.PageStop.TheVariants.{Bad}
use Rattle.db_locks.specs.Does.{stop_of}
use Rattle.db_locks.proofs.PlanLaws.{does_give, does_refuse}
use Rattle.db_locks.proofs.LoopLaws.{Leads, leads_none, leads_then}
use Rattle.db_alloc.specs.Maps.{IsOwnable}
use Rattle.db_alloc.specs.Tables.{numbers, bytes_of, chain_link}
use Rattle.db_alloc.proofs.Steps.{does_plan, leads_exit_as}
use Rattle.db_alloc.proofs.Chains.{rest_of, chain_last, chain_more, chain_full, chain_starts, leads_plan, bytes_more, more_by_one}
use Rattle.db_alloc.proofs.chain.read_chain.Goals as goal

pub loop-count-init : goal.loop-count-init
loop-count-init g c =
    let a = g.P.PlanPages.state c.args.v.now in
    let row = row_of c.args.table.now.row in
    rw (c.new.ensures.items, c.new-2.ensures.items) (record {
      leads = leads_plan (chain_starts a.view.shape row c.args.table.now.pages c.requires.pages) (leads_none stop_of [] a (chain_of a.view.shape row));
      told = λ told. refl;
      own = All-nil (IsOwnable a.view.shape);
      few = omega arith;
      view = refl;
    })

pub returns-then-is_last-clause-does : goal.returns-then-is_last-clause-does
returns-then-is_last-clause-does g c =
    let a = g.P.PlanPages.state c.args.v.now in
    let b = g.P.PlanPages.state c.loop-count.v in
    let row = row_of c.args.table.now.row in
    let met = numbers c.loop-count.chain.numbers.items in
    let last = ap (λ (m : ℕ). is_last m c.loop-count.p.0) (length-map c.loop-count.chain.numbers.items (λ (p : PageNo). p.0) ∙ sym c.loop-count.chain.numbers.ok.0 ∙ sym c.len.ensures) ∙ sym c.is_last.ensures in
    (leads_plan (chain_last (c.args.table.now.pages + 2) c.loop-count.count a.view.shape row met c.loop-count.from.0 c.loop-count.p.0 c.loop-count-test.true (last ∙ c.if-is_last.true)) c.loop-count.invariant.leads).lead b (Ok met) (does_give [] b met)

pub returns-in_err-next-clause-does : goal.returns-in_err-next-clause-does
returns-in_err-next-clause-does g c =
    let a = g.P.PlanPages.state c.args.v.now in
    let row = row_of c.args.table.now.row in
    let met = numbers c.loop-count.chain.numbers.items in
    let last = ap (λ (m : ℕ). is_last m c.loop-count.p.0) (length-map c.loop-count.chain.numbers.items (λ (p : PageNo). p.0) ∙ sym c.loop-count.chain.numbers.ok.0 ∙ sym c.len.ensures) ∙ sym c.is_last.ensures in
    leads_exit_as (rest_of (c.args.table.now.pages + 2 - (c.loop-count.count + 1)) a.view.shape row met c.loop-count.p.0) _ _
    (leads_plan (chain_more (c.args.table.now.pages + 2) c.loop-count.count a.view.shape row met c.loop-count.from.0 c.loop-count.p.0 c.loop-count-test.true (last ∙ c.if-is_last.false)) c.loop-count.invariant.leads)
    (does_plan (ap (λ (v : View). chain_link v.shape row met c.loop-count.from.0 c.loop-count.p.0) c.loop-count.invariant.view) c.in_err-next.ensures.does)
    c.from_residual.ensures.1

pub loop-count-preserved : goal.loop-count-preserved
loop-count-preserved g c =
    let a = g.P.PlanPages.state c.args.v.now in
    let c' = g.P.PlanPages.state c.add_link.new.v in
    let row = row_of c.args.table.now.row in
    let n = c.args.table.now.pages + 2 - (c.loop-count.count + 1) in
    let met = numbers c.loop-count.chain.numbers.items in
    let last = ap (λ (m : ℕ). is_last m c.loop-count.p.0) (length-map c.loop-count.chain.numbers.items (λ (p : PageNo). p.0) ∙ sym c.loop-count.chain.numbers.ok.0 ∙ sym c.len.ensures) ∙ sym c.is_last.ensures in
    record {
      leads = subst (λ (ps : List ℕ). Leads stop_of [] a c' (chain_of a.view.shape row) (chain_from n a.view.shape row ps c.loop-count.p.0 c.in_ok-next.next.0)) (sym c.in_ok-next.ensures.numbers)
          (leads_then (rest_of n a.view.shape row met c.loop-count.p.0) c.in_ok-next.next.0
          (leads_plan (chain_more (c.args.table.now.pages + 2) c.loop-count.count a.view.shape row met c.loop-count.from.0 c.loop-count.p.0 c.loop-count-test.true (last ∙ c.if-is_last.false)) c.loop-count.invariant.leads)
          (does_plan (ap (λ (v : View). chain_link v.shape row met c.loop-count.from.0 c.loop-count.p.0) c.loop-count.invariant.view) c.in_ok-next.ensures.does));
      told = λ told. bytes_more (page a.view.now) met _ c.loop-count.p.0 _ _ c.in_ok-next.ensures.numbers (c.loop-count.invariant.told told)
          (c.in_ok-next.ensures.told (c.loop-count.invariant.leads.stays.told ∙ told) ∙ ap (λ (v : View). bytes_of c.loop-count.chain.pages.items ++ page v.now c.loop-count.p.0 ∷ []) c.loop-count.invariant.view);
      own = subst (All (IsOwnable a.view.shape)) (sym c.in_ok-next.ensures.numbers)
          (All-push (IsOwnable a.view.shape) met c.loop-count.p.0 c.loop-count.invariant.own (subst (λ (v : View). IsOwnable v.shape c.loop-count.p.0) c.loop-count.invariant.view c.in_ok-next.ensures.ownable));
      few = more_by_one c.loop-count.chain.numbers.items c.add_link.new.chain.numbers.items c.loop-count.p.0 c.loop-count.count c.in_ok-next.ensures.numbers c.loop-count.invariant.few;
      view = c.add_link.ensures.view ∙ c.loop-count.invariant.view;
    }

pub returns-clause-does : goal.returns-clause-does
returns-clause-does g c =
    let a = g.P.PlanPages.state c.args.v.now in
    let b = g.P.PlanPages.state c.loop-count.v in
    let row = row_of c.args.table.now.row in
    let met = numbers c.loop-count.chain.numbers.items in
    (leads_plan (chain_full (c.args.table.now.pages + 2) c.loop-count.count a.view.shape row met c.loop-count.from.0 c.loop-count.p.0 c.loop-count-test.false) c.loop-count.invariant.leads).lead b (Err (Bad c.loop-count.p))
    (does_refuse [] b (bad_page c.loop-count.p.0) (Bad c.loop-count.p) refl)
