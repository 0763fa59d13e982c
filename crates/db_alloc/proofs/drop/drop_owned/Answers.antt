use Rattle.std.proofs.Common.{sym, ◌∙◌}
use Rattle.db_locks.proofs.PlanLaws.{stays_then, does_more}
use Rattle.db_alloc.specs.Drops.{owned_dropped, extents_dropped}
use Rattle.db_alloc.specs.Tables.{numbers}
use Rattle.db_alloc.proofs.DropSteps.{tested_as, dropped_as, shared_in, pages_leave, chain_leaves, chain_same, reached_later}
use Rattle.db_alloc.proofs.FreeSteps.{goes_none, goes_then, goes_exit, still, in_shape}
use Rattle.db_alloc.proofs.Leaves.{leaves_both}
use Rattle.db_alloc.proofs.drop.drop_owned.Goals as goal

pub returns-in_err-check_ordinary : goal.returns-in_err-check_ordinary
returns-in_err-check_ordinary g c = λ looked reached.
    let a = g.P.PlanPages.state c.args.v.now in
    let chain = numbers c.args.owned.now.chain.numbers.items in
    let pages = numbers c.args.owned.now.pages.items in
    goes_exit _ (goes_none looked a (owned_dropped a.view.shape chain pages)) (does_more looked (tested_as c.args.table.now.geometry _ c.args.owned.now.pages.items c.requires.geometry c.deref.ensures.value (c.in_err-check_ordinary.ensures a)))
    c.from_residual.ensures.1

pub returns-in_err-drop_pages : goal.returns-in_err-drop_pages
returns-in_err-drop_pages g c = λ looked reached.
    let a = g.P.PlanPages.state c.args.v.now in
    let chain = numbers c.args.owned.now.chain.numbers.items in
    let pages = numbers c.args.owned.now.pages.items in
    let l = goes_then _ (goes_none looked a (owned_dropped a.view.shape chain pages)) (does_more looked (tested_as c.args.table.now.geometry _ c.args.owned.now.pages.items c.requires.geometry c.deref.ensures.value (c.in_ok-check_ordinary.ensures a))) in
    goes_exit _ l (does_more l.looked (dropped_as _ c.args.owned.now.chain.numbers.items _ c.args.owned.now.pages.items c.deref-2.ensures.value c.deref-4.ensures.value c.in_err-drop_pages.ensures)) c.from_residual-in_err-drop_pages.ensures.1

pub returns-in_err-free_shared : goal.returns-in_err-free_shared
returns-in_err-free_shared g c = λ looked reached.
    let a = g.P.PlanPages.state c.args.v.now in
    let chain = numbers c.args.owned.now.chain.numbers.items in
    let pages = numbers c.args.owned.now.pages.items in
    let dropped = dropped_as _ c.args.owned.now.chain.numbers.items _ c.args.owned.now.pages.items c.deref-2.ensures.value c.deref-4.ensures.value c.in_ok-drop_pages.ensures in
    let l1 = goes_then _ (goes_none looked a (owned_dropped a.view.shape chain pages)) (does_more looked (tested_as c.args.table.now.geometry _ c.args.owned.now.pages.items c.requires.geometry c.deref.ensures.value (c.in_ok-check_ordinary.ensures a))) in
    let l2 = goes_then _ l1 (does_more l1.looked dropped) in
    goes_exit _ l2 (does_more l2.looked (shared_in _ c.args.owned.now.chain.numbers.items dropped.stays c.deref-5.ensures.value c.in_err-free_shared.ensures)) c.from_residual-in_err-free_shared.ensures.1

pub free_left-requires-clause-chain : goal.free_left-requires-clause-chain
free_left-requires-clause-chain g c = λ told.
    let a = g.P.PlanPages.state c.args.v.now in
    let d = g.P.PlanPages.state c.free_shared.new.v in
    let chain = numbers c.args.owned.now.chain.numbers.items in
    let pages = numbers c.args.owned.now.pages.items in
    let dropped = dropped_as _ c.args.owned.now.chain.numbers.items _ c.args.owned.now.pages.items c.deref-2.ensures.value c.deref-4.ensures.value c.in_ok-drop_pages.ensures in
    let shared = shared_in _ c.args.owned.now.chain.numbers.items dropped.stays c.deref-5.ensures.value c.in_ok-free_shared.ensures in
    let told_b = sym shared.stays.told ∙ told in
    let told_a = sym dropped.stays.told ∙ told_b in
    let leaves = leaves_both (pages_leave chain pages dropped told_a) (chain_leaves a.view.shape chain shared told_b) in
    c.requires.chain told_a ∙ sym (chain_same a.view.shape a.view d.view chain c.requires.ownable leaves)

pub returns : goal.returns
returns g c = λ looked reached.
    let a = g.P.PlanPages.state c.args.v.now in
    let d = g.P.PlanPages.state c.free_shared.new.v in
    let chain = numbers c.args.owned.now.chain.numbers.items in
    let pages = numbers c.args.owned.now.pages.items in
    let tested = tested_as c.args.table.now.geometry _ c.args.owned.now.pages.items c.requires.geometry c.deref.ensures.value (c.in_ok-check_ordinary.ensures a) in
    let dropped = dropped_as _ c.args.owned.now.chain.numbers.items _ c.args.owned.now.pages.items c.deref-2.ensures.value c.deref-4.ensures.value c.in_ok-drop_pages.ensures in
    let shared = shared_in _ c.args.owned.now.chain.numbers.items dropped.stays c.deref-5.ensures.value c.in_ok-free_shared.ensures in
    let l0 = goes_none looked a (owned_dropped a.view.shape chain pages) in
    let d1 = does_more looked tested in
    let l1 = goes_then _ l0 d1 in
    let d2 = does_more l1.looked dropped in
    let l2 = goes_then _ l1 d2 in
    let d3 = does_more l2.looked shared in
    let l3 = goes_then _ l2 d3 in
    l3.lead _ _ (in_shape (λ s. extents_dropped s chain) l3.stays (c.free_left.ensures l3.looked (λ told.
    let told_b = sym shared.stays.told ∙ told in
    let told_a = sym dropped.stays.told ∙ told_b in
    let leaves = leaves_both (pages_leave chain pages dropped told_a) (chain_leaves a.view.shape chain shared told_b) in
    reached_later looked l3.looked a.view d.view chain (λ q h. still _ l2 d3 q (still _ l1 d2 q (still _ l0 d1 q h))) (stays_then dropped.stays shared.stays).shape c.requires.ownable leaves (reached told_a))))
