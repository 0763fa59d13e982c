use Rattle.std.proofs.Common.{ap, ◌∙◌}
use Rattle.spec_tree.specs.ParentRules.{tree_error}
use Rattle.ck_merge.specs.ParentErrors.{IsRootPrevOff}
use Rattle.ck_merge.proofs.Growing.{found_is, missing_is}
use Rattle.ck_merge.proofs.prevs.root_prev_error.Goals as goal

pub returns-then-head-eq0 : goal.returns-then-head-eq0
returns-then-head-eq0 c = missing_is (IsRootPrevOff c.args.root.now c.args.head.now) (λ x h. h.differs c.if-head-eq0.true)

pub returns : goal.returns
returns c =
    let root = c.args.root.now in
    found_is (IsRootPrevOff root c.args.head.now) c.tree_error.result (tree_error 8935 root.object.0 root.page.0 0 0 c.args.head.now.prev.0)
    (c.tree_error.ensures ∙ ap (tree_error 8935 root.object.0 root.page.0 0 0) c.from.ensures) (λ x e. record { differs = c.if-head-eq0.false; is = e }) (λ x h. h.is)
