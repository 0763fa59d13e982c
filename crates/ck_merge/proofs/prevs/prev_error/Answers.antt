use Rattle.std.proofs.Common.{ap, ◌∙◌}
use Rattle.spec_tree.specs.ParentRules.{row_error}
use Rattle.ck_merge.specs.ParentErrors.{IsPrevOff}
use Rattle.ck_merge.proofs.Growing.{found_is, missing_is}
use Rattle.ck_merge.proofs.prevs.prev_error.Goals as goal

pub returns-then-head-before : goal.returns-then-head-before
returns-then-head-before c = missing_is (IsPrevOff c.args.row.now c.args.before.0 c.args.head.now) (λ x h. h.differs c.if-head-before.true)

pub returns : goal.returns
returns c =
    let row = c.args.row.now in
    found_is (IsPrevOff row c.args.before.0 c.args.head.now) c.row_error.result (row_error 8935 row row.child.0 c.args.head.now.prev.0)
    (c.row_error.ensures ∙ ap (row_error 8935 row row.child.0) c.from.ensures) (λ x e. record { differs = c.if-head-before.false; is = e }) (λ x h. h.is)
