use Rattle.std.proofs.Common.{arith, ap, ◌∙◌}
use Rattle.spec_tree.specs.ParentRules.{row_error}
use Rattle.ck_merge.specs.ParentErrors.{IsLevelOff}
use Rattle.ck_merge.proofs.Growing.{found_is, missing_is}
use Rattle.ck_merge.proofs.parents.level_error.Goals as goal

pub returns-then-from : goal.returns-then-from
returns-then-from c = missing_is (IsLevelOff c.args.row.now c.args.head.now) (λ x h. h.differs (omega (arith, c.if-from.true, c.from.ensures, c.from-2.ensures)))

pub returns : goal.returns
returns c =
    let row = c.args.row.now in
    found_is (IsLevelOff row c.args.head.now) c.row_error.result (row_error 8931 row row.child.0 c.args.head.now.level)
    (c.row_error.ensures ∙ ap (row_error 8931 row row.child.0) c.from-3.ensures)
    (λ x e. record { differs = λ d. c.if-from.false (omega (arith, d, c.from.ensures, c.from-2.ensures)); is = e }) (λ x h. h.is)
