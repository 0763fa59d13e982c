use Rattle.std.proofs.Common.{◌≡◌, reverse, subst, sym, ap, ◌∙◌}
use Rattle.std.specs.Prelude.{if◌then◌else◌}
use Rattle.spec_log.specs.Cells.{put}
use Rattle.plain_log.specs.Steps.{with_committed}
use Rattle.plain_log.proofs.Folds.{on_ok}
use Rattle.plain_log.proofs.images.commit_change.Goals as goal

pub returns-then-not-has_committed : goal.returns-then-not-has_committed
returns-then-not-has_committed c =
    subst (λ item. c.args.image.now ≡ with_committed (reverse c.args.log.now) item c.args.image.now) (sym c.in-Change.is)
    (sym (ap (λ s. if s then put c.args.image.now c.in-Change.cell c.in-Change.after else c.args.image.now) (sym c.has_committed.ensures ∙ c.if-not-has_committed.true)))

pub returns-else-not-has_committed : goal.returns-else-not-has_committed
returns-else-not-has_committed c =
    on_ok c.put.result (c.put.new.image ≡ put c.args.image.now c.in-Change.cell c.as_slice.result.now)
    (c.put.new.image ≡ with_committed (reverse c.args.log.now) c.args.item.now c.args.image.now)
    c.put.ensures.ok
    (λ e. subst (λ item. c.put.new.image ≡ with_committed (reverse c.args.log.now) item c.args.image.now) (sym c.in-Change.is)
    (e ∙ ap (put c.args.image.now c.in-Change.cell) c.as_slice.ensures ∙ sym (ap (λ s. if s then put c.args.image.now c.in-Change.cell c.in-Change.after else c.args.image.now) (sym c.has_committed.ensures ∙ c.if-not-has_committed.false))))
