use Rattle.std.proofs.Common.{◌≡◌, ◌+◌, reverse, take, sym, ap, ◌∙◌}
use Rattle.spec_log.specs.Log.{is_unfinished}
use Rattle.spec_log.specs.Images.{take_back, taken_back}
use Rattle.plain_log.proofs.Folds.{on_ok, kept_back, moved_back}
use Rattle.plain_log.proofs.images.take_unfinished_back.Goals as goal

pub returns-then-not-is_unfinished : goal.returns-then-not-is_unfinished
returns-then-not-is_unfinished c =
    let chosen = is_unfinished (reverse c.args.items.now) in
    kept_back chosen c.args.items.now c.args.i c.index-items-i.result c.args.image.now c.requires c.index-items-i.is
    (ap chosen (sym c.tran_of_item.ensures) ∙ sym c.is_unfinished.ensures ∙ c.if-not-is_unfinished.true)

pub returns : goal.returns
returns c =
    let chosen = is_unfinished (reverse c.args.items.now) in
    on_ok c.take_item_back.result (c.take_item_back.new.image ≡ take_back (reverse (take c.args.i c.args.items.now)) c.index-items-i.result c.args.image.now)
    (taken_back chosen (reverse (take (c.args.i + 1) c.args.items.now)) c.args.image.now ≡ taken_back chosen (reverse (take c.args.i c.args.items.now)) c.take_item_back.new.image)
    c.take_item_back.ensures
    (moved_back chosen c.args.items.now c.args.i c.index-items-i.result c.args.image.now c.take_item_back.new.image c.requires c.index-items-i.is
    (ap chosen (sym c.tran_of_item.ensures) ∙ sym c.is_unfinished.ensures ∙ c.if-not-is_unfinished.false))
