use Rattle.std.proofs.Common.{◌≡◌, ◌+◌, ◌-◌, ◌<◌, length, Some, reverse, sym, ap, ◌∙◌, arith}
use Rattle.spec_log.specs.Log.{is_unfinished}
use Rattle.plain_log.proofs.Folds.{damage_kept, damage_met, damage_moved}
use Rattle.plain_log.proofs.damage.damaged_page.Goals as goal

pub loop-i-preserved-then-not-is_unfinished : goal.loop-i-preserved-then-not-is_unfinished
loop-i-preserved-then-not-is_unfinished c =
    let chosen = is_unfinished (reverse c.args.opened.now) in
    let place : c.loop-i.i ≡ c.loop-i.i - 1 + 1 = omega arith in
    let inside : c.loop-i.i - 1 < length c.args.opened.now = omega arith in
    record {
      inside = omega arith;
      same = c.loop-i.invariant.same ∙ damage_kept chosen c.args.opened.now c.loop-i.i (c.loop-i.i - 1) c.index-opened-i.result c.loop-i.image place inside c.index-opened-i.is
          (ap chosen (sym c.tran_of_item.ensures) ∙ sym c.is_unfinished.ensures ∙ c.if-not-is_unfinished.true);
    }

pub returns-then-not-holds_written : goal.returns-then-not-holds_written
returns-then-not-holds_written c =
    let chosen = is_unfinished (reverse c.args.opened.now) in
    let place : c.loop-i.i ≡ c.loop-i.i - 1 + 1 = omega arith in
    let inside : c.loop-i.i - 1 < length c.args.opened.now = omega arith in
    ap Some c.page_of_item.ensures
    ∙ sym (c.loop-i.invariant.same ∙ damage_met chosen c.args.opened.now c.loop-i.i (c.loop-i.i - 1) c.index-opened-i.result c.loop-i.image place inside c.index-opened-i.is
    (ap chosen (sym c.tran_of_item.ensures) ∙ sym c.is_unfinished.ensures ∙ c.if-not-is_unfinished.false)
    (sym c.holds_written.ensures ∙ c.if-not-holds_written.true))

pub loop-i-preserved : goal.loop-i-preserved
loop-i-preserved c =
    let chosen = is_unfinished (reverse c.args.opened.now) in
    let place : c.loop-i.i ≡ c.loop-i.i - 1 + 1 = omega arith in
    let inside : c.loop-i.i - 1 < length c.args.opened.now = omega arith in
    record {
      inside = omega arith;
      same = c.loop-i.invariant.same ∙ damage_moved chosen c.args.opened.now c.loop-i.i (c.loop-i.i - 1) c.index-opened-i.result c.loop-i.image c.take_item_back.new.image place inside c.index-opened-i.is
          (ap chosen (sym c.tran_of_item.ensures) ∙ sym c.is_unfinished.ensures ∙ c.if-not-is_unfinished.false)
          (sym c.holds_written.ensures ∙ c.if-not-holds_written.false) c.in_ok-take_item_back.ensures;
    }
