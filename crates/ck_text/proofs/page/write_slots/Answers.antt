use Rattle.std.proofs.Common.{◌∙◌, false, arith}
use Rattle.std.specs.List.{range_with_len}
use Rattle.spec_script.specs.PageText.{slot_line}
use Rattle.std.proofs.lemmas.List.FromFn.{length-range_with_len}
use Rattle.vol_dev.proofs.Output.{wrote_none, wrote_more, wrote_part, wrote_all, wrote_failed}
use Rattle.ck_text.proofs.Ranges.{in_range, at_range}
use Rattle.ck_text.proofs.page.write_slots.Goals as goal

pub loop-i-init : goal.loop-i-init
loop-i-init g c = wrote_none _ _

pub returns-in_err-write_line : goal.returns-in_err-write_line
returns-in_err-write_line g c =
    let f = slot_line c.args.page.now.bytes in
    wrote_failed _ _ _ _ _ _ c.from_residual.ensures.1
    (wrote_part _ f (range_with_len 0 c.args.count) c.loop-i.i 0 _ _ _ (in_range c.args.count c.loop-i.i c.loop-i-test.true) c.loop-i.invariant c.slot_text.result.bytes
    (c.slot_text.ensures ∙ at_range f c.args.count c.loop-i.i c.loop-i-test.true) c.in_err-write_line.ensures)

pub loop-i-preserved : goal.loop-i-preserved
loop-i-preserved g c =
    let f = slot_line c.args.page.now.bytes in
    wrote_more _ f (range_with_len 0 c.args.count) c.loop-i.i 0 _ _ _ (in_range c.args.count c.loop-i.i c.loop-i-test.true) c.loop-i.invariant c.slot_text.result.bytes false
    (c.slot_text.ensures ∙ at_range f c.args.count c.loop-i.i c.loop-i-test.true) c.in_ok-write_line.ensures

pub returns : goal.returns
returns g c =
    wrote_all _ (slot_line c.args.page.now.bytes) (range_with_len 0 c.args.count) _ _ _ (omega (arith, length-range_with_len 0 c.args.count, c.loop-i-test.false)) c.loop-i.invariant
