use Rattle.std.proofs.Common.{ap, ◌∙◌, arith}
use Rattle.spec_file.specs.declared.header.Header.{Header}
use Rattle.heap_page.proofs.KeyRows.{payloads_step, payloads_end}
use Rattle.heap_page.proofs.payloads.add_payloads.Goals as goal

pub loop-i-preserved : goal.loop-i-preserved
loop-i-preserved c =
    payloads_step c.args.key c.args.page.now.bytes c.row_at.result.now c.loop-i.i c.args.into.now.items c.loop-i.into.items c.add_payload.new.into.items
    c.in_ok-add_payload.ensures c.row_at.ensures c.loop-i.invariant

pub returns : goal.returns
returns c =
    payloads_end c.args.key c.args.page.now.bytes c.loop-i.i c.args.into.now.items c.loop-i.into.items
    (omega (arith, c.loop-i-test.false, c.loop-i.auto.i-end) ∙ ap (λ (h : Header). h.slots) c.read_header-i-end.ensures) c.loop-i.invariant
