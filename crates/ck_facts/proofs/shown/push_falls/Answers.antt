use Rattle.std.proofs.Common.{◌≡◌, arith, subst, ap, ◌∙◌, ◌-◌}
use Rattle.spec_file.specs.declared.header.Header.{Header}
use Rattle.spec_rows.specs.Slots.{slot_count}
use Rattle.ck_error.specs.Gathered.{Adds, Below}
use Rattle.ck_facts.specs.Tested.{page_bytes, FallsAt}
use Rattle.ck_facts.proofs.Orders.{falls_more, slot_back}
use Rattle.ck_facts.proofs.shown.push_falls.Goals as goal

pub loop-slot-preserved : goal.loop-slot-preserved
loop-slot-preserved c =
    let page = c.args.page.now in
    record {
      low = rw (slot_back c.loop-slot.slot) c.key-key.ensures;
      grown = falls_more page.object.0 page.number.0 c.loop-slot.slot c.loop-slot.low c.key-key.result (page_bytes page) _ _ _ c.order_error.result
          (c.loop-slot.slot - 1) (omega (arith, c.loop-slot.auto.slot)) c.loop-slot.invariant.low c.key-key.ensures c.order_error.ensures
          c.loop-slot.invariant.grown c.in_ok-push_if.ensures;
    }

pub returns : goal.returns
returns c =
    let page = c.args.page.now in
    let slots : page.header.slots ≡ slot_count (page_bytes page) = ap (λ (h : Header). h.slots) page.read in
    let end : c.loop-slot.slot ≡ page.header.slots = omega (arith, c.loop-slot-test.false, c.loop-slot.auto.slot-end, c.if-page-eq0.false) in
    subst (λ n. Adds c.args.errors.now.items c.loop-slot.errors.items (Below n (FallsAt page.object.0 page.number.0 (page_bytes page)))) (end ∙ slots)
    c.loop-slot.invariant.grown
