use Rattle.std.proofs.Common.{◌≡◌, true, refl, sym, ap, ◌∙◌, reverse}
use Rattle.std.proofs.lemmas.Bool.{false≢true}
use Rattle.spec_log.specs.Items.{tran_of}
use Rattle.spec_log.specs.Log.{holds}
use Rattle.plain_log.proofs.Holding.{among_more, free_all}
use Rattle.plain_log.proofs.holders.is_free_for.Goals as goal
use Rattle.plain_log.proofs.holders.is_free_for.Goals.{else-holder-t-via-then-holder-t+else-holds, else-holder-t-via-else-holder-t}

pub loop-item-preserved : goal.loop-item-preserved
loop-item-preserved c =
    let log = reverse c.args.items.now in
    let here : holds log (tran_of c.item-item.result) c.args.r ≡ true → tran_of c.item-item.result ≡ c.args.t = elim c.else-holder-t.branch [
      | else-holder-t-via-then-holder-t+else-holds w ↦
          λ h. absurd (false≢true (sym w.if-holds.false ∙ w.holds.ensures ∙ ap (λ u. holds log u c.args.r) c.tran_of_item-holder.ensures ∙ h))
      | else-holder-t-via-else-holder-t w ↦ λ h. sym c.tran_of_item-holder.ensures ∙ w.if-holder-t.false
    ] in
    among_more log c.args.items.now c.args.t c.args.r c.loop-item.item-index c.item-item.result c.loop-item-test.true c.item-item.is c.loop-item.invariant here

pub returns : goal.returns
returns c = (λ e. free_all c.args.items.now c.args.t c.args.r c.loop-item.item-index c.loop-item-test.false c.loop-item.invariant, λ free. refl)
