use Rattle.std.proofs.Common.{ap}
use Rattle.spec_tables.specs.Heads.{head_of, index_row}
use Rattle.ck_facts.specs.declared.facts.Fact.TheVariants.{Seen, Child}
use Rattle.ck_facts.specs.Tested.{page_bytes}
use Rattle.ck_facts.proofs.PageErrors.{facts_more}
use Rattle.ck_facts.proofs.facts.page_facts.Goals as goal

pub loop-slot-preserved : goal.loop-slot-preserved
loop-slot-preserved c =
    let page = c.args.page.now in
    facts_more (λ i. Child (index_row page.object.0 page.number.0 (page_bytes page) i)) (Seen (head_of page.object.0 page.number.0 (page_bytes page)))
    c.loop-slot.slot _ _ _ c.in_ok-push-2.ensures.ok c.loop-slot.invariant (ap Child c.index_row.ensures)
