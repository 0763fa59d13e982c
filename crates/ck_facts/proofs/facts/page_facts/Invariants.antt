use Rattle.std.proofs.Common.{◌≡◌, ◌∷◌, map}
use Rattle.std.specs.List.{range_with_len}
use Rattle.spec_tables.specs.Heads.{head_of, index_row}
use Rattle.ck_facts.specs.declared.facts.Fact.TheVariants.{Seen, Child}
use Rattle.ck_facts.specs.Tested.{page_bytes}
use Rattle.ck_facts.proofs.facts.page_facts.Given as goal

abbrev pub invariant-loop-slot : goal.invariant-loop-slot
invariant-loop-slot l =
    l.facts.items ≡ Seen (head_of l.page.object.0 l.page.number.0 (page_bytes l.page))
    ∷ map (λ i. Child (index_row l.page.object.0 l.page.number.0 (page_bytes l.page) i)) (range_with_len 0 l.slot)
