use Rattle.std.proofs.Common.{rules}
use Rattle.std.proofs.lemmas.List.Sorted.{answers_always}
use Rattle.ck_facts.proofs.Places.{found}
use Rattle.ck_facts.proofs.map.AllocMap.place_of.Goals as goal

pub returns-clause-place : goal.returns-clause-place
returns-clause-place c = λ by.
    let facts = c.binary_search_by_key.ensures in
    rw c.ok.ensures.value (found c.args.self.now c.args.object.0 c.binary_search_by_key.result by (rw c.deref.ensures.value at facts.bound)
    (rw c.deref.ensures.value at (facts.position (λ row. row.id.0) (answers_always _ _ _ (λ f a r g called. search rules)))))
