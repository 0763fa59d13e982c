use Rattle.std.proofs.Common.{ℕ, ◌-◌, ◌/◌, List}
use Rattle.std.specs.List.{range_with_len}
use Rattle.spec_file.specs.declared.data.Resource.TheVariants as resource
use Rattle.spec_words.specs.NetChanges.{extents_of}
use Rattle.spec_words.specs.Words.{unless_held, for_each}
use Rattle.db_locks.proofs.LoopLaws.{Leads}
use Rattle.db_alloc.specs.Results.{alloc_stop}
use Rattle.db_alloc.proofs.single.no_page.Given as goal

abbrev pub invariant-loop-e : goal.invariant-loop-e
invariant-loop-e g l =
    let a = g.P.PlanPages.state l.v in
    let each = λ (e : ℕ). unless_held (resource.Extent (record { 0 = e })) in
    (looked : List ℕ) → Leads alloc_stop looked a a (for_each each (extents_of a.view.shape)) (for_each each (range_with_len l.e (a.view.shape.pages / 8 - l.e)))
