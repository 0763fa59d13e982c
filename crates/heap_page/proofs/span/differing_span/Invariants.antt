use Rattle.std.proofs.Common.{◌≡◌}
use Rattle.std.specs.Prelude.{IfSome}
use Rattle.spec_plan.specs.Changes.{differing}
use Rattle.heap_page.specs.Spans.{EndsBy, span_of}
use Rattle.heap_page.proofs.span.differing_span.Given as goal

abbrev pub invariant-loop-at : goal.invariant-loop-at
invariant-loop-at l = record { span : l.span ≡ span_of (differing l.old.bytes l.new.bytes l.lo l.at); within : IfSome l.span (EndsBy l.at) }
