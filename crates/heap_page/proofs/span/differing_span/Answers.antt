use Rattle.std.proofs.Common.{◌≡◌, ◌+◌, Some, Option, ap, sym, subst, ◌∙◌}
use Rattle.std.specs.Prelude.{IfSome, slice_index}
use Rattle.std.proofs.lemmas.Bool.{eq-eqb, ne_eqb}
use Rattle.heap_page.specs.declared.span.Span.{Span}
use Rattle.heap_page.specs.Spans.{EndsBy, span_of, wider}
use Rattle.heap_page.proofs.Widened.{differing_none, span_grows, span_stays, wider_ends, ends_later}
use Rattle.heap_page.proofs.span.differing_span.Goals.{then-old-at, else-old-at}
use Rattle.heap_page.proofs.span.differing_span.Goals as goal

pub loop-at-init : goal.loop-at-init
loop-at-init c = record { span = sym (ap span_of (differing_none c.args.old.now.bytes c.args.new.now.bytes c.args.lo)); within = tt }

pub loop-at-preserved : goal.loop-at-preserved
loop-at-preserved c =
    let old = c.args.old.now.bytes in
    let new = c.args.new.now.bytes in
    let lo = c.args.lo in
    let at = c.loop-at.at in
    let span = c.loop-at.span in
    let said = c.loop-at.invariant.span in
    let ends = c.loop-at.invariant.within in
    let order = c.loop-at.auto.at in
    elim c.if-old-at.branch [
      | then-old-at w ↦
          let wide : c.if-old-at.span ≡ Some (wider span at) = w.span-is ∙ ap (λ (s : Span). Some s) w.widened.ensures in
          record {
            span = wide ∙ ap (λ (s : Option Span). Some (wider s at)) said
                ∙ span_grows old new lo at order (ne_eqb (slice_index old at) (slice_index new at) w.if-old-at.true);
            within = subst (λ (s : Option Span). IfSome s (EndsBy (at + 1))) (sym wide) (wider_ends span at ends);
          }
      | else-old-at w ↦ record {
        span = w.span-is ∙ said ∙ span_stays old new lo at order (eq-eqb (slice_index old at) (slice_index new at) w.if-old-at.false);
        within = subst (λ (s : Option Span). IfSome s (EndsBy (at + 1))) (sym w.span-is) (ends_later span at ends);
      }
    ]
