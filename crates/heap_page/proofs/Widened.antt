-- A span grows with each offset at which the pages differ.
use Rattle.std.proofs.Common.{◌≡◌, ℕ, ◌+◌, ◌-◌, ◌≤◌, Bool, true, false, not, cond, List, [], ◌∷◌, ◌++◌, Option, Some, None, refl, ap, sym, ◌∙◌, arith}
use Rattle.std.specs.Prelude.{◌==◌, filter, slice_index, IfSome}
use Rattle.std.specs.List.{range_with_len}
use Rattle.std.proofs.lemmas.List.{map-id, append-nil}
use Rattle.std.proofs.lemmas.List.FromFn.{filter_of_map_range_with_len_more}
use Rattle.spec_plan.specs.Changes.{differing, last_of}
use Rattle.heap_page.specs.declared.span.Span.{Span}
use Rattle.heap_page.specs.Spans.{span_of, wider, EndsBy}

pub differing_none : (old new : List ℕ) (lo : ℕ) → differing old new lo lo ≡ []
unfolding differing
differing_none old new lo =
    let none : lo - lo ≡ 0 = omega arith in
    ap (λ (n : ℕ). filter (λ i. not (slice_index old i == slice_index new i)) (range_with_len lo n)) none

differing_more : (old new : List ℕ) (lo at : ℕ) → lo ≤ at →
    differing old new lo (at + 1) ≡ differing old new lo at ++ cond (not (slice_index old at == slice_index new at)) (at ∷ []) []
unfolding differing
differing_more old new lo at order =
    let f : ℕ → Bool = λ i. not (slice_index old i == slice_index new i) in
    let n = at - lo in
    let next : at + 1 - lo ≡ n + 1 = omega (arith, order) in
    ap (λ (k : ℕ). filter f (range_with_len lo k)) next ∙ ap (filter f) (sym (map-id (range_with_len lo (n + 1))))
    ∙ filter_of_map_range_with_len_more f (λ (i : ℕ). i) lo n at (omega (arith, order))
    ∙ ap (λ (l : List ℕ). filter f l ++ cond (f at) (at ∷ []) []) (map-id (range_with_len lo n))

last_of_more : (i at : ℕ) (is : List ℕ) → last_of i (is ++ at ∷ []) ≡ at
last_of_more i at [] = refl
last_of_more i at (j ∷ js) = last_of_more j at js

span_more : (ds : List ℕ) (at : ℕ) → span_of (ds ++ at ∷ []) ≡ Some (wider (span_of ds) at)
span_more [] at = refl
span_more (i ∷ is) at = ap (λ (n : ℕ). Some (record { from = i; to = n + 1 })) (last_of_more i at is)

pub span_grows : (old new : List ℕ) (lo at : ℕ) → lo ≤ at → (slice_index old at == slice_index new at) ≡ false →
    Some (wider (span_of (differing old new lo at)) at) ≡ span_of (differing old new lo (at + 1))
span_grows old new lo at order other =
    sym (span_more (differing old new lo at) at)
    ∙ sym (ap span_of (differing_more old new lo at order ∙ ap (λ (b : Bool). differing old new lo at ++ cond (not b) (at ∷ []) []) other))

pub span_stays : (old new : List ℕ) (lo at : ℕ) → lo ≤ at → (slice_index old at == slice_index new at) ≡ true →
    span_of (differing old new lo at) ≡ span_of (differing old new lo (at + 1))
span_stays old new lo at order same =
    sym (ap span_of (differing_more old new lo at order ∙ ap (λ (b : Bool). differing old new lo at ++ cond (not b) (at ∷ []) []) same ∙ append-nil (differing old new lo at)))

pub wider_ends : (span : Option Span) (at : ℕ) → IfSome span (EndsBy at) → EndsBy (at + 1) (wider span at)
wider_ends None at within = (omega arith, omega arith)
wider_ends (Some span) at within = (let first = within.0 in let last = within.1 in omega (arith, first, last), omega arith)

pub ends_later : (span : Option Span) (at : ℕ) → IfSome span (EndsBy at) → IfSome span (EndsBy (at + 1))
ends_later None at within = within
ends_later (Some span) at within = (within.0, let last = within.1 in omega (arith, last))
