-- The views after one changes: their parts, each fact of a view, and who holds which ticket.
use Rattle.std.proofs.Common.{◌≡◌, ◌≢◌, ◌≤◌, ◌+◌, ℕ, zero, suc, List, [], ◌∷◌, ◌++◌, set, sym, refl, ap, ◌∙◌, subst, ⊎_elim, arith}
use Rattle.std.specs.Prelude.{Some, None}
use Rattle.std.specs.List.{sum_by}
use Rattle.std.proofs.lemmas.List.Sums.{sum_by-cons}
use mathlib.Core.Logic.{dite}
use mathlib.Core.Option.{some, some-ne-none, some-injective}
use native.Mathlib.Decide.{ℕ_discrete}
use lib.ListN.{get_elem?}
use Rattle.atomic_table.proofs.Lists.{at_set, at_snoc, at_longer, set_here, set_else}
use Rattle.turn_seat.specs.declared.rule.SeatView.{SeatView}
use Rattle.turn_seat.specs.Rule.{parts_of, Holds}
use Rattle.turn_seat.proofs.Words.{at_bound, none_some}

module _ {E : Type 0} where
  pub parts-set : (views : List (SeatView E)) (i : ℕ) (v w : SeatView E) → get_elem? views i ≡ some v → sum_by parts_of (set views i w) + v.parts ≡ sum_by parts_of views + w.parts
  parts-set [] i v w at = absurd (some-ne-none v (sym at))
  parts-set (x ∷ xs) zero v w at = let same : x.parts ≡ v.parts = ap parts_of (some-injective x v at) in let a = sum_by-cons parts_of x xs in let b = sum_by-cons parts_of w xs in omega arith
  parts-set (x ∷ xs) (suc i) v w at = let r = parts-set xs i v w at in let a = sum_by-cons parts_of x xs in let b = sum_by-cons parts_of x (set xs i w) in omega arith

  pub parts-within : (views : List (SeatView E)) (i : ℕ) (v : SeatView E) → get_elem? views i ≡ some v → v.parts ≤ sum_by parts_of views
  parts-within [] i v at = absurd (some-ne-none v (sym at))
  parts-within (x ∷ xs) zero v at = let same : x.parts ≡ v.parts = ap parts_of (some-injective x v at) in let a = sum_by-cons parts_of x xs in omega arith
  parts-within (x ∷ xs) (suc i) v at = let r = parts-within xs i v at in let a = sum_by-cons parts_of x xs in omega arith

  -- where one seat has all parts, the others have none
  pub others_none : (views : List (SeatView E)) (i : ℕ) (v : SeatView E) → get_elem? views i ≡ some v → sum_by parts_of views ≡ v.parts → (j : ℕ) (u : SeatView E) → j ≢ i → get_elem? views j ≡ some u → u.parts ≡ 0
  others_none [] i v at all j u apart there = absurd (some-ne-none v (sym at))
  others_none (x ∷ xs) zero v at all zero u apart there = absurd (apart refl)
  others_none (x ∷ xs) zero v at all (suc j) u apart there =
      let same : x.parts ≡ v.parts = ap parts_of (some-injective x v at) in let a = sum_by-cons parts_of x xs in let r = parts-within xs j u there in omega arith
  others_none (x ∷ xs) (suc i) v at all zero u apart there =
      let same : x.parts ≡ u.parts = ap parts_of (some-injective x u there) in let a = sum_by-cons parts_of x xs in let r = parts-within xs i v at in omega arith
  others_none (x ∷ xs) (suc i) v at all (suc j) u apart there =
      let a = sum_by-cons parts_of x xs in let r = parts-within xs i v at in others_none xs i v at (omega arith) j u (λ e. apart (ap suc e)) there

  -- a fact of each view, after one changes
  pub each-set : (Q : ℕ → SeatView E → Type 0) (views : List (SeatView E)) (id : ℕ) (w : SeatView E) → ((j : ℕ) (u : SeatView E) → j ≢ id → get_elem? views j ≡ some u → Q j u) → Q id w
      → (j : ℕ) (u : SeatView E) → get_elem? (set views id w) j ≡ some u → Q j u
  each-set Q views id w others mine j u e = ⊎_elim
      (λ (x : (j ≡ id) × (w ≡ u)). subst (λ (y : ℕ × SeatView E). Q y.0 y.1) (λ i. (sym x.0 i, x.1 i)) mine)
      (λ (x : (j ≢ id) × (get_elem? views j ≡ some u)). others j u x.0 x.1)
      (at_set views id j w u e)

  pub same_view : (views : List (SeatView E)) (i j : ℕ) (v u : SeatView E) → get_elem? views i ≡ some v → get_elem? views j ≡ some u → j ≡ i → u ≡ v
  same_view views i j v u at there e = some-injective u v (sym there ∙ (ap (λ k. get_elem? views k) e ∙ at))

  -- who holds a ticket still does, where the seat that changes keeps it
  pub held-set : (views : List (SeatView E)) (id k : ℕ) (v w : SeatView E) → get_elem? views id ≡ some v → (v.ticket ≡ Some k → w.ticket ≡ Some k) → (i : ℕ) × Holds views i k → (i : ℕ) × Holds (set views id w) i k
  held-set views id k v w at keep h = dite (ℕ_discrete h.0 id)
      (λ (e : h.0 ≡ id). (id, (w, set_here views id w (at_bound views id v at), keep (ap (λ (p : SeatView E). p.ticket) (sym (same_view views id h.0 v h.1.0 at h.1.1 e)) ∙ h.1.2))))
      (λ (ne : h.0 ≢ id). (h.0, (h.1.0, set_else views id h.0 w ne ∙ h.1.1, h.1.2)))

  -- who holds a ticket held it before, where the seat that changes got none
  pub held_before : (views : List (SeatView E)) (id k : ℕ) (v w : SeatView E) → get_elem? views id ≡ some v → (w.ticket ≡ Some k → v.ticket ≡ Some k) → (i : ℕ) → Holds (set views id w) i k → Holds views i k
  held_before views id k v w at kept i h = ⊎_elim
      (λ (x : (i ≡ id) × (w ≡ h.0)). (v, ap (λ j. get_elem? views j) x.0 ∙ at, kept (ap (λ (p : SeatView E). p.ticket) x.1 ∙ h.2)))
      (λ (x : (i ≢ id) × (get_elem? views i ≡ some h.0)). (h.0, x.1, h.2))
      (at_set views id i w h.0 h.1)

  -- each ticket still has one holder at most
  pub once-set : (views : List (SeatView E)) (id : ℕ) (v w : SeatView E) → get_elem? views id ≡ some v → ((k : ℕ) → w.ticket ≡ Some k → v.ticket ≡ Some k)
      → ((k i j : ℕ) → Holds views i k → Holds views j k → i ≡ j) → (k i j : ℕ) → Holds (set views id w) i k → Holds (set views id w) j k → i ≡ j
  once-set views id v w at kept once k i j a b = once k i j (held_before views id k v w at (kept k) i a) (held_before views id k v w at (kept k) j b)

  -- a new view with no ticket changes no holder
  pub held-snoc : (views : List (SeatView E)) (w : SeatView E) (k : ℕ) → (i : ℕ) × Holds views i k → (i : ℕ) × Holds (views ++ w ∷ []) i k
  held-snoc views w k h = (h.0, (h.1.0, at_longer views (w ∷ []) h.0 h.1.0 h.1.1, h.1.2))

  holds_before : (views : List (SeatView E)) (w : SeatView E) → w.ticket ≡ None → (k i : ℕ) → Holds (views ++ w ∷ []) i k → Holds views i k
  holds_before views w none k i h = ⊎_elim
      (λ was. (h.0, was, h.2))
      (λ (is : w ≡ h.0). none_some w.ticket k none (ap (λ (p : SeatView E). p.ticket) is ∙ h.2))
      (at_snoc views w h.0 i h.1)

  pub once-snoc : (views : List (SeatView E)) (w : SeatView E) → w.ticket ≡ None → ((k i j : ℕ) → Holds views i k → Holds views j k → i ≡ j)
      → (k i j : ℕ) → Holds (views ++ w ∷ []) i k → Holds (views ++ w ∷ []) j k → i ≡ j
  once-snoc views w none once k i j a b = once k i j (holds_before views w none k i a) (holds_before views w none k j b)
