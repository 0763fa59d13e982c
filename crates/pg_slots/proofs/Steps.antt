-- A walk through the rows in order.
use Rattle.std.proofs.Common.{◌≡◌, ℕ, ◌+◌, ◌<◌, ◌≤◌, List, arith, ap, sym, subst, ◌∙◌, inl, inr}
use Rattle.std.proofs.lemmas.Bool.{cases_order}
use Rattle.spec_rows.specs.declared.fault.SlotFault.{SlotFault}
use Rattle.spec_rows.specs.Slots.{slot_count, slot_at, row_end}
use Rattle.spec_rows.specs.PageTest.{fault, IsFirstOverlap, OrderPasses}
use Rattle.spec_rows.specs.Order.{IsInOrder}
use Rattle.spec_rows.proofs.OrderLaws.{overlap_in_order, no_overlap_in_order}

-- before place k no row begins before the end of the one before
abbrev pub AreApartBelow : List ℕ → (ℕ → ℕ) → ℕ → Type 0
AreApartBelow bytes at k = (m : ℕ) → m + 1 < k → row_end bytes (at m) ≤ slot_at bytes (at (m + 1))

pub one_more : (bytes : List ℕ) (at : ℕ → ℕ) (j k : ℕ) → j + 1 ≡ k → AreApartBelow bytes at k → row_end bytes (at j) ≤ slot_at bytes (at k)
    → AreApartBelow bytes at (k + 1)
one_more bytes at j k next apart here m less =
    let last : row_end bytes (at j) ≤ slot_at bytes (at (j + 1)) = subst (λ (s : ℕ). row_end bytes (at j) ≤ slot_at bytes (at s)) (sym next) here in
    elim (cases_order m j) [
      | inl same ↦ subst (λ (s : ℕ). row_end bytes (at s) ≤ slot_at bytes (at (s + 1))) (sym same) last
      | inr (inl below) ↦ apart m (omega (arith, below))
      | inr (inr above) ↦ absurd (omega (arith, above))
    ]

pub overlap_at : (bytes : List ℕ) (at : ℕ → ℕ) → IsInOrder bytes at → (j k : ℕ) → j + 1 ≡ k → k < slot_count bytes
    → AreApartBelow bytes at k → (x : SlotFault)
    → (slot_at bytes (at k) < row_end bytes (at j)) × (x ≡ fault 8942 (at k) (slot_at bytes (at k)))
    → IsFirstOverlap bytes x
overlap_at bytes at ordered j k next within apart x found =
    let overlaps : slot_at bytes (at (j + 1)) < row_end bytes (at j) = subst (λ (s : ℕ). slot_at bytes (at s) < row_end bytes (at j)) (sym next) found.0 in
    let same : fault 8942 (at (j + 1)) (slot_at bytes (at (j + 1))) ≡ x = ap (λ (s : ℕ). fault 8942 (at s) (slot_at bytes (at s))) next ∙ sym found.1 in
    subst (IsFirstOverlap bytes) same (overlap_in_order bytes at ordered j (omega arith) overlaps (λ m less. apart m (omega arith)))

pub none_overlaps : (bytes : List ℕ) (at : ℕ → ℕ) → IsInOrder bytes at → (k : ℕ) → slot_count bytes ≤ k → AreApartBelow bytes at k → OrderPasses bytes
none_overlaps bytes at ordered k all apart = no_overlap_in_order bytes at ordered (λ m less. apart m (omega arith))
