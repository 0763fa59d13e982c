-- No two rows of a page share a byte.
use Rattle.std.specs.Prelude.{◌≢◌, ◌⊎◌, ℕ, zero, suc, ◌+◌, ◌<◌, ◌≤◌, List}
use Rattle.std.proofs.Common.{arith, ap, inl, inr}
use Rattle.std.proofs.lemmas.Bool.{cases_order, cases_lt}
use Rattle.spec_rows.specs.Slots.{slot_limit, slot_count, slot_at, row_size, row_end}
use Rattle.spec_rows.specs.PageTest.{OrderPasses}
use Rattle.spec_rows.specs.Order.{order_key}
use Rattle.spec_rows.proofs.OrderLaws.{key_from_order, order_from_key}

-- of two rows one ends before the other begins
abbrev pub AreApart : List ℕ → Type 0
AreApart bytes = (i j : ℕ) → i < slot_count bytes → j < slot_count bytes → i ≢ j
    → (row_end bytes i ≤ slot_at bytes j) ⊎ (row_end bytes j ≤ slot_at bytes i)

-- some slot below n has a key between, or none
abbrev Between : (ℕ → ℕ) → ℕ → ℕ → ℕ → Type 0
Between key low high n = (k : ℕ) × (k < n) × (low < key k) × (key k < high)

find_between : (key : ℕ → ℕ) (low high n : ℕ) → Between key low high n ⊎ (Between key low high n → ⊥)
find_between key low high zero = inr (λ found. omega (arith, found.1))
find_between key low high (suc n) = elim (find_between key low high n) [
  | inl found ↦ inl (found.0, omega (arith, found.1), found.2, found.3)
  | inr none ↦ elim (cases_lt low (key n)) [
    | inr under ↦ inr (λ found. elim (cases_order found.0 n) [
      | inl same ↦ omega (arith, found.2, under, ap key same)
      | inr (inl below) ↦ none (found.0, below, found.2, found.3)
      | inr (inr above) ↦ omega (arith, found.1, above)
    ])
    | inl over ↦ elim (cases_lt (key n) high) [
      | inl inside ↦ inl (n, omega arith, over, inside)
      | inr above ↦ inr (λ found. elim (cases_order found.0 n) [
        | inl same ↦ omega (arith, found.3, above, ap key same)
        | inr (inl below) ↦ none (found.0, below, found.2, found.3)
        | inr (inr over) ↦ omega (arith, found.1, over)
      ])
    ]
  ]
]

-- a row that comes before another ends before it begins
ends_before : (bytes : List ℕ) (fuel i j : ℕ) → slot_count bytes ≤ slot_limit → OrderPasses bytes
    → i < slot_count bytes → j < slot_count bytes → order_key bytes i < order_key bytes j → order_key bytes j < order_key bytes i + fuel
    → row_end bytes i ≤ slot_at bytes j
ends_before bytes zero i j few order i_in j_in less near = absurd (omega arith)
ends_before bytes (suc fuel) i j few order i_in j_in less near =
    elim (find_between (order_key bytes) (order_key bytes i) (order_key bytes j) (slot_count bytes)) [
      | inl found ↦
          let k = found.0 in
          let first = ends_before bytes fuel i k few order i_in found.1 found.2 (omega (arith, found.3)) in
          let second = ends_before bytes fuel k j few order found.1 j_in found.3 (omega (arith, found.2)) in
          omega (arith, first, second)
      | inr none ↦ order i j (record {
        first = i_in;
        second = j_in;
        before = order_from_key bytes i j (omega arith) (omega arith) less;
        none_between = λ k k_in after before.
            none (k, k_in, key_from_order bytes i k (omega arith) (omega arith) after, key_from_order bytes k j (omega arith) (omega arith) before);
      })
    ]

pub apart_from_order : (bytes : List ℕ) → slot_count bytes ≤ slot_limit → OrderPasses bytes → AreApart bytes
apart_from_order bytes few order i j i_in j_in other = elim (cases_order (order_key bytes i) (order_key bytes j)) [
  | inl same ↦ absurd (other (omega (arith, same)))
  | inr (inl less) ↦ inl (ends_before bytes (order_key bytes j + 1) i j few order i_in j_in less (omega arith))
  | inr (inr more) ↦ inr (ends_before bytes (order_key bytes i + 1) j i few order j_in i_in more (omega arith))
]

-- a row that comes before another doesn't begin behind it
pub order_from_apart : (bytes : List ℕ) → ((i : ℕ) → i < slot_count bytes → 0 < row_size bytes i) → AreApart bytes → OrderPasses bytes
order_from_apart bytes some apart i j next =
    let positive = some j next.second in
    elim (cases_order i j) [
      | inl same ↦ absurd (elim next.before [
        | inl less ↦ omega (arith, less, ap (slot_at bytes) same)
        | inr tie ↦ omega (arith, tie.1, same)
      ])
      | inr (inl below) ↦ elim (apart i j next.first next.second (omega (arith, below))) [
        | inl ends ↦ ends
        | inr back ↦ absurd (elim next.before [
          | inl less ↦ omega (arith, less, back, positive)
          | inr tie ↦ omega (arith, tie.0, back, positive)
        ])
      ]
      | inr (inr above) ↦ elim (apart i j next.first next.second (omega (arith, above))) [
        | inl ends ↦ ends
        | inr back ↦ absurd (elim next.before [
          | inl less ↦ omega (arith, less, back, positive)
          | inr tie ↦ omega (arith, tie.0, back, positive)
        ])
      ]
    ]
