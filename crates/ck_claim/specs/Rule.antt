-- The rule of a claim counter, and its three kinds of step. Its one word is the number that is drawn next.
use Rattle.std.specs.Prelude.{◌≡◌, ◌≤◌, ◌<◌, ◌+◌, ◌-◌, ◌^◌, ◌==◌, ◌||◌, ℕ, Bool, true, false, List, [], ◌∷◌, ◌++◌, min, length, slice_index, sum_by, count_by, nat_lt, if◌then◌else◌}
use mathlib.Core.Option.{some}
use lib.ListN.{get_elem?}
use Rattle.atomic_table.specs.Table.{State, Me, Step}
use Rattle.ck_claim.specs.declared.rule.SeatView.{SeatView}
use Rattle.ck_claim.specs.declared.rule.Bounds.{Bounds}

-- what a seat knows
abbrev pub seat_view : ℕ → ℕ → List ℕ → Bool → SeatView
seat_view count parts draws knows_all = record { count = count; parts = parts; draws = draws; knows_all = knows_all }

-- the view of a seat that another took in
abbrev pub spent : SeatView
spent = seat_view 0 0 [] false

-- how often x stands in the list
abbrev pub times : ℕ → List ℕ → ℕ
times x xs = count_by (λ y. x == y) xs

-- 1 for a number below n, and else 0
abbrev pub once_below : ℕ → ℕ → ℕ
once_below x n = if nat_lt x n then 1 else 0

abbrev pub parts_of : SeatView → ℕ
parts_of v = v.parts

-- the parts of a seat that knows that all are drawn
abbrev pub knowing_parts : SeatView → ℕ
knowing_parts v = if v.knows_all then v.parts else 0

abbrev pub times_drawn : ℕ → SeatView → ℕ
times_drawn x v = times x v.draws

-- what the rule says of each view, where n is drawn next
pub record Fits (k : Bounds) (n : ℕ) (v : SeatView) : Type 0 where
  -- a view is spent exactly where it has no part
  pub spent : v.parts ≡ 0 → v ≡ spent
  -- a seat with a part knows how many numbers there are
  pub count : 0 < v.parts → v.count ≡ k.count
  -- a seat that knows that all are drawn is right
  pub knows_all : v.knows_all ≡ true → k.count ≤ n

-- the next number and the views fit together
pub record Fitting (k : Bounds) (n : ℕ) (views : List SeatView) : Type 0 where
  pub small_count : k.count < 2 ^ 32
  pub small_parts : k.parts < 2 ^ 32
  -- the parts of all views add up to the parts of `begin`
  pub parts : sum_by parts_of views ≡ k.parts
  -- each number below the next stands in the draws of one view, once, unless there is no such number; and no other number stands in any
  pub draws : (x : ℕ) → sum_by (times_drawn x) views ≡ once_below x (min n k.count)
  -- the word is never above the count plus the parts of the seats that know that all are drawn
  pub most : n ≤ k.count + sum_by knowing_parts views
  pub each : (i : ℕ) (v : SeatView) → get_elem? views i ≡ some v → Fits k n v

-- the rule
pub record IsKept (k : Bounds) (s : State (Unit {0}) SeatView) : Type 0 where
  pub words : length s.words ≡ 1
  pub fitting : Fitting k (slice_index s.words 0) s.views

-- the view after a draw that found n
abbrev pub drew : SeatView → ℕ → SeatView
drew v n = if nat_lt n v.count then seat_view v.count v.parts (v.draws ++ n ∷ []) v.knows_all else seat_view v.count v.parts v.draws true

-- draw: n is drawn where there is such a number, and else the seat knows that all are drawn
abbrev pub Drew : Step (Unit {0}) → Me (Unit {0}) SeatView → ℕ → Me (Unit {0}) SeatView → Type 0
Drew s v n w = w ≡ (drew v.0 n, v.1)

-- split: the old seat gives one part, and keeps its draws
abbrev pub with_one_less : SeatView → SeatView
with_one_less v = seat_view v.count (v.parts - 1) v.draws v.knows_all

-- split: the new seat has the part, and knows that all are drawn where the old one does
abbrev pub with_one_part : SeatView → SeatView
with_one_part v = seat_view v.count 1 [] v.knows_all

-- join: the seat has the parts and the draws of both, and knows what either knew
abbrev pub joined : SeatView → SeatView → SeatView
joined v w = seat_view v.count (v.parts + w.parts) (v.draws ++ w.draws) (v.knows_all || w.knows_all)

-- join ends by a look at the word, which tells that the parts fit 32 bits
abbrev pub Looked : Step (Unit {0}) → Me (Unit {0}) SeatView → ℕ → Me (Unit {0}) SeatView → Type 0
Looked s v n w = (w ≡ v) × (v.0.parts < 2 ^ 32)
