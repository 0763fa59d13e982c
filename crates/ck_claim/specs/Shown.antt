-- What clauses see of a claim counter and of its seats.
use Rattle.std.specs.Prelude.{◌≡◌, ◌+◌, ◌||◌, ℕ, Bool, true, false, List, [], ◌∷◌, ◌++◌}
use Rattle.std.specs.List.{range_with_len}
use Rattle.std.specs.List.Sorted.{IsPermutation}
use Rattle.atomic_table.specs.Seated.{TableId}

-- which counter it is, how many numbers it has, and how many parts it began with
pub record ClaimsModel : Type 0 where
  pub id : TableId
  pub count : ℕ
  pub parts : ℕ

-- a seat: its counter, its parts, the numbers that it drew, first to last, and whether it knows that all are drawn
pub record ClaimSeatModel : Type 0 where
  pub claims : TableId
  pub count : ℕ
  pub parts : ℕ
  pub draws : List ℕ
  pub knows_all : Bool

-- the seat is one of these claims
abbrev pub IsOf : ClaimsModel → ClaimSeatModel → Type 0
IsOf claims seat = (seat.claims ≡ claims.id) × (seat.count ≡ claims.count)

-- a seat with all parts of these claims, which has drawn nothing
abbrev pub first_seat : ClaimsModel → ClaimSeatModel
first_seat claims = record { claims = claims.id; count = claims.count; parts = claims.parts; draws = []; knows_all = false }

-- the seat after one more draw
abbrev pub with_draw : ClaimSeatModel → ℕ → ClaimSeatModel
with_draw seat n = record seat { draws = seat.draws ++ n ∷ [] }

-- the seat once it knows that all are drawn
abbrev pub with_all_known : ClaimSeatModel → ClaimSeatModel
with_all_known seat = record seat { knows_all = true }

-- the seat once it has the parts and the draws of another, and knows what either knew
abbrev pub with_seat : ClaimSeatModel → ClaimSeatModel → ClaimSeatModel
with_seat seat other = record seat { parts = seat.parts + other.parts; draws = seat.draws ++ other.draws; knows_all = seat.knows_all || other.knows_all }

-- the numbers below n, in order
abbrev pub numbers_below : ℕ → List ℕ
numbers_below n = range_with_len 0 n

-- the list has each number below n once, in some order, and no other number
abbrev pub IsEachBelow : ℕ → List ℕ → Type 0
IsEachBelow n xs = IsPermutation (numbers_below n) xs
