-- What clauses see of a turn and of its seats.
use Rattle.std.specs.Prelude.{◌≡◌, ◌+◌, ℕ, List, length, nat_lt, if◌then◌else◌}
use Rattle.atomic_table.specs.Seated.{TableId}

-- which turn it is, and how many parts it began with
pub record TurnModel : Type 0 where
  pub id : TableId
  pub parts : ℕ

-- a seat: its turn, its parts, and the list that it has seen, of which every later state's list is a continuation
pub record SeatModel (E : Type 0) : Type 0 where
  pub turn : TableId
  pub parts : ℕ
  pub seen : List E

-- the seat is one of this turn
abbrev pub IsOf : {E : Type 0} → TurnModel → SeatModel E → Type 0
IsOf turn seat = seat.turn ≡ turn.id

-- of two lists the longer
abbrev pub longer : {E : Type 0} → List E → List E → List E
longer xs ys = if nat_lt (length xs) (length ys) then ys else xs

-- a seat with all parts of the turn, which has seen the list
abbrev pub first_seat : {E : Type 0} → TurnModel → List E → SeatModel E
first_seat turn seen = record { turn = turn.id; parts = turn.parts; seen = seen }

-- the seat once it has seen the list
abbrev pub with_seen : {E : Type 0} → SeatModel E → List E → SeatModel E
with_seen seat seen = record seat { seen = seen }

-- the seat once it has the parts of another, and has seen the longer of both lists
abbrev pub with_seat : {E : Type 0} → SeatModel E → SeatModel E → SeatModel E
with_seat seat other = record seat { parts = seat.parts + other.parts; seen = longer seat.seen other.seen }
