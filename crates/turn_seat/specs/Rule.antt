-- The rule of a turn, and its kinds of step: a lock with tickets over one slot, which holds the state.
-- Word 0 is the ticket that is drawn next, word 1 the ticket that is served, and word 2 the count of the list's entries.
use Rattle.std.specs.Prelude.{◌≡◌, ◌≢◌, ◌⊎◌, ◌≤◌, ◌<◌, ◌+◌, ◌-◌, ◌^◌, ℕ, Bool, true, false, List, [], ◌∷◌, length, slice_index, sum_by, Option, Some, None}
use mathlib.Core.Option.{some, none}
use mathlib.Core.List.{IsPrefix}
use lib.ListN.{get_elem?}
use Rattle.atomic_table.specs.Table.{State, Me, Step}
use Rattle.turn_seat.specs.Shown.{longer}
use Rattle.turn_seat.specs.declared.rule.SeatView.{SeatView}

module _ {E : Type 0} where
  -- what a seat knows: its parts, the list that it has seen, the list of a seat that it took in, its ticket, and whether it is called
  abbrev pub seat_view : ℕ → List E → List E → Option ℕ → Bool → SeatView E
  seat_view parts seen told ticket called = record { parts = parts; seen = seen; told = told; ticket = ticket; called = called }

  -- a seat between its turns
  abbrev pub outside : ℕ → List E → SeatView E
  outside parts seen = seat_view parts seen [] None false

  -- a seat that drew the ticket, and waits for it
  abbrev pub waiting : ℕ → List E → ℕ → SeatView E
  waiting parts seen ticket = seat_view parts seen [] (Some ticket) false

  -- a seat whose turn it is
  abbrev pub called : ℕ → List E → ℕ → SeatView E
  called parts seen ticket = seat_view parts seen [] (Some ticket) true

  -- the view of a seat that another took in
  abbrev pub spent : SeatView E
  spent = outside 0 []

  abbrev pub parts_of : SeatView E → ℕ
  parts_of v = v.parts

  -- the seat at id has the ticket k
  abbrev pub Holds : List (SeatView E) → ℕ → ℕ → Type 0
  Holds views id k = (v : SeatView E) × (get_elem? views id ≡ some v) × (v.ticket ≡ Some k)

  -- what the rule says of each view
  pub record Fits (now : List E) (next serving : ℕ) (v : SeatView E) : Type 0 where
    -- a view is spent exactly where it has no part
    pub spent : v.parts ≡ 0 → v ≡ spent
    -- its list is a prefix of the list that stands, and so is that of a seat that it took in
    pub seen : IsPrefix v.seen now
    pub told : IsPrefix v.told now
    -- a ticket that is held was drawn, and isn't passed
    pub ticket : (k : ℕ) → v.ticket ≡ Some k → (serving ≤ k) × (k < next)
    -- a seat that is called has the ticket that is served, and its list stands
    pub called : v.called ≡ true → (v.ticket ≡ Some serving) × (v.seen ≡ now)

module _ {S E : Type 0} (entries : S → List E) where
  abbrev Homes : Type 0
  Homes = List (mathlib.Core.Option.Option (Option S))

  -- the state is home: the slot has it, its list stands, and no seat is called
  pub record IsHome (now : List E) (homes : Homes) (views : List (SeatView E)) : Type 0 where
    pub state : S
    pub home : get_elem? homes 0 ≡ some (some (Some state))
    pub list : entries state ≡ now
    pub nobody : (i : ℕ) (v : SeatView E) → get_elem? views i ≡ some v → v.called ≡ false

  -- the state is out: a seat is called, which took it
  pub record IsOut (homes : Homes) (views : List (SeatView E)) : Type 0 where
    pub out : get_elem? homes 0 ≡ some none
    pub id : ℕ
    pub view : SeatView E
    pub at : get_elem? views id ≡ some view
    pub called : view.called ≡ true

  -- the words, the slot and the views fit together
  pub record Fitting (all next serving count : ℕ) (homes : Homes) (views : List (SeatView E)) : Type 0 where
    pub small : all < 2 ^ 32
    -- the parts of all views add up to the parts of `begin`
    pub parts : sum_by parts_of views ≡ all
    -- the ticket that is served isn't above the next one
    pub order : serving ≤ next
    -- each ticket from the served one to before the next one is held, by one seat alone; so at most one seat is called
    pub held : (k : ℕ) → serving ≤ k → k < next → (id : ℕ) × Holds views id k
    pub once : (k i j : ℕ) → Holds views i k → Holds views j k → i ≡ j
    -- the list that stands, whose length is count: the state's while it is home, and the called seat's while it is out
    pub now : List E
    pub counted : count ≡ length now
    pub each : (i : ℕ) (v : SeatView E) → get_elem? views i ≡ some v → Fits now next serving v
    -- the slot is home unless the called seat took it
    pub slot : IsHome now homes views ⊎ IsOut homes views

  -- the rule
  pub record IsKept (parts : ℕ) (s : State (Option S) (SeatView E)) : Type 0 where
    pub words : length s.words ≡ 3
    pub fitting : Fitting parts (slice_index s.words 0) (slice_index s.words 1) (slice_index s.words 2) s.homes s.views

  abbrev Mine : Type 0
  Mine = Me (Option S) (SeatView E)

  -- draw a ticket: the seat has the one that was expected where it was found, and else nothing changes
  abbrev pub Drew : Step (Option S) → Mine → ℕ → Mine → Type 0
  Drew s v n w = (n ≡ s.first → w ≡ (waiting v.0.parts v.0.seen n, v.1)) × (n ≢ s.first → w ≡ v)

  -- the seat with the ticket n is called, and has the state and the list that it took, which begins with all that it had seen
  abbrev pub TakesState : Mine → Mine → ℕ → Type 0
  TakesState v w n = (x : S) × (w ≡ (called v.0.parts (entries x) n, (0, Some x) ∷ [])) × IsPrefix v.0.seen (entries x)

  -- look at serving, and take the slot where it is the seat's ticket
  abbrev pub Called : Step (Option S) → Mine → ℕ → Mine → Type 0
  Called s v n w = (v.0.ticket ≡ Some n → TakesState v w n) × (v.0.ticket ≢ Some n → w ≡ v)

  -- count items: the called seat's list is that of the state that it puts back
  abbrev pub Counted : Step (Option S) → Mine → ℕ → Mine → Type 0
  Counted s v n w = (x : S) × (v.1 ≡ (0, Some x) ∷ []) × (w ≡ (seat_view v.0.parts (entries x) [] v.0.ticket true, v.1))

  -- give the slot back, and pass the turn: the seat has nothing in hand, and no ticket
  abbrev pub Passed : Step (Option S) → Mine → ℕ → Mine → Type 0
  Passed s v n w = w ≡ (outside v.0.parts v.0.seen, [])

  -- join ends by a look at the words, which tells the seat that both lists are prefixes of the longer
  abbrev pub Settled : Step (Option S) → Mine → ℕ → Mine → Type 0
  Settled s v n w =
      (w ≡ (outside v.0.parts (longer v.0.seen v.0.told), v.1))
      × IsPrefix v.0.seen (longer v.0.seen v.0.told)
      × IsPrefix v.0.told (longer v.0.seen v.0.told)
      × (v.0.parts < 2 ^ 32)

module _ {E : Type 0} where
  -- split a seat: two seats with the same list, and the old seat's parts between them
  abbrev pub with_parts_kept : ℕ → SeatView E → SeatView E
  with_parts_kept given v = outside (v.parts - given) v.seen

  abbrev pub with_parts_given : ℕ → SeatView E → SeatView E
  with_parts_given given v = outside given v.seen

  -- join a seat: it has the parts of both and knows both lists, and the other view is spent
  abbrev pub joined : SeatView E → SeatView E → SeatView E
  joined v w = seat_view (v.parts + w.parts) v.seen w.seen None false
