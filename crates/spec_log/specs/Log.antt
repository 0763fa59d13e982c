-- The log is the list of its items, the newest first. The LSN of an item is its place from the oldest,
-- from 1. A transaction is a number above 0 (this project's own).
use Rattle.std.specs.Prelude.{◌≡◌, ℕ, ◌+◌, max, ◌==◌, ◌&&◌, not, nat_lt, Bool, true, false, if◌then◌else◌, List, [], ◌∷◌, length, Option, Some, None}
use Rattle.std.specs.List.{list_any}
use Rattle.spec_file.specs.declared.data.Resource.{Resource}
use Rattle.spec_log.specs.declared.item.Record.{Record}
use Rattle.spec_log.specs.declared.item.Record.TheVariants.{Start, Change, Undo, Commit, Abort}
use Rattle.spec_log.specs.Items.{is_same, tran_of}

-- the item is a Start of the transaction
abbrev pub starts : ℕ → Record → Bool
starts t (Start session index tran number changes size takes) = tran.0 == t
starts t other = false

abbrev pub commits : ℕ → Record → Bool
commits t (Commit tran) = tran.0 == t
commits t other = false

-- the item is a Commit or an Abort of the transaction
abbrev pub ends : ℕ → Record → Bool
ends t (Commit tran) = tran.0 == t
ends t (Abort tran) = tran.0 == t
ends t other = false

abbrev pub undoes : ℕ → Record → Bool
undoes t (Undo tran change) = tran.0 == t
undoes t other = false

-- the item is a Start of the transaction that takes the resource
abbrev pub takes_it : ℕ → Resource → Record → Bool
takes_it t r (Start session index tran number changes size takes) = (tran.0 == t) && list_any (is_same r) takes
takes_it t r other = false

abbrev pub has_started : List Record → ℕ → Bool
has_started log t = list_any (starts t) log

abbrev pub has_committed : List Record → ℕ → Bool
has_committed log t = list_any (commits t) log

abbrev pub has_ended : List Record → ℕ → Bool
has_ended log t = list_any (ends t) log

abbrev pub has_undone : List Record → ℕ → Bool
has_undone log t = list_any (undoes t) log

abbrev pub has_taken : List Record → ℕ → Resource → Bool
has_taken log t r = list_any (takes_it t r) log

-- a transaction is unfinished from its first Start to its Commit or Abort
abbrev pub is_unfinished : List Record → ℕ → Bool
is_unfinished log t = nat_lt 0 t && (has_started log t && not (has_ended log t))

-- the transaction holds the resource: a Start took it, and the transaction is unfinished
abbrev pub holds : List Record → ℕ → Resource → Bool
holds log t r = is_unfinished log t && has_taken log t r

-- nobody but t holds the resource
abbrev pub IsFreeFor : List Record → ℕ → Resource → Type 0
IsFreeFor log t r = (u : ℕ) → holds log u r ≡ true → u ≡ t

-- a transaction other than t that holds the resource, of those with a Start in `part`
abbrev pub holder_among : List Record → List Record → Resource → ℕ → Option ℕ
holder_among log [] r t = None
holder_among log (x ∷ part) r t =
    if holds log (tran_of x) r && not (tran_of x == t) then Some (tran_of x) else holder_among log part r t

-- the transaction other than t that holds the resource, or none
abbrev pub holder_of : List Record → Resource → ℕ → Option ℕ
holder_of log r t = holder_among log log r t

-- the greatest transaction of the log, 0 where it has none
abbrev pub greatest_of : List Record → ℕ
greatest_of [] = 0
greatest_of (x ∷ older) = max (tran_of x) (greatest_of older)

-- the item with this LSN
abbrev pub item_at : List Record → ℕ → Option Record
item_at [] lsn = None
item_at (x ∷ older) lsn = if lsn == length older + 1 then Some x else item_at older lsn

abbrev pub rest_of : {A : Type 0} → List A → List A
rest_of [] = []
rest_of (x ∷ xs) = xs

-- the transaction's changes that aren't undone, each with its LSN, the newest first
abbrev pub left_of : ℕ → List Record → List (ℕ × Record)
left_of t [] = []
left_of t (Change tran cell before after ∷ older) =
    if tran.0 == t then (length older + 1, Change tran cell before after) ∷ left_of t older else left_of t older
left_of t (Undo tran change ∷ older) = if tran.0 == t then rest_of (left_of t older) else left_of t older
left_of t (other ∷ older) = left_of t older
