-- The history of a run as its entries, the newest first: the items that it appended, and between them a
-- mark where the snapshot of a check had everything taken back. Marks aren't items: they have no LSN and
-- stand in no log.
use Rattle.std.specs.Prelude.{◌≡◌, ℕ, ◌==◌, ◌&&◌, Bool, true, false, not, List, [], ◌∷◌}
use Rattle.std.specs.List.{list_any}
use Rattle.spec_log.specs.declared.item.Record.{Record}
use Rattle.spec_log.specs.declared.item.Record.TheVariants.{Snap, CheckEnd}

pub data Entry : Type 0 where
  Item : Record → Entry
  Undone : ℕ → ℕ → Entry

-- the items among the entries
abbrev pub items_of : List Entry → List Record
items_of [] = []
items_of (Item x ∷ older) = x ∷ items_of older
items_of (Undone session index ∷ older) = items_of older

-- the item is the Snap, or the CheckEnd, of this statement
abbrev pub snaps : ℕ → ℕ → Record → Bool
snaps s i (Snap session index) = (session == s) && (index == i)
snaps s i other = false

abbrev pub ends_check : ℕ → ℕ → Record → Bool
ends_check s i (CheckEnd session index outcome) = (session == s) && (index == i)
ends_check s i other = false

-- the check of this statement is under way
abbrev pub is_checking : List Record → ℕ → ℕ → Bool
is_checking log s i = list_any (snaps s i) log && not (list_any (ends_check s i) log)

-- the entry is the mark of this statement
abbrev pub marks : ℕ → ℕ → Entry → Bool
marks s i (Undone session index) = (session == s) && (index == i)
marks s i (Item x) = false

-- the snapshot of this statement's check has everything taken back
abbrev pub is_undone : List Entry → ℕ → ℕ → Bool
is_undone entries s i = list_any (marks s i) entries

-- a mark stands where its check is under way, and once
abbrev pub AreMarked : List Entry → Type 0
AreMarked [] = Unit {0}
AreMarked (Item x ∷ older) = AreMarked older
AreMarked (Undone session index ∷ older) =
    (is_checking (items_of older) session index ≡ true) × (is_undone older session index ≡ false) × AreMarked older
