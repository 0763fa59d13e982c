-- Trees worked by hand, with pages that have room for two rows: what an insert and a delete make of them.
use Rattle.std.specs.Prelude.{◌≡◌, ℕ, List, [], ◌∷◌, length, Some, None, nat_lt, ◌==◌, if◌then◌else◌}
use Rattle.spec_levels.specs.Levels.{Payload, Row, Node, Tree}
use Rattle.spec_ways.specs.Ways.{Way, way_to}
use Rattle.spec_ways.specs.Insert.{Cut, Cuts, inserted}
use Rattle.spec_ways.specs.Delete.{deleted}
use Rattle.spec_ways.specs.Sinks.{sink_of}
use Rattle.spec_levels.specs.Pages.{LeafPage, IndexPage}
use Rattle.spec_ways.specs.Pages.{Pages, Shows}
use Rattle.spec_ways.specs.DeleteWrites.{delete_reads, delete_frees}

-- of three rows a page keeps the first
abbrev pub two_fit : {V : Type 0} → Cut V
two_fit rows = if nat_lt 2 (length rows) then Some 1 else None

abbrev pub cuts : Cuts
cuts = record { leaf = two_fit; index = two_fit }

-- a data row whose payload is its key
abbrev pub data_row : ℕ → Row Payload
data_row key = record { key = key; value = key ∷ [] }

abbrev pub index_row : ℕ → ℕ → Row ℕ
index_row key page = record { key = key; value = page }

abbrev pub in_page : {V : Type 0} → ℕ → ℕ → ℕ → List (Row V) → Node V
in_page page prev next rows = record { page = page; prev = prev; next = next; rows = rows }

-- a root that is a leaf, and is full
abbrev pub one_leaf : Tree
one_leaf = record { above = []; leaves = in_page 9 0 0 (data_row 5 ∷ data_row 7 ∷ []) ∷ [] }

-- a row more: its rows go to two new pages, and the root names them
abbrev pub RootLeafSplits : Type 0
RootLeafSplits = inserted cuts (20 ∷ 21 ∷ []) 9 (data_row 6) one_leaf ≡ record {
  above = (in_page 9 0 0 (index_row 0 20 ∷ index_row 6 21 ∷ []) ∷ []) ∷ [];
  leaves = in_page 20 0 21 (data_row 5 ∷ []) ∷ in_page 21 20 0 (data_row 6 ∷ data_row 7 ∷ []) ∷ [];
}

-- a root and two leaves, all full
abbrev pub two_levels : Tree
two_levels = record {
  above = (in_page 9 0 0 (index_row 0 20 ∷ index_row 6 21 ∷ []) ∷ []) ∷ [];
  leaves = in_page 20 0 21 (data_row 3 ∷ data_row 5 ∷ []) ∷ in_page 21 20 0 (data_row 6 ∷ data_row 7 ∷ []) ∷ [];
}

-- leaf 20 is split, and so is the root, which has no room for the row of the new leaf 30
abbrev pub TwoLevelsSplit : Type 0
TwoLevelsSplit = inserted cuts (30 ∷ 31 ∷ 32 ∷ []) 9 (data_row 4) two_levels ≡ record {
  above = (in_page 9 0 0 (index_row 0 31 ∷ index_row 4 32 ∷ []) ∷ []) ∷ (in_page 31 0 32 (index_row 0 20 ∷ []) ∷ in_page 32 31 0 (index_row 4 30 ∷ index_row 6 21 ∷ []) ∷ []) ∷ [];
  leaves = in_page 20 0 30 (data_row 3 ∷ []) ∷ in_page 30 20 21 (data_row 4 ∷ data_row 5 ∷ []) ∷ in_page 21 30 0 (data_row 6 ∷ data_row 7 ∷ []) ∷ [];
}

-- a row with a key that is there stands for the one before
abbrev pub RowIsReplaced : Type 0
RowIsReplaced = inserted cuts (30 ∷ 31 ∷ 32 ∷ []) 9 (record { key = 5; value = 8 ∷ [] }) two_levels ≡ record {
  above = two_levels.above;
  leaves = in_page 20 0 21 (data_row 3 ∷ record { key = 5; value = 8 ∷ [] } ∷ []) ∷ in_page 21 20 0 (data_row 6 ∷ data_row 7 ∷ []) ∷ [];
}

-- three levels: two index pages below the root, three leaves
abbrev pub three_levels : Tree
three_levels = record {
  above = (in_page 9 0 0 (index_row 0 31 ∷ index_row 4 32 ∷ []) ∷ []) ∷ (in_page 31 0 32 (index_row 0 20 ∷ []) ∷ in_page 32 31 0 (index_row 4 30 ∷ index_row 6 21 ∷ []) ∷ []) ∷ [];
  leaves = in_page 20 0 30 (data_row 3 ∷ []) ∷ in_page 30 20 21 (data_row 4 ∷ []) ∷ in_page 21 30 0 (data_row 6 ∷ []) ∷ [];
}

-- leaf 21 goes, and with it the second row of page 32
abbrev pub LeafIsUnlinked : Type 0
LeafIsUnlinked = deleted 9 6 three_levels ≡ record {
  above = (in_page 9 0 0 (index_row 0 31 ∷ index_row 4 32 ∷ []) ∷ []) ∷ (in_page 31 0 32 (index_row 0 20 ∷ []) ∷ in_page 32 31 0 (index_row 4 30 ∷ []) ∷ []) ∷ [];
  leaves = in_page 20 0 30 (data_row 3 ∷ []) ∷ in_page 30 20 0 (data_row 4 ∷ []) ∷ [];
}

-- leaf 30 goes, and with it the first row of page 32: the row behind it takes its key
abbrev pub FirstRowGoes : Type 0
FirstRowGoes = deleted 9 4 three_levels ≡ record {
  above = (in_page 9 0 0 (index_row 0 31 ∷ index_row 4 32 ∷ []) ∷ []) ∷ (in_page 31 0 32 (index_row 0 20 ∷ []) ∷ in_page 32 31 0 (index_row 4 21 ∷ []) ∷ []) ∷ [];
  leaves = in_page 20 0 21 (data_row 3 ∷ []) ∷ in_page 21 20 0 (data_row 6 ∷ []) ∷ [];
}

-- three levels, three index pages
abbrev pub wide : Tree
wide = record {
  above = (in_page 9 0 0 (index_row 0 31 ∷ index_row 4 32 ∷ index_row 8 33 ∷ []) ∷ [])
      ∷ (in_page 31 0 32 (index_row 0 20 ∷ []) ∷ in_page 32 31 33 (index_row 4 30 ∷ index_row 6 21 ∷ []) ∷ in_page 33 32 0 (index_row 8 22 ∷ []) ∷ []) ∷ [];
  leaves = in_page 20 0 30 (data_row 3 ∷ []) ∷ in_page 30 20 21 (data_row 4 ∷ []) ∷ in_page 21 30 22 (data_row 6 ∷ []) ∷ in_page 22 21 0 (data_row 8 ∷ []) ∷ [];
}

-- leaf 20 goes, then page 31, and with it the first row of the root: key 0 goes down the left edge, to the first row of 32
abbrev pub LeftEdgeMoves : Type 0
LeftEdgeMoves = deleted 9 3 wide ≡ record {
  above = (in_page 9 0 0 (index_row 0 32 ∷ index_row 8 33 ∷ []) ∷ []) ∷ (in_page 32 0 33 (index_row 0 30 ∷ index_row 6 21 ∷ []) ∷ in_page 33 32 0 (index_row 8 22 ∷ []) ∷ []) ∷ [];
  leaves = in_page 30 0 21 (data_row 4 ∷ []) ∷ in_page 21 30 22 (data_row 6 ∷ []) ∷ in_page 22 21 0 (data_row 8 ∷ []) ∷ [];
}

-- where the root is left with one row it takes what its child has
abbrev pub RootCollapses : Type 0
RootCollapses = deleted 9 3 three_levels ≡ record {
  above = (in_page 9 0 0 (index_row 0 30 ∷ index_row 6 21 ∷ []) ∷ []) ∷ [];
  leaves = in_page 30 0 21 (data_row 4 ∷ []) ∷ in_page 21 30 0 (data_row 6 ∷ []) ∷ [];
}

-- the last row goes: the root is a leaf without rows
abbrev pub LastRowGoes : Type 0
LastRowGoes = deleted 9 3 (record { above = (in_page 9 0 0 (index_row 0 20 ∷ []) ∷ []) ∷ []; leaves = in_page 20 0 0 (data_row 3 ∷ []) ∷ [] })
    ≡ record { above = []; leaves = in_page 9 0 0 [] ∷ [] }

-- pages that show three_levels
abbrev pub image : Pages
image page =
    if page == 9 then IndexPage 2 (in_page 9 0 0 (index_row 0 31 ∷ index_row 4 32 ∷ []))
    else if page == 31 then IndexPage 1 (in_page 31 0 32 (index_row 0 20 ∷ []))
    else if page == 32 then IndexPage 1 (in_page 32 31 0 (index_row 4 30 ∷ index_row 6 21 ∷ []))
    else if page == 20 then LeafPage (in_page 20 0 30 (data_row 3 ∷ []))
    else if page == 30 then LeafPage (in_page 30 20 21 (data_row 4 ∷ []))
    else LeafPage (in_page 21 30 0 (data_row 6 ∷ []))

abbrev pub IsShown : Type 0
IsShown = Shows image three_levels.above three_levels.leaves

abbrev pub way : Way
way = record { above = in_page 9 0 0 (index_row 0 31 ∷ index_row 4 32 ∷ []) ∷ in_page 31 0 32 (index_row 0 20 ∷ []) ∷ []; leaf = in_page 20 0 30 (data_row 3 ∷ []) }

abbrev pub IsWay : Type 0
IsWay = way_to 9 three_levels 3 ≡ Some way

-- the delete that collapses this root reads its way, the next of 20 and of 31, the left edge, which is 32, and the root's
-- only child, 32; it frees 20, 31 and 32
abbrev pub PagesAreRead : Type 0
PagesAreRead = delete_reads 9 way (sink_of 3 way) image ≡ 9 ∷ 31 ∷ 20 ∷ 30 ∷ 32 ∷ 32 ∷ 32 ∷ []

abbrev pub PagesAreFreed : Type 0
PagesAreFreed = delete_frees 9 way (sink_of 3 way) image ≡ 20 ∷ 31 ∷ 32 ∷ []
