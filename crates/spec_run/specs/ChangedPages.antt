-- Which pages a history changes.
use Rattle.std.specs.Prelude.{ℕ, ◌==◌, Bool, false, List}
use Rattle.std.specs.List.{list_any}
use Rattle.spec_log.specs.declared.item.Record.{Record}
use Rattle.spec_log.specs.declared.item.Record.TheVariants.{Change}
use Rattle.spec_log.specs.Images.{page_of_cell}

-- the item is a Change of page p
abbrev pub changes_page : ℕ → Record → Bool
changes_page p (Change tran cell before after) = page_of_cell cell == p
changes_page p other = false

-- page p has a Change among these items
abbrev pub is_changed : List Record → ℕ → Bool
is_changed log p = list_any (changes_page p) log
