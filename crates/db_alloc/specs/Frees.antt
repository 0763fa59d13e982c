-- Parts of the plan that gives a page of an object back.
use Rattle.std.specs.Prelude.{ℕ, ◌==◌, List, if◌then◌else◌}
use Rattle.std.specs.List.{list_any}
use Rattle.spec_words.specs.NetChanges.{FileShape}
use Rattle.spec_words.specs.Views.{Plan}
use Rattle.spec_words.specs.Words.{◌then◌, give, sees, where_good}
use Rattle.spec_alloc.specs.Freeing.{shared_freed, marked_freed, slots_emptied, marks_emptied, is_shared_page, page_freed}

-- page p is given back with the slots that hold it
abbrev pub single_freed : FileShape → List ℕ → ℕ → Plan (Unit {0})
single_freed shape chain p = shared_freed shape p then (λ _. slots_emptied chain p)

-- page p of a marked extent is given back; with the last page of the extent, its marks
abbrev pub last_freed : FileShape → List ℕ → ℕ → Plan (Unit {0})
last_freed shape chain p = marked_freed shape p then (λ in_use. if in_use then give tt else marks_emptied shape chain p)

-- page p of an object that has this chain is given back
abbrev pub owned_freed : FileShape → List ℕ → ℕ → Plan (Unit {0})
owned_freed shape chain p = sees (is_shared_page chain p) then (λ shared. page_freed shape chain p shared)

-- page p is given back where it is one of these: 824 at it where it isn't
abbrev pub one_freed : FileShape → List ℕ → List ℕ → ℕ → Plan (Unit {0})
one_freed shape chain pages p = where_good (list_any (λ q. q == p) pages) p then (λ _. owned_freed shape chain p)
