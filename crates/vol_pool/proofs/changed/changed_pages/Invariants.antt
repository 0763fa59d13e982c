use Rattle.std.proofs.Common.{◌≡◌, ◌<◌, ℕ, length, take}
use Rattle.std.specs.List.{list_any}
use Rattle.spec_run.specs.ChangedPages.{changes_page}
use Rattle.vol_pool.specs.Writing.{is_marked}
use Rattle.vol_pool.proofs.changed.changed_pages.Given as goal

abbrev pub invariant-loop-item : goal.invariant-loop-item
invariant-loop-item l =
    (length l.marks.items ≡ l.pages)
    × ((p : ℕ) → p < l.pages → is_marked l.marks.items p ≡ list_any (changes_page p) (take l.item-index l.items))
