-- What reads a table leaves the view.
use Rattle.std.specs.Prelude.{◌≡◌, ℕ, ◌<◌, All, List}
use Rattle.spec_file.specs.CatalogRows.{CatalogRow}
use Rattle.spec_words.specs.NetChanges.{FileShape}
use Rattle.spec_words.specs.Views.{View}
use Rattle.spec_words.specs.Tables.{table_pages}
use Rattle.spec_words.specs.Heaps.{count_plan, select_plan}
use Rattle.law_net.specs.GoodViews.{Leads}

-- a table's pages are read without the view's being moved, and they are pages of the file
abbrev pub TablePagesLeaveView : Type 0
TablePagesLeaveView = (shape : FileShape) (row : CatalogRow) (view : View) →
    Leads (table_pages shape row) view (λ pages after. (after ≡ view) × All (λ p. p < shape.pages) pages)

-- whatever COUNT gives, the view is as it was
abbrev pub CountLeavesView : Type 0
CountLeavesView = (shape : FileShape) (name : List ℕ) (view : View) → Leads (count_plan shape name) view (λ reply after. after ≡ view)

-- and whatever SELECT gives
abbrev pub SelectLeavesView : Type 0
SelectLeavesView = (shape : FileShape) (name : List ℕ) (key : ℕ) (view : View) → Leads (select_plan shape name key) view (λ reply after. after ≡ view)
