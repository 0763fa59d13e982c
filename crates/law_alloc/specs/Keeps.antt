-- Taking pages, and giving them back, leave a good view good.
use Rattle.std.specs.Prelude.{◌≡◌, ℕ, ◌<◌, true, List, Option, Some, None}
use Rattle.spec_file.specs.CatalogRows.{CatalogRow}
use Rattle.spec_file.specs.Roles.{is_ordinary}
use Rattle.spec_words.specs.NetChanges.{FileShape}
use Rattle.spec_words.specs.Views.{View}
use Rattle.spec_alloc.specs.SinglePages.{single_page}
use Rattle.spec_alloc.specs.ObjectPages.{object_page}
use Rattle.spec_alloc.specs.Freeing.{shared_freed, marked_freed, object_page_freed}
use Rattle.spec_alloc.specs.Objects.{entry_emptied, new_chain, pages_dropped}
use Rattle.law_net.specs.GoodViews.{IsGoodView, Leads, KeepsGood}

-- this holds of what is found, if anything is
abbrev pub IfFound : (ℕ → Type 0) → Option ℕ → Type 0
IfFound Holds None = Unit {0}
IfFound Holds (Some p) = Holds p

-- a page of the file that objects may own
abbrev pub IsOwn : FileShape → ℕ → Type 0
IsOwn shape p = (p < shape.pages) × (is_ordinary shape.geometry p ≡ true)

-- where a single page is found, it is such a page
abbrev pub SingleKeepsGood : Type 0
SingleKeepsGood = (view : View) (byte : ℕ) → byte < 256 → IsGoodView view →
    Leads (single_page view.shape byte) view (λ found after. IsGoodView after × (after.shape ≡ view.shape) × IfFound (IsOwn view.shape) found)

-- a page for an object is such a page
abbrev pub ObjectPageKeepsGood : Type 0
ObjectPageKeepsGood = (view : View) (row : CatalogRow) (path : List ℕ) → IsGoodView view →
    Leads (object_page view.shape row path) view (λ p after. IsGoodView after × (after.shape ≡ view.shape) × IsOwn view.shape p)

-- a page of the file is given back
abbrev pub SharedKeepsGood : Type 0
SharedKeepsGood = (view : View) (p : ℕ) → p < view.shape.pages → KeepsGood (shared_freed view.shape p) view

abbrev pub MarkedKeepsGood : Type 0
MarkedKeepsGood = (view : View) (p : ℕ) → p < view.shape.pages → IsGoodView view →
    Leads (marked_freed view.shape p) view (λ in_use after. IsGoodView after × (after.shape ≡ view.shape))

-- a page of an object is given back, with its slots and marks
abbrev pub ObjectPageFreedKeepsGood : Type 0
ObjectPageFreedKeepsGood = (view : View) (row : CatalogRow) (p : ℕ) → KeepsGood (object_page_freed view.shape row p) view

-- the first IAM page of an object of this id is a page of the file that objects may own
abbrev pub NewChainKeepsGood : Type 0
NewChainKeepsGood = (view : View) (id : ℕ) → IsGoodView view →
    Leads (new_chain view.shape id) view (λ q after. IsGoodView after × (after.shape ≡ view.shape) × IsOwn view.shape q)

-- all pages of an object are given back
abbrev pub DropKeepsGood : Type 0
DropKeepsGood = (view : View) (row : CatalogRow) → KeepsGood (pages_dropped view.shape row) view

-- an entry of the catalog is emptied
abbrev pub EntryKeepsGood : Type 0
EntryKeepsGood = (view : View) (i : ℕ) → KeepsGood (entry_emptied i) view
