-- What another transaction holds is never taken as a single page.
use Rattle.std.specs.Prelude.{◌≡◌, ℕ, ◌/◌, None}
use Rattle.spec_file.specs.declared.data.Resource.TheVariants as resource
use Rattle.spec_words.specs.NetChanges.{FileShape}
use Rattle.spec_words.specs.Views.{View}
use Rattle.spec_alloc.specs.SinglePages.{single_page}
use Rattle.law_net.specs.GoodViews.{Leads}
use Rattle.law_alloc.specs.Keeps.{IfFound}

-- nobody else holds the extent of page p, or its PFS byte
abbrev pub IsUnheld : View → ℕ → Type 0
IsUnheld view p = (view.other (resource.Extent (record { 0 = p / 8 })) ≡ None) × (view.other (resource.Byte (record { 0 = p })) ≡ None)

abbrev pub SingleIsUnheld : Type 0
SingleIsUnheld = (shape : FileShape) (view : View) (byte : ℕ) → Leads (single_page shape byte) view (λ found after. IfFound (IsUnheld view) found)
