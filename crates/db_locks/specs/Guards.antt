-- What a resource guards on one page, and what a page has of another there.
use Rattle.std.specs.Prelude.{◌≡◌, ◌≢◌, ℕ, ◌==◌, ◌&&◌, ◌||◌, ◌<◌, not, Bool, true, false, List, length, map, slice_index}
use Rattle.std.specs.List.{range_with_len}
use Rattle.std.specs.Int.{bit_at}
use Rattle.std.specs.Int.Bits.{bit_xor}
use Rattle.spec_file.specs.declared.data.Resource.{Resource}
use Rattle.spec_file.specs.declared.data.Resource.TheVariants as resource
use Rattle.spec_file.specs.declared.geometry.Geometry.{Geometry}
use Rattle.spec_file.specs.Image.{page_size}
use Rattle.spec_file.specs.Roles.{is_system_place}
use Rattle.spec_words.specs.NetChanges.{FileShape}
use Rattle.spec_words.specs.Takes.{is_among}
use Rattle.law_net.specs.Files.{IsGuardedBy}

-- two states of page p are the same in all that the resource guards
abbrev pub AgreeUnder : Resource → FileShape → ℕ → List ℕ → List ℕ → Type 0
AgreeUnder r shape p shown seen =
    (i j : ℕ) → i < page_size → j < 8 → IsGuardedBy (λ s. s ≡ r) shape p i j → bit_at (slice_index shown i) j ≡ bit_at (slice_index seen i) j

-- two states of page p differ only in what these resources guard
abbrev pub DifferOnPage : List Resource → FileShape → ℕ → List ℕ → List ℕ → Type 0
DifferOnPage taken shape p before after =
    (i j : ℕ) → i < page_size → j < 8 → bit_at (slice_index before i) j ≢ bit_at (slice_index after i) j → IsGuardedBy (λ r. is_among taken r ≡ true) shape p i j

-- page p as a whole goes by this resource
abbrev pub is_of_page : Resource → ℕ → Bool
is_of_page resource.Catalog p = p == 9
is_of_page (resource.Page q) p = (p == q.0) && not (p == 9)
is_of_page other p = false

-- whoever looks at page p under the resource sees the page's header as it is: that of a page of maps always, since no
-- statement changes it
abbrev pub tells_header : Geometry → Resource → ℕ → Bool
tells_header g r p = is_system_place g p || is_of_page r p

-- what is seen of a page once each bit of it is turned that differs between what was shown and what is put
unfoldable pub carried : List ℕ → List ℕ → List ℕ → List ℕ
carried before after seen = map (λ i. bit_xor (slice_index seen i) (bit_xor (slice_index before i) (slice_index after i))) (range_with_len 0 (length seen))
