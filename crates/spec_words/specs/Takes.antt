-- What a statement takes (this project's own).
use Rattle.std.specs.Prelude.{◌==◌, ◌&&◌, ◌||◌, not, nat_lt, Bool, true, if◌then◌else◌, List, [], ◌∷◌, filter}
use Rattle.std.specs.List.{list_any}
use Rattle.spec_file.specs.declared.data.Resource.{Resource}
use Rattle.spec_file.specs.declared.data.Resource.TheVariants.{Catalog, Table, Extent, Byte, Page}
use Rattle.spec_file.specs.Image.{Image}
use Rattle.spec_log.specs.Items.{is_same, grain_of, number_of}
use Rattle.spec_plan.specs.declared.plan.Planned.{Planned}
use Rattle.spec_words.specs.NetChanges.{FileShape, is_byte_changed, is_page_changed, changes_of}
use Rattle.spec_words.specs.Views.{View}

abbrev pub is_among : List Resource → Resource → Bool
is_among taken r = list_any (is_same r) taken

-- the order of takes: Catalog, Table, Extent, Byte, Page, each rising
abbrev pub comes_before : Resource → Resource → Bool
comes_before r s = nat_lt (grain_of r) (grain_of s) || ((grain_of r == grain_of s) && nat_lt (number_of r) (number_of s))

-- a resource put among others that are in order, each once
abbrev pub with_resource : Resource → List Resource → List Resource
with_resource r [] = r ∷ []
with_resource r (s ∷ rest) = if comes_before r s then r ∷ (s ∷ rest) else (if is_same r s then s ∷ rest else s ∷ with_resource r rest)

abbrev pub in_order : List Resource → List Resource
in_order [] = []
in_order (r ∷ rest) = with_resource r (in_order rest)

-- a PFS byte or a page counts where it really differs, any other resource always
abbrev pub counts : FileShape → Image → Image → Resource → Bool
counts shape start now Catalog = true
counts shape start now (Table o) = true
counts shape start now (Extent e) = true
counts shape start now (Byte p) = is_byte_changed shape.geometry start now p.0
counts shape start now (Page p) = is_page_changed shape.geometry start now p.0

-- of what a statement took, in order and once, that which counts and which its transaction doesn't hold yet
abbrev pub takes_of : FileShape → (Resource → Bool) → List Resource → Image → Image → List Resource
takes_of shape own taken start now = filter (λ r. not (own r) && counts shape start now r) (in_order taken)

-- what a statement changes and takes, where its view stands so at its end
abbrev pub changes_at : View → List Planned
changes_at view = changes_of view.shape view.start view.now

abbrev pub takes_at : View → List Resource
takes_at view = takes_of view.shape view.own view.taken view.start view.now
