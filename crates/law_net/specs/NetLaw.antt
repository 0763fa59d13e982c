-- What the net changes of two images, with the takes beside them, are to a log.
use Rattle.std.specs.Prelude.{◌≡◌, ℕ, ◌+◌, ◌*◌, ◌≤◌, Bool, true, false, All, List, [], ◌∷◌, length, filter, ◌⊎◌}
use Rattle.spec_file.specs.declared.data.Resource.{Resource}
use Rattle.spec_file.specs.declared.geometry.Geometry.{Geometry}
use Rattle.spec_file.specs.declared.role.Role.{Role}
use Rattle.spec_file.specs.declared.role.Role.TheVariants as role
use Rattle.spec_file.specs.Image.{Image, AreBytes}
use Rattle.spec_file.specs.Places.{Place, gam_place, sgam_place}
use Rattle.spec_file.specs.Roles.{role_of}
use Rattle.spec_log.specs.declared.item.Cell.{Cell}
use Rattle.spec_log.specs.declared.item.Cell.TheVariants.{Bytes, Bit}
use Rattle.spec_log.specs.Cells.{put}
use Rattle.spec_plan.specs.declared.plan.Planned.{Planned}
use Rattle.law_net.specs.Plans.{Find, HaveCells, AreCoveredBy}
use Rattle.spec_words.specs.NetChanges.{FileShape, extents_of, pages_of, is_turned, is_byte_changed, is_page_changed, changes_of}
use Rattle.spec_words.specs.Takes.{is_among, comes_before, takes_of}
use Rattle.law_net.specs.Files.{IsImageOf, DifferUnder}

-- the changes are made, one after another
abbrev pub made : Image → List Planned → Image
made image [] = image
made image (c ∷ cs) = made (put image c.cell c.after) cs

-- in the order of takes, so that each is there once
abbrev pub AreRising : List Resource → Type 0
AreRising [] = Unit {0}
AreRising (r ∷ rs) = All (λ s. comes_before r s ≡ true) rs × AreRising rs

-- the transaction holds it, or the statement takes it
abbrev pub IsHeldOrTaken : (Resource → Bool) → List Resource → Resource → Type 0
IsHeldOrTaken own takes r = (own r ≡ true) ⊎ (is_among takes r ≡ true)

-- of a PFS page a change has at most the bytes of one extent
abbrev pub HasFewBytes : Role → ℕ → Type 0
HasFewBytes role.Pfs size = size ≤ 8
HasFewBytes other size = Unit {0}

abbrev pub IsShortCell : Geometry → Cell → ℕ → Type 0
IsShortCell g (Bytes p off) size = HasFewBytes (role_of g p.0) size
IsShortCell g (Bit p n) size = Unit {0}

-- how many bits of such a map, how many PFS bytes, and how many pages that objects may own differ
abbrev pub turned_bits : FileShape → (ℕ → Place) → Image → Image → ℕ
turned_bits shape place start now = length (filter (λ e. is_turned start now (place e)) (extents_of shape))

abbrev pub changed_bytes : FileShape → Image → Image → ℕ
changed_bytes shape start now = length (filter (is_byte_changed shape.geometry start now) (pages_of shape))

abbrev pub changed_pages : FileShape → Image → Image → ℕ
changed_pages shape start now = length (filter (is_page_changed shape.geometry start now) (pages_of shape))

-- one change for each bit and each byte, three for each page, and one for page 9
abbrev pub change_limit : FileShape → Image → Image → ℕ
change_limit shape start now =
    turned_bits shape (gam_place shape.geometry) start now + turned_bits shape (sgam_place shape.geometry) start now + changed_bytes shape start now
    + 3 * changed_pages shape start now + 1

-- what each found and what it puts are bytes
abbrev pub HaveBytes : List Planned → Type 0
HaveBytes [] = Unit {0}
HaveBytes (c ∷ cs) = (AreBytes c.before × AreBytes c.after) × HaveBytes cs

-- the changes make the one image from the other. Each finds the bytes that it says, has the form of a log's change, and
-- is covered by what the transaction holds or takes, one of a PFS page within one extent; and they are few. The takes
-- rise, each is new to the transaction, and each was taken by the statement
pub record AreNetChanges (shape : FileShape) (own : Resource → Bool) (taken : List Resource) (start now : Image) (takes : List Resource) (changes : List Planned) : Type 0 where
  pub make : made start changes ≡ now
  pub find : Find start changes
  pub cells : HaveCells changes
  pub bytes : HaveBytes changes
  pub covered : AreCoveredBy (IsHeldOrTaken own takes) shape.geometry shape.pages changes
  pub short : All (λ (c : Planned). IsShortCell shape.geometry c.cell (length c.after)) changes
  pub few : length changes ≤ change_limit shape start now
  pub rising : AreRising takes
  pub new : All (λ r. own r ≡ false) takes
  pub among : All (λ r. is_among taken r ≡ true) takes

-- so are the net changes and the takes of any two images of a file that differ only under what was taken
abbrev pub NetChangesAreGood : Type 0
NetChangesAreGood =
    (shape : FileShape) (own : Resource → Bool) (taken : List Resource) (start now : Image) → IsImageOf shape start → IsImageOf shape now → DifferUnder shape taken start now →
    AreNetChanges shape own taken start now (takes_of shape own taken start now) (changes_of shape start now)
