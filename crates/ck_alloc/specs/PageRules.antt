-- What the rules of uses and PFS bytes say of one page, by what the maps hold of it.
use Rattle.std.specs.Prelude.{◌≡◌, ◌⊎◌, ℕ, ◌/◌, ◌%◌, ◌==◌, ◌&&◌, Bool, true, false, not, nat_lt, IsTrue, if◌then◌else◌, List, length, map, Option, Some, None}
use Rattle.spec_file.specs.declared.pfs.PfsKind.{PfsKind}
use Rattle.spec_file.specs.declared.pfs.PfsKind.TheVariants as kinds
use Rattle.spec_file.specs.Iam.{single_slot_count}
use Rattle.spec_file.specs.Pfs.{expected, is_allocated_byte}
use Rattle.spec_file.specs.Roles.{is_for_objects}
use Rattle.spec_check.specs.declared.report.CheckError.{CheckError}
use Rattle.spec_check.specs.Pages.{lost_page, GivesTwoUses, kind_of_role, wrong_byte}
use Rattle.ck_error.specs.Gathered.{Each}
use Rattle.ck_facts.specs.declared.map.PageUse.{PageUse}
use Rattle.ck_facts.specs.Maps.{use_of}
use Rattle.ck_alloc.specs.declared.pages.PageState.{PageState}

-- an ordinary page is allocated, and nobody owns it
abbrev pub is_lost_page : PageState → List PageUse → List ℕ → Bool
is_lost_page s uses ids = is_for_objects s.role && is_allocated_byte s.byte && ((length uses == 0) && (length ids == 0))

abbrev pub has_wrong_flags : ℕ → PfsKind → Bool
has_wrong_flags byte kind = not (byte / 8 == expected kind 0 / 8)

-- the fullness of a page that may hold rows is told by the page itself
abbrev pub holds_rows : PfsKind → Bool
holds_rows kinds.System = false
holds_rows kinds.Reserved = false
holds_rows kinds.Boot = false
holds_rows kinds.Iam = false
holds_rows kinds.Single = true
holds_rows kinds.Uniform = true
holds_rows kinds.Unused = false

abbrev pub has_wrong_fullness : ℕ → PfsKind → Bool
has_wrong_fullness byte kind = not (holds_rows kind) && not (byte % 8 == expected kind 0 % 8)

-- an error of the page's PFS byte, tested as that of a page of this kind, for object o
abbrev pub TestSays : PageState → ℕ → PfsKind → CheckError → Type 0
TestSays s o kind x =
    (IsTrue (has_wrong_flags s.byte kind) × (x ≡ wrong_byte 8948 o s.page s.byte))
    ⊎ (IsTrue (has_wrong_fullness s.byte kind) × (x ≡ wrong_byte 8914 o s.page s.byte))

-- a page in a single-page slot, or in a chain
abbrev pub kind_of_place : ℕ → PfsKind
kind_of_place place = if nat_lt place single_slot_count then kinds.Single else kinds.Iam

-- a page of an extent that an object marks
abbrev pub kind_of_mark : ℕ → PfsKind
kind_of_mark byte = if is_allocated_byte byte then kinds.Uniform else kinds.Unused

abbrev pub UseSays : PageState → PageUse → CheckError → Type 0
UseSays s u x = TestSays s u.object (kind_of_place u.place) x

abbrev pub MarkSays : PageState → ℕ → CheckError → Type 0
MarkSays s o x = TestSays s o (kind_of_mark s.byte) x

-- nobody owns the page, and it isn't allocated
abbrev pub is_alone : PageState → List PageUse → List ℕ → Bool
is_alone s uses ids = not (is_allocated_byte s.byte) && ((length uses == 0) && (length ids == 0))

abbrev pub AloneSays : PageState → List PageUse → List ℕ → CheckError → Type 0
AloneSays s uses ids x = IsTrue (is_alone s uses ids) × TestSays s 0 kinds.Unused x

-- an error of an ordinary page's byte, tested for each of its owners
abbrev pub OwnersSay : PageState → List PageUse → List ℕ → CheckError → Type 0
OwnersSay s uses ids x =
    Each uses (UseSays s) x
    ⊎ (Each ids (MarkSays s) x ⊎ AloneSays s uses ids x)

-- an error of a page's byte, tested by the kind that its role tells, else for its owners
abbrev pub ByteSays : Option PfsKind → PageState → List PageUse → List ℕ → CheckError → Type 0
ByteSays (Some kind) s uses ids x = TestSays s 0 kind x
ByteSays None s uses ids x = OwnersSay s uses ids x

abbrev pub LostSays : PageState → List PageUse → List ℕ → CheckError → Type 0
LostSays s uses ids x = IsTrue (is_lost_page s uses ids) × (x ≡ lost_page s.page s.byte)

-- an error of the page that has these uses, in an extent that these ids mark
abbrev pub PageSays : PageState → List PageUse → List ℕ → CheckError → Type 0
PageSays s uses ids x =
    LostSays s uses ids x
    ⊎ (GivesTwoUses s.page (map use_of uses) x ⊎ ByteSays (kind_of_role s.role) s uses ids x)
