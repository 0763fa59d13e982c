-- Good views, and what each word does to a view.
use Rattle.std.specs.Prelude.{◌≡◌, ℕ, ◌/◌, ◌<◌, Bool, true, List, None}
use Rattle.spec_file.specs.declared.data.Resource.{Resource}
use Rattle.spec_file.specs.declared.data.ObjId.{ObjId}
use Rattle.spec_file.specs.declared.data.Resource.TheVariants as resource
use Rattle.spec_file.specs.Image.{AreBytes, page}
use Rattle.spec_file.specs.Roles.{is_ordinary}
use Rattle.spec_words.specs.Takes.{is_among}
use Rattle.spec_words.specs.Views.{View, End, Gives, Stops, Plan}
use Rattle.spec_words.specs.Words.{look, reach, unless_held, where_good, take, put_gam, put_sgam, put_pfs, put_page, put_catalog}
use Rattle.law_net.specs.Files.{IsImageOf, DifferUnder}

-- the view's statement may have taken the resource: the catalog, no table but one, an extent, a PFS byte or a page of the
-- file
abbrev pub MayTake : View → Resource → Type 0
MayTake view resource.Catalog = Unit {0}
MayTake view (resource.Table o) = (other : ObjId) → is_among view.taken (resource.Table other) ≡ true → other ≡ o
MayTake view (resource.Extent e) = e.0 < view.shape.pages / 8
MayTake view (resource.Byte p) = p.0 < view.shape.pages
MayTake view (resource.Page p) = p.0 < view.shape.pages

-- a view of a file that differs from how it began only under what was taken, which its statement may take, and nobody else
-- holds any of that
pub record IsGoodView (view : View) : Type 0 where
  pub before : IsImageOf view.shape view.start
  pub after : IsImageOf view.shape view.now
  pub differ : DifferUnder view.shape view.taken view.start view.now
  pub free : (r : Resource) → is_among view.taken r ≡ true → view.other r ≡ None
  pub known : (r : Resource) → is_among view.taken r ≡ true → MayTake view r

abbrev pub IfGives : {A : Type 0} → (A → View → Type 0) → End A → Type 0
IfGives Holds (Gives given after) = Holds given after
IfGives Holds (Stops refusal) = Unit {0}

-- where the plan gives something on this view, this holds of what it gives and of the view then
abbrev pub Leads : {A : Type 0} → Plan A → View → (A → View → Type 0) → Type 0
Leads plan view Holds = IfGives Holds (plan view).ending

-- a word that reads gives the page as it stands, and leaves the view. It gives nothing where another transaction holds
-- the resource
abbrev pub LookLeavesView : Type 0
LookLeavesView = (view : View) (r : Resource) (p : ℕ) →
    Leads (look r p) view (λ bytes after. (after ≡ view) × (bytes ≡ page view.now p) × (view.other r ≡ None))

abbrev pub ReachLeavesView : Type 0
ReachLeavesView = (view : View) (p : ℕ) → Leads (reach p) view (λ bytes after. (after ≡ view) × (bytes ≡ page view.now p))

-- a word that asks leaves the view, and goes on only where what it asks holds
abbrev pub HeldLeavesView : Type 0
HeldLeavesView = (view : View) (r : Resource) → Leads (unless_held r) view (λ given after. (after ≡ view) × (view.other r ≡ None))

abbrev pub GoodLeavesView : Type 0
GoodLeavesView = (view : View) (good : Bool) (p : ℕ) → Leads (where_good good p) view (λ given after. (after ≡ view) × (good ≡ true))

-- where this word takes or writes something on a good view, the view is good again, and of the same shape
abbrev pub KeepsGood : Plan (Unit {0}) → View → Type 0
KeepsGood word view = IsGoodView view → Leads word view (λ given after. IsGoodView after × (after.shape ≡ view.shape))

abbrev pub TakeKeepsGood : Type 0
TakeKeepsGood = (view : View) (r : Resource) → MayTake view r → KeepsGood (take r) view

abbrev pub GamKeepsGood : Type 0
GamKeepsGood = (view : View) (e value : ℕ) → e < view.shape.pages / 8 → value < 2 → KeepsGood (put_gam view.shape e value) view

abbrev pub SgamKeepsGood : Type 0
SgamKeepsGood = (view : View) (e value : ℕ) → e < view.shape.pages / 8 → value < 2 → KeepsGood (put_sgam view.shape e value) view

abbrev pub PfsKeepsGood : Type 0
PfsKeepsGood = (view : View) (p byte : ℕ) → p < view.shape.pages → byte < 256 → KeepsGood (put_pfs view.shape p byte) view

abbrev pub PageKeepsGood : Type 0
PageKeepsGood = (view : View) (p : ℕ) (bytes : List ℕ) → p < view.shape.pages → is_ordinary view.shape.geometry p ≡ true → AreBytes bytes → KeepsGood (put_page p bytes) view

abbrev pub CatalogKeepsGood : Type 0
CatalogKeepsGood = (view : View) (at : ℕ) (bytes : List ℕ) → AreBytes bytes → KeepsGood (put_catalog at bytes) view
