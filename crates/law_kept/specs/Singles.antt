-- What taking a single page, and the page of a new chain, does to an image.
use Rattle.std.specs.Prelude.{◌≡◌, ◌↔◌, ℕ, ◌/◌, ◌^◌, ◌<◌, false, true, IsTrue}
use Rattle.spec_file.specs.declared.geometry.Geometry.{Geometry}
use Rattle.spec_file.specs.declared.pfs.PfsKind.TheVariants.{Iam}
use Rattle.spec_file.specs.Image.{Image, page}
use Rattle.spec_file.specs.Pfs.{is_allocated_byte}
use Rattle.spec_file.specs.Places.{is_free, is_mixed}
use Rattle.spec_chain.specs.Uses.{pfs_byte}
use Rattle.spec_words.specs.Views.{View}
use Rattle.spec_alloc.specs.SinglePages.{single_page}
use Rattle.spec_alloc.specs.Objects.{new_chain}
use Rattle.spec_steps.specs.AtMost.{AtMost, page_of, either, maps_of}
use Rattle.spec_steps.specs.IamPages.{IsOnlyIam}
use Rattle.spec_steps.specs.Taking.{HasOpenPage, IsTakeable, IsHeldAs}
use Rattle.law_net.specs.GoodViews.{Leads}
use Rattle.law_alloc.specs.Keeps.{IfFound}
use Rattle.law_kept.specs.Views.{IsCleanView, OthersHoldExtents}

-- page p, which nobody has, gets this PFS byte, and its extent isn't free then. Nothing but that byte and the extent's bits
-- changes
pub record TakesPage (g : Geometry) (value p : ℕ) (image image' : Image) : Type 0 where
  pub takeable : IsTakeable g image p
  pub most : AtMost g (maps_of p) image image'
  pub free : is_free g image' (p / 8) ≡ false
  pub byte : pfs_byte g image' p ≡ value

-- where a single page is found on a clean view, it is taken so
abbrev pub SingleIsTaken : Type 0
SingleIsTaken = (view : View) (byte : ℕ) → is_allocated_byte byte ≡ true → IsCleanView view →
    Leads (single_page view.shape byte) view (λ found after. IfFound (λ p. TakesPage view.shape.geometry byte p view.now after.now) found)

-- and its extent is mixed exactly where a page is left to take, where others hold extents with bytes
abbrev pub SingleSetsSgam : Type 0
SingleSetsSgam = (view : View) (byte : ℕ) → is_allocated_byte byte ≡ true → IsCleanView view → OthersHoldExtents view →
    Leads (single_page view.shape byte) view (λ found after.
    IfFound (λ p. IsTrue (is_mixed view.shape.geometry after.now (p / 8)) ↔ HasOpenPage view.shape.geometry after.now (p / 8)) found)

-- the page of a new chain is a single page, and the one IAM page of the object of this id, which owns nothing else
pub record TakesIam (g : Geometry) (id p : ℕ) (image image' : Image) : Type 0 where
  pub takeable : IsTakeable g image p
  pub most : AtMost g (either (maps_of p) (page_of p)) image image'
  pub taken : IsHeldAs g image' p Iam
  pub new : IsOnlyIam id p (page image' p)

-- where CREATE's first page is given on a clean view, it is taken so
abbrev pub ChainIsTaken : Type 0
ChainIsTaken = (view : View) (id : ℕ) → id < 256 ^ 4 → IsCleanView view →
    Leads (new_chain view.shape id) view (λ p after. TakesIam view.shape.geometry id p view.now after.now)
