-- A step on one object leaves to every other its chain, uses and marks, and its pages with what is wrong with them.
use Rattle.std.proofs.Common.{◌≢◌, ◌↔◌, ℕ, inl, inr}
use Rattle.spec_file.specs.declared.geometry.Geometry.{Geometry}
use Rattle.spec_file.specs.Image.{Image}
use Rattle.spec_file.specs.CatalogRows.{CatalogRow}
use Rattle.spec_file.specs.Iam.{single_slot_count}
use Rattle.std.proofs.Common.{refl}
use Rattle.spec_chain.specs.Chains.{IsObject}
use Rattle.spec_chain.specs.Marks.{IsMarked}
use Rattle.spec_chain.specs.Uses.{IsUseBy}
use Rattle.spec_steps.specs.Acts.{Owns, Acts}
use Rattle.spec_steps.specs.PartsRead.{ReadsSameObject}
use Rattle.spec_steps.specs.Tables.{Has}
use Rattle.law_frames.specs.Laws.{OthersAreKept, OthersStayClean}
use Rattle.law_frames.proofs.ChainRules.{HasCleanChain}
use Rattle.law_frames.proofs.KeptObjects as kept

-- what an object has, it uses or marks
pub has_owned : (g : Geometry) (image : Image) (row : CatalogRow) (q : ℕ) → Has g image row q → Owns g image row q
has_owned g image row q (inl (inl slot)) = inl (slot.0, inl slot.1)
has_owned g image row q (inl (inr marked)) = inr marked.1
has_owned g image row q (inr chain) = inl (single_slot_count, inr (refl, chain))

module _ (g : Geometry) (image image' : Image) (o : ℕ) (row : CatalogRow) (acts : Acts g image image' o) (object : IsObject image row) (other : row.id ≢ o) where
  -- of another object the same is read
  pub reads_other : ReadsSameObject g image image' row
  reads_other = record {
    pages = λ p has inside ordinary. acts.pages row p object other (has_owned g image row p has) inside ordinary;
    bytes = λ p owns inside. acts.bytes row p object other owns inside;
  }

  module _ (clean : HasCleanChain g image row) where
    pub other_chain : HasCleanChain g image' row
    other_chain = kept.kept_chain g image image' row acts.size reads_other clean

    pub same_uses : (p place : ℕ) → IsUseBy g image' p row place ↔ IsUseBy g image p row place
    same_uses = kept.same_uses g image image' row acts.size reads_other clean

    pub same_marks : (e : ℕ) → IsMarked g image' row e ↔ IsMarked g image row e
    same_marks = kept.same_marks g image image' row acts.size reads_other clean

pub others_are_kept : OthersAreKept
others_are_kept g image image' o row acts object other clean = kept.is_kept g image image' row acts.size (reads_other g image image' o row acts object other) clean

pub others_stay_clean : OthersStayClean
others_stay_clean g image image' o row acts object other clean = kept.kept_clean g image image' row acts.size (reads_other g image image' o row acts object other) clean
