-- A step on an object whose chain links up as before: its uses and marks are those of its chain, all others stay.
use Rattle.std.proofs.Common.{◌≡◌, ◌≢◌, ◌⊎◌, ◌↔◌, ℕ, zero, ◌<◌, IsTrue, List, length, Contains, refl, sym, ap, subst, ◌∙◌, inl, inr, ⊎_elim, arith}
use Rattle.std.proofs.lemmas.Bool.{cases_eq, cases_order}
use Rattle.spec_file.specs.declared.geometry.Geometry.{Geometry}
use Rattle.spec_file.specs.Image.{Image, page}
use Rattle.spec_file.specs.Header.{says}
use Rattle.spec_file.specs.Catalog.{PassesCatalog}
use Rattle.spec_file.specs.CatalogRows.{CatalogRow, rows_of}
use Rattle.spec_file.specs.Iam.{single_slot_count}
use Rattle.spec_file.specs.Roles.{is_ordinary}
use Rattle.spec_chain.specs.Chains.{IsObject, pointer, IsChainPage}
use Rattle.spec_chain.specs.Marks.{IsMarker, IsMarked}
use Rattle.spec_chain.specs.Uses.{Use, IsUse, IsUseBy}
use Rattle.spec_clean.specs.CleanFiles.{HasCleanMaps}
use Rattle.spec_steps.specs.AtMost.{Changed, AtMost}
use Rattle.spec_steps.specs.Acts.{Owns, Acts}
use Rattle.spec_steps.specs.IamPages.{SameLinks, SameMarks, SameSlots, OnChain}
use Rattle.law_extents.proofs.WholeFile.{NoneIsBad}
use Rattle.law_frames.proofs.SameChain.{SameChain, chain_kept, marks_kept, uses_kept}
use Rattle.law_frames.proofs.ChainRules.{HasCleanChain, HasMarksInside, FirstSlotsInside, clean_whole, chain_clean}
use Rattle.law_frames.proofs.Held.{IsStart, chain_of, held, the_row}
use Rattle.law_writes.proofs.MapPages.{boot_not, differs}
use Rattle.law_steps.proofs.Owners.{NobodyOwns, one_owner}
use Rattle.law_steps.proofs.OneObject.{IsNotOthers, IsOwnStep, acts_from, other_uses, other_marks, clean_after}

-- two places of a chain are the same page only where they are the same
pub one_place : (g : Geometry) (image : Image) (row : CatalogRow) (j k : ℕ) → IsChainPage g image row j → IsChainPage g image row k → pointer image row j ≡ pointer image row k → j ≡ k
one_place g image row j k is_j is_k same = elim (cases_order j k) [
  | inl here ↦ here
  | inr (inl less) ↦ absurd ((is_k k (omega arith)).1 (j, less, same))
  | inr (inr more) ↦ absurd ((is_j j (omega arith)).1 (k, more, sym same))
]

pub chain_owns : (g : Geometry) (image : Image) (row : CatalogRow) (k : ℕ) → IsChainPage g image row k → Owns g image row (pointer image row k)
chain_owns g image row k is = inl (single_slot_count, inr (refl, (k, is, refl)))

-- the page is the object's, or nobody's
abbrev pub IsOwn : Geometry → Image → CatalogRow → ℕ → Type 0
IsOwn g image row q = Owns g image row q ⊎ NobodyOwns g image q

pub record StepsInChain (g : Geometry) (image image' : Image) (row : CatalogRow) (changed : Changed) : Type 0 where
  pub object : IsObject image row
  pub most : AtMost g changed image image'
  pub ordinary : (q : ℕ) → changed.pages q → IsTrue (is_ordinary g q)
  pub pages : (q : ℕ) → changed.pages q → IsOwn g image row q
  pub bytes : (q : ℕ) → changed.bytes q → IsOwn g image row q
  pub links : OnChain g image image' row SameLinks

module _ (g : Geometry) (image image' : Image) (row : CatalogRow) (changed : Changed) (start : IsStart g image) (step : StepsInChain g image image' row changed) where
  not_others : (q : ℕ) → q < length image → IsOwn g image row q → IsNotOthers g image row.id q
  not_others q inside own r object other owns = ⊎_elim (λ mine. other (one_owner g image start r row q inside object step.object owns mine)) (λ nobody. nobody r object owns) own

  pub same_boot : page image' 9 ≡ page image 9
  same_boot = step.most.pages 9 (inl refl) (λ c. differs g 9 9 (step.ordinary 9 c) (boot_not g) refl)

  back : (r : CatalogRow) → IsObject image' r → IsObject image r
  back r object = subst (λ boot. Contains (rows_of boot) r) same_boot object

  pub onto : (r : CatalogRow) → IsObject image r → IsObject image' r
  onto r object = subst (λ boot. Contains (rows_of boot) r) (sym same_boot) object

  as_own_step : IsOwnStep g image image' row.id changed
  as_own_step = record {
    most = step.most;
    catalog = subst PassesCatalog (sym same_boot);
    rows = λ r other. (back r, onto r);
    boot = λ type p. ap (says type p) same_boot;
    whole = λ q c. inr (step.ordinary q c);
    pages = λ q c inside ordinary. not_others q inside (step.pages q c);
    bytes = λ q c inside. not_others q inside (step.bytes q c);
  }

  pub acts : Acts g image image' row.id
  acts = acts_from g image image' row.id changed as_own_step

  pub own_kept : SameChain g image image' row
  own_kept = chain_kept g image image' row step.most.size (clean_whole g image row (chain_of g image row start step.object)) step.links

  own_row : (r : CatalogRow) → IsObject image r → r.id ≡ row.id → r ≡ row
  own_row r object same = the_row g image row r start step.object object same

  -- the uses and marks of others are as before, and those of the object are those of its chain
  pub use_from : (q : ℕ) (u : Use) → IsUse g image' q u → ((u.object ≢ row.id) × IsUse g image q u) ⊎ ((u.object ≡ row.id) × IsUseBy g image' q row u.place)
  use_from q u h = ⊎_elim (λ same. inr (same, subst (λ r. IsUseBy g image' q r u.place) (own_row h.0 (back h.0 h.1) (h.2 ∙ same)) h.3))
      (λ other. inl (other, (other_uses g image image' row.id start acts q u other).0 h)) (cases_eq u.object row.id)

  pub use_in : (q : ℕ) (u : Use) → IsUse g image q u → (u.object ≡ row.id → IsUseBy g image q row u.place → IsUseBy g image' q row u.place) → IsUse g image' q u
  use_in q u h own = ⊎_elim (λ same. (row, onto row step.object, sym same, own same (subst (λ r. IsUseBy g image q r u.place) (own_row h.0 h.1 (h.2 ∙ same)) h.3)))
      (λ other. (other_uses g image image' row.id start acts q u other).1 h) (cases_eq u.object row.id)

  pub mark_from : (e m : ℕ) → IsMarker g image' e m → ((m ≢ row.id) × IsMarker g image e m) ⊎ ((m ≡ row.id) × IsMarked g image' row e)
  mark_from e m h = ⊎_elim (λ same. inr (same, subst (λ r. IsMarked g image' r e) (own_row h.0 (back h.0 h.1) (h.2 ∙ same)) h.3))
      (λ other. inl (other, (other_marks g image image' row.id start acts e m other).0 h)) (cases_eq m row.id)

  pub mark_in : (e m : ℕ) → IsMarker g image e m → (m ≡ row.id → IsMarked g image row e → IsMarked g image' row e) → IsMarker g image' e m
  mark_in e m h own = ⊎_elim (λ same. (row, onto row step.object, sym same, own same (subst (λ r. IsMarked g image r e) (own_row h.0 h.1 (h.2 ∙ same)) h.3)))
      (λ other. (other_marks g image image' row.id start acts e m other).1 h) (cases_eq m row.id)

  -- where the slots stay, so do the uses; where the marks stay, so do the marks
  pub same_uses : OnChain g image image' row SameSlots → (q : ℕ) (u : Use) → IsUse g image' q u ↔ IsUse g image q u
  same_uses slots q u = let own = uses_kept g image image' row q u.place own_kept slots in (
    λ h. ⊎_elim (λ old. old.1) (λ new. (row, step.object, sym new.0, own.0 new.1)) (use_from q u h),
    λ h. use_in q u h (λ same. own.1),
  )

  pub same_markers : OnChain g image image' row SameMarks → (e m : ℕ) → IsMarker g image' e m ↔ IsMarker g image e m
  same_markers marks e m = let own = marks_kept g image image' row e own_kept marks in (
    λ h. ⊎_elim (λ old. old.1) (λ new. (row, step.object, sym new.0, own.0 new.1)) (mark_from e m h),
    λ h. mark_in e m h (λ same. own.1),
  )

  -- clean maps stay clean, where new marks and slots are inside and no extent is bad
  pub chain_keeps_clean : OnChain g image image' row (HasMarksInside g (length image')) → FirstSlotsInside g image image' row → NoneIsBad g image' → HasCleanMaps g image'
  chain_keeps_clean marks slots good = clean_after g image image' row.id start acts
      (λ r object same. subst (HasCleanChain g image') (sym (own_row r (back r object) same))
      (chain_clean g image image' row (chain_of g image row start step.object) own_kept marks slots)) good

-- a page of the chain that doesn't change has the same bytes
pub unchanged : (g : Geometry) (image image' : Image) (row : CatalogRow) (changed : Changed) (k : ℕ) → IsStart g image → IsObject image row → AtMost g changed image image'
    → IsChainPage g image row k → (changed.pages (pointer image row k) → ⊥) → page image' (pointer image row k) ≡ page image (pointer image row k)
unchanged g image image' row changed k start object most is other = most.pages (pointer image row k) (inr (held g image row k start object is).ordinary) other

pub same_links : (bytes : List ℕ) → SameLinks bytes bytes
same_links bytes = record { type = refl; number = refl; object = refl; prev = refl; next = refl; interval = refl; sequence = refl }

pub same_marks_inside : (g : Geometry) (image image' : Image) (row : CatalogRow) → OnChain g image image' row SameMarks → OnChain g image image' row (HasMarksInside g (length image'))
same_marks_inside g image image' row marks k is = record { inside = λ n low marked. inl (sym (marks k is n) ∙ marked) }

pub same_slots_inside : (g : Geometry) (image image' : Image) (row : CatalogRow) → OnChain g image image' row SameSlots → FirstSlotsInside g image image' row
same_slots_inside g image image' row slots is = record { inside = λ i low. inl (slots zero is i low) }
