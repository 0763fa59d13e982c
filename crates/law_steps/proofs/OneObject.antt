-- A step on one object, where the maps are clean: what must be shown of it, that they stay clean.
use Rattle.std.proofs.Common.{◌≡◌, ◌≢◌, ◌⊎◌, ◌↔◌, ℕ, ◌/◌, ◌%◌, ◌<◌, false, IsTrue, length, refl, sym, ap, subst, ◌∙◌, inl, inr, ⊎_elim, arith}
use Rattle.std.proofs.lemmas.Bool.{cases_eq}
use Rattle.spec_file.specs.declared.geometry.Geometry.{Geometry}
use Rattle.spec_file.specs.Image.{Image, page}
use Rattle.spec_file.specs.Header.{says}
use Rattle.spec_file.specs.Places.{extent_count, is_free, is_mixed}
use Rattle.spec_file.specs.Roles.{is_ordinary}
use Rattle.spec_file.specs.Catalog.{PassesCatalog}
use Rattle.spec_file.specs.CatalogRows.{CatalogRow}
use Rattle.spec_chain.specs.Chains.{IsObject}
use Rattle.spec_chain.specs.Marks.{IsMarker}
use Rattle.spec_chain.specs.Uses.{Use, IsUse, pfs_byte}
use Rattle.spec_check.specs.System.{IsSystemSound}
use Rattle.spec_extents.specs.Extents.{extent_of, FitsUse, IsGoodExtent, AreGoodExtents}
use Rattle.spec_clean.specs.CleanFiles.{HasCleanMaps}
use Rattle.spec_steps.specs.AtMost.{Changed, AtMost, either, maps_of}
use Rattle.spec_steps.specs.Writes.{SaysSame}
use Rattle.spec_steps.specs.Acts.{Acts, Owns}
use Rattle.spec_steps.specs.Taking.{IsTakeable}
use Rattle.law_extents.proofs.GoodKinds.{no_type}
use Rattle.law_extents.proofs.GoodChanges.{same_good, single_taken}
use Rattle.law_extents.proofs.WholeFile.{NoneIsBad, no_error_unless}
use Rattle.law_frames.proofs.ChainRules.{HasCleanChain}
use Rattle.law_frames.proofs.Held.{IsStart, chain_of, boot_inside}
use Rattle.law_frames.proofs.OtherObjects.{same_uses, same_marks, other_chain}

-- no object but o owns the page
abbrev pub IsNotOthers : Geometry → Image → ℕ → ℕ → Type 0
IsNotOthers g image o q = (row : CatalogRow) → IsObject image row → row.id ≢ o → Owns g image row q → ⊥

-- what changes at most is nobody else's, and page 9 keeps the entries of others
pub record IsOwnStep (g : Geometry) (image image' : Image) (o : ℕ) (changed : Changed) : Type 0 where
  pub most : AtMost g changed image image'
  pub catalog : PassesCatalog (page image 9) → PassesCatalog (page image' 9)
  pub rows : (row : CatalogRow) → row.id ≢ o → IsObject image' row ↔ IsObject image row
  pub boot : SaysSame (page image 9) (page image' 9)
  pub whole : (q : ℕ) → changed.pages q → (q ≡ 9) ⊎ IsTrue (is_ordinary g q)
  pub pages : (q : ℕ) → changed.pages q → q < length image → IsTrue (is_ordinary g q) → IsNotOthers g image o q
  pub bytes : (q : ℕ) → changed.bytes q → q < length image → IsNotOthers g image o q

pub acts_from : (g : Geometry) (image image' : Image) (o : ℕ) (changed : Changed) → IsOwnStep g image image' o changed → Acts g image image' o
acts_from g image image' o changed step = record {
  size = step.most.size;
  system = λ q type inside is. ⊎_elim
      (λ nine. subst (λ r. says type r (page image' r) ≡ says type r (page image r)) (sym nine) (step.boot type 9))
      (λ other. step.most.system q type inside
      (λ c. ⊎_elim other (λ ordinary. no_type g q type ordinary is) (step.whole q c)) is) (cases_eq q 9);
  catalog = step.catalog;
  rows = step.rows;
  pages = λ row p object other owns inside ordinary. step.most.pages p (inr ordinary) (λ c. step.pages p c inside ordinary row object other owns);
  bytes = λ row p object other owns inside. step.most.bytes p inside (λ c. step.bytes p c inside row object other owns);
}

module _ (g : Geometry) (image image' : Image) (o : ℕ) (start : IsStart g image) (acts : Acts g image image' o) where
  -- the uses and marks of other objects are as before
  pub other_uses : (q : ℕ) (u : Use) → u.object ≢ o → IsUse g image' q u ↔ IsUse g image q u
  other_uses q u other = (
    λ h. let not_own : h.0.id ≢ o = λ same. other (sym h.2 ∙ same) in
        let object = (acts.rows h.0 not_own).0 h.1 in
        (h.0, object, h.2, (same_uses g image image' o h.0 acts object not_own (chain_of g image h.0 start object) q u.place).0 h.3),
    λ h. let not_own : h.0.id ≢ o = λ same. other (sym h.2 ∙ same) in
        (h.0, (acts.rows h.0 not_own).1 h.1, h.2, (same_uses g image image' o h.0 acts h.1 not_own (chain_of g image h.0 start h.1) q u.place).1 h.3),
  )

  pub other_marks : (e m : ℕ) → m ≢ o → IsMarker g image' e m ↔ IsMarker g image e m
  other_marks e m other = (
    λ h. let not_own : h.0.id ≢ o = λ same. other (sym h.2 ∙ same) in
        let object = (acts.rows h.0 not_own).0 h.1 in
        (h.0, object, h.2, (same_marks g image image' o h.0 acts object not_own (chain_of g image h.0 start object) e).0 h.3),
    λ h. let not_own : h.0.id ≢ o = λ same. other (sym h.2 ∙ same) in
        (h.0, (acts.rows h.0 not_own).1 h.1, h.2, (same_marks g image image' o h.0 acts h.1 not_own (chain_of g image h.0 start h.1) e).1 h.3),
  )

  -- no system page is wrong
  pub sound_after : IsSystemSound g image'
  sound_after q inside (inl (type, is, says_)) =
      let old : q < length image = subst (λ n. q < n) acts.size inside in
      start.clean.system q old (inl (type, is, sym (acts.system q type old is) ∙ says_))
  sound_after q inside (inr (nine, fails)) =
      start.clean.system 9 (boot_inside g image start) (inr (refl, λ passes. fails (subst PassesCatalog (sym (ap (page image') nine)) (acts.catalog passes))))

  -- what is left to show: the object's own chain has no error, and every extent is good
  pub clean_after : ((r : CatalogRow) → IsObject image' r → r.id ≡ o → HasCleanChain g image' r) → NoneIsBad g image' → HasCleanMaps g image'
  clean_after own good = record {
    system = sound_after;
    none = λ x error_. ⊎_elim
        (λ chain. ⊎_elim (λ same. own chain.0 chain.1 same x chain.2)
        (λ other. let object = (acts.rows chain.0 other).0 chain.1 in
        other_chain g image image' o chain.0 acts object other (chain_of g image chain.0 start object) x chain.2) (cases_eq chain.0.id o))
        (λ stands. no_error_unless g image' (subst (λ n. n % 8 ≡ 0) (sym acts.size) start.shape.whole) good x stands) error_;
  }

-- the maps change at one extent alone
pub record ChangesExtent (g : Geometry) (image image' : Image) (e : ℕ) : Type 0 where
  pub free : (f : ℕ) → f < extent_count image → f ≢ e → is_free g image' f ≡ is_free g image f
  pub mixed : (f : ℕ) → f < extent_count image → f ≢ e → is_mixed g image' f ≡ is_mixed g image f
  pub bytes : (q : ℕ) → q < length image → q / 8 ≢ e → pfs_byte g image' q ≡ pfs_byte g image q

pub below : (image : Image) (e q : ℕ) → e < extent_count image → q / 8 ≡ e → q < length image
below image e q inside at = omega (arith, at, inside)

-- then the others stay good
pub one_extent : (g : Geometry) (image image' : Image) (e : ℕ) → AreGoodExtents g image → length image' ≡ length image → ChangesExtent g image image' e
    → ((q : ℕ) (u : Use) → q / 8 ≢ e → IsUse g image' q u ↔ IsUse g image q u)
    → ((f m : ℕ) → f ≢ e → IsMarker g image' f m ↔ IsMarker g image f m)
    → IsGoodExtent g e (extent_of g image' e) → NoneIsBad g image'
one_extent g image image' e good size changes uses marks here f inside_ bad =
    let inside : f < extent_count image = subst (λ n. f < n / 8) size inside_ in
    bad (⊎_elim
    (λ same. subst (λ h. IsGoodExtent g h (extent_of g image' h)) (sym same) here)
    (λ other. same_good g f (extent_of g image f) (extent_of g image' f) (good f inside) (record {
      free = changes.free f inside other;
      mixed = changes.mixed f inside other;
      bytes = λ q at. changes.bytes q (below image f q inside at) (λ same. other (sym at ∙ same));
      uses = λ q at u. uses q u (λ same. other (sym at ∙ same));
      marks = λ m. marks f m other;
    })) (cases_eq f e))

-- a page is taken as a single page, with one new use
pub record TakesOne (g : Geometry) (image image' : Image) (p : ℕ) (u : Use) : Type 0 where
  pub takeable : IsTakeable g image p
  pub changes : ChangesExtent g image image' (p / 8)
  pub free : is_free g image' (p / 8) ≡ false
  pub byte : FitsUse (pfs_byte g image' p) u.place
  pub bytes : (q : ℕ) → q < length image → q ≢ p → pfs_byte g image' q ≡ pfs_byte g image q
  pub uses : (q : ℕ) (v : Use) → IsUse g image' q v ↔ (IsUse g image q v ⊎ ((q ≡ p) × (v ≡ u)))
  pub marks : (e m : ℕ) → IsMarker g image' e m ↔ IsMarker g image e m

pub taken_extents : (g : Geometry) (image image' : Image) (p : ℕ) (u : Use) → AreGoodExtents g image → length image % 8 ≡ 0 → length image' ≡ length image
    → TakesOne g image image' p u → NoneIsBad g image'
taken_extents g image image' p u good whole size takes =
    let e = p / 8 in
    let inside : e < extent_count image = let low = takes.takeable.inside in omega (arith, low, whole) in
    one_extent g image image' e good size takes.changes
    (λ q v other. (
      λ h. ⊎_elim (λ old. old) (λ new. absurd (other (ap (λ n. n / 8) new.0))) ((takes.uses q v).0 h),
      λ h. (takes.uses q v).1 (inl h),
    ))
    (λ f m other. takes.marks f m)
    (single_taken g e p u (extent_of g image e) (extent_of g image' e) (good e inside) (record {
      from = takes.takeable.extent;
      at = refl;
      ordinary = takes.takeable.ordinary;
      unallocated = takes.takeable.unallocated;
      free = takes.free;
      byte = takes.byte;
      bytes = λ q at other. takes.bytes q (below image e q inside at) other;
      uses = λ q at v. takes.uses q v;
      marks = λ m. (takes.marks e m).0;
    }))

-- of the maps only those of one page may change
pub record HasNoMaps (changed : Changed) : Type 0 where
  pub free : (e : ℕ) → changed.free e → ⊥
  pub mixed : (e : ℕ) → changed.mixed e → ⊥
  pub bytes : (p : ℕ) → changed.bytes p → ⊥

pub single_maps : (g : Geometry) (image image' : Image) (p : ℕ) (rest : Changed) → HasNoMaps rest → AtMost g (either (maps_of p) rest) image image' → ChangesExtent g image image' (p / 8)
single_maps g image image' p rest none most = record {
  free = λ f inside other. most.free f inside (λ c. ⊎_elim (λ a. ⊎_elim other (λ b. ⊎_elim (λ x. x) (λ x. x) b) a) (none.free f) c);
  mixed = λ f inside other. most.mixed f inside (λ c. ⊎_elim (λ a. ⊎_elim (λ x. x) (λ b. ⊎_elim other (λ x. x) b) a) (none.mixed f) c);
  bytes = λ q inside other. most.bytes q inside
      (λ c. ⊎_elim (λ a. ⊎_elim (λ x. x) (λ b. ⊎_elim (λ x. x) (λ same. other (ap (λ n. n / 8) same)) b) a) (none.bytes q) c);
}

pub single_bytes : (g : Geometry) (image image' : Image) (p : ℕ) (rest : Changed) → HasNoMaps rest → AtMost g (either (maps_of p) rest) image image'
    → (q : ℕ) → q < length image → q ≢ p → pfs_byte g image' q ≡ pfs_byte g image q
single_bytes g image image' p rest none most q inside other =
    most.bytes q inside (λ c. ⊎_elim (λ a. ⊎_elim (λ x. x) (λ b. ⊎_elim (λ x. x) other b) a) (none.bytes q) c)
