-- What clean maps say of the pages of chains: each is of one object.
use Rattle.std.proofs.Common.{◌≡◌, ℕ, ◌/◌, ◌<◌, true, length, refl, sym, ap, subst, inl, inr, arith}
use Rattle.spec_file.specs.declared.geometry.Geometry.{Geometry}
use Rattle.spec_file.specs.Image.{Image, page}
use Rattle.spec_file.specs.Places.{HasShape, extent_count}
use Rattle.spec_file.specs.Catalog.{PassesCatalog}
use Rattle.spec_file.specs.CatalogRows.{CatalogRow}
use Rattle.spec_file.specs.Iam.{single_slot_count}
use Rattle.spec_file.specs.Roles.{is_ordinary}
use Rattle.spec_chain.specs.Chains.{IsObject, pointer, IsChainPage}
use Rattle.spec_chain.proofs.Pointers.{goes_good, inside_below}
use Rattle.spec_chain.specs.Uses.{Use, IsUse, pfs_byte, is_allocated}
use Rattle.law_clean.proofs.CatalogIds.{one_row}
use Rattle.law_frames.proofs.ChainRules.{HasCleanChain}
use Rattle.law_extents.proofs.GoodKinds.{used_allocated}
use Rattle.law_extents.proofs.WholeFile.{good_from}
use Rattle.spec_extents.specs.Extents.{AreGoodExtents}
use Rattle.spec_clean.specs.CleanFiles.{HasCleanMaps}

-- an image before a step
pub record IsStart (g : Geometry) (image : Image) : Type 0 where
  pub shape : HasShape g (length image)
  pub clean : HasCleanMaps g image

pub extent_below : (g : Geometry) (image : Image) (p : ℕ) → IsStart g image → p < length image → p / 8 < extent_count image
extent_below g image p start inside = let whole = start.shape.whole in omega (arith, inside, whole)

pub boot_inside : (g : Geometry) (image : Image) → IsStart g image → 9 < length image
boot_inside g image start = let low = start.shape.low in omega (arith, low)

-- what clean maps say of the pages of chains
pub chain_of : (g : Geometry) (image : Image) (row : CatalogRow) → IsStart g image → IsObject image row → HasCleanChain g image row
chain_of g image row start object x error_ = start.clean.none x (inl (row, object, error_))

pub goods : (g : Geometry) (image : Image) → IsStart g image → AreGoodExtents g image
goods g image start = good_from g image (λ x stands. start.clean.none x (inr stands))

-- a page of a chain
pub record IsHeld (g : Geometry) (image : Image) (row : CatalogRow) (q : ℕ) : Type 0 where
  pub inside : q < length image
  pub ordinary : is_ordinary g q ≡ true
  pub is_use : IsUse g image q (record { object = row.id; place = single_slot_count })
  pub allocated : is_allocated g image q ≡ true

pub held : (g : Geometry) (image : Image) (row : CatalogRow) (k : ℕ) → IsStart g image → IsObject image row → IsChainPage g image row k → IsHeld g image row (pointer image row k)
held g image row k start object is =
    let q = pointer image row k in
    let good = goes_good g image row k (is k (omega arith)) in
    let inside : q < length image = inside_below (length image) q good.inside in
    let use_ : IsUse g image q (record { object = row.id; place = single_slot_count }) = (row, object, refl, inr (refl, (k, is, refl))) in
    let page_ = (goods g image start (q / 8) (extent_below g image q start inside)).pages q refl in record {
      inside = inside;
      ordinary = good.ordinary;
      is_use = use_;
      allocated = used_allocated (pfs_byte g image q) single_slot_count (page_.used good.ordinary (record { object = row.id; place = single_slot_count }) use_);
    }

-- two objects share no page of their chains
pub one_holder : (g : Geometry) (image : Image) (row other : CatalogRow) (k j : ℕ) → IsStart g image → IsObject image row → IsObject image other
    → IsChainPage g image row k → IsChainPage g image other j → pointer image row k ≡ pointer image other j → row.id ≡ other.id
one_holder g image row other k j start object object_ is is_ same =
    let q = pointer image row k in
    let a = held g image row k start object is in
    let b = held g image other j start object_ is_ in
    let inside = a.inside in
    ap (λ (u : Use). u.object) (((goods g image start (q / 8) (extent_below g image q start inside)).pages q refl).one (record { object = row.id; place = single_slot_count })
    (record { object = other.id; place = single_slot_count }) a.is_use
    (subst (λ r. IsUse g image r (record { object = other.id; place = single_slot_count })) (sym same) b.is_use))

pub sound_catalog : (g : Geometry) (image : Image) → IsStart g image → (PassesCatalog (page image 9) → ⊥) → ⊥
sound_catalog g image start fails = start.clean.system 9 (boot_inside g image start) (inr (refl, fails))

-- an object of this id is this one
pub the_row : (g : Geometry) (image : Image) (row r : CatalogRow) → IsStart g image → IsObject image row → IsObject image r → r.id ≡ row.id → r ≡ row
the_row g image row r start object there same = one_row (page image 9) r row (sound_catalog g image start) there object same
