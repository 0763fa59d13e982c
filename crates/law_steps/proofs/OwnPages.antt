-- A page of an object that changes with its PFS byte, in a slot or of a marked extent, leaves clean maps clean.
use Rattle.std.proofs.Common.{◌≡◌, ◌≢◌, ◌↔◌, ℕ, ◌/◌, ◌<◌, true, List, length, refl, sym, ap, subst, inl, inr, ⊎_elim, arith}
use Rattle.spec_file.specs.declared.geometry.Geometry.{Geometry}
use Rattle.spec_file.specs.Image.{Image, page}
use Rattle.spec_file.specs.CatalogRows.{CatalogRow}
use Rattle.spec_file.specs.Places.{is_free, is_mixed, extent_count}
use Rattle.spec_file.specs.Roles.{is_ordinary}
use Rattle.spec_chain.specs.Chains.{pointer, IsChainPage, IsObject}
use Rattle.spec_chain.specs.Marks.{IsMarker, IsMarked}
use Rattle.spec_chain.specs.Uses.{Use, HoldsPage, IsUse, pfs_byte}
use Rattle.spec_chain.proofs.Pointers.{inside_below}
use Rattle.spec_file.specs.Iam.{single_slot_count}
use Rattle.spec_extents.specs.Extents.{extent_of, IsGoodExtent}
use Rattle.spec_steps.specs.AtMost.{Changed, AtMost, byte_of, page_of, either}
use Rattle.spec_file.specs.declared.pfs.PfsKind.TheVariants.{Single}
use Rattle.spec_steps.specs.IamPages.{SameLinks, SameMarks, SameSlots, OnChain}
use Rattle.spec_steps.specs.Taking.{ChangesSinglePage, ChangesMarkedPage}
use Rattle.law_extents.proofs.GoodChanges.{byte_set, single_filled}
use Rattle.law_frames.proofs.Held.{IsStart, goods, held, extent_below}
use Rattle.spec_steps.specs.Acts.{Owns, StaysClean}
use Rattle.law_steps.proofs.OneObject.{one_extent, below}
use Rattle.law_steps.proofs.InChain.{StepsInChain, acts, onto, same_uses, same_markers, chain_keeps_clean, unchanged, same_links, same_marks_inside, same_slots_inside}

-- a page of an extent that the object marks isn't one of its chain
pub marked_apart : (g : Geometry) (image : Image) (row : CatalogRow) (p k : ℕ) → IsStart g image → IsObject image row → p < length image → IsMarked g image row (p / 8)
    → IsChainPage g image row k → pointer image row k ≢ p
marked_apart g image row p k start object inside marked is same =
    let good = goods g image start (p / 8) (extent_below g image p start inside) in
    let h = held g image row k start object is in
    let u : Use = record { object = row.id; place = single_slot_count } in
    good.mixed_marked (inl (inl (pointer image row k, ap (λ n. n / 8) same, (u, h.is_use)))) (row.id, (row, object, refl, marked))

-- nor is a page in one of its slots
pub slot_apart : (g : Geometry) (image : Image) (row : CatalogRow) (slot p k : ℕ) → IsStart g image → IsObject image row → HoldsPage g image row slot p
    → IsChainPage g image row k → pointer image row k ≢ p
slot_apart g image row slot p k start object holds is same =
    let inside = inside_below (length image) p holds.1 in
    let h = held g image row k start object is in
    let u : Use = record { object = row.id; place = single_slot_count } in
    let v : Use = record { object = row.id; place = slot } in
    let equal : u ≡ v = ((goods g image start (p / 8) (extent_below g image p start inside)).pages p refl).one u v (subst (λ q. IsUse g image q u) same h.is_use) (row, object, refl, inl holds) in
    let place = ap (λ (w : Use). w.place) equal in
    let low = holds.0.0 in omega (arith, place, low)

-- a page that isn't one of the chain changes, and its PFS byte
pub record ChangesOwn (g : Geometry) (image image' : Image) (row : CatalogRow) (p : ℕ) : Type 0 where
  pub object : IsObject image row
  pub inside : p < length image
  pub ordinary : is_ordinary g p ≡ true
  pub owns : Owns g image row p
  pub apart : (k : ℕ) → IsChainPage g image row k → pointer image row k ≢ p
  pub most : AtMost g (either (byte_of p) (page_of p)) image image'

module _ (g : Geometry) (image image' : Image) (row : CatalogRow) (p : ℕ) (start : IsStart g image) (sets : ChangesOwn g image image' row p) where
  abbrev changed : Changed
  changed = either (byte_of p) (page_of p)

  same_page : OnChain g image image' row (λ old new. new ≡ old)
  same_page k is = unchanged g image image' row changed k start sets.object sets.most is (λ c. ⊎_elim (λ x. x) (sets.apart k is) c)

  on_chain : (P : List ℕ → List ℕ → Type 0) → ((b : List ℕ) → P b b) → OnChain g image image' row P
  on_chain P same k is = subst (P (page image (pointer image row k))) (sym (same_page k is)) (same (page image (pointer image row k)))

  step : StepsInChain g image image' row changed
  step = record {
    object = sets.object;
    most = sets.most;
    ordinary = λ q c. ⊎_elim (λ x. absurd x) (λ same. subst (λ r. is_ordinary g r ≡ true) (sym same) sets.ordinary) c;
    pages = λ q c. ⊎_elim (λ x. absurd x) (λ same. inl (subst (Owns g image row) (sym same) sets.owns)) c;
    bytes = λ q c. ⊎_elim (λ same. inl (subst (Owns g image row) (sym same) sets.owns)) (λ x. absurd x) c;
    links = on_chain SameLinks same_links;
  }

  -- the extent's two bits stay, and the bytes of its other pages, with all uses and marks
  same_free : (f : ℕ) → f < extent_count image → is_free g image' f ≡ is_free g image f
  same_free f low = sets.most.free f low (λ c. ⊎_elim (λ x. x) (λ x. x) c)

  pub same_mixed : (f : ℕ) → f < extent_count image → is_mixed g image' f ≡ is_mixed g image f
  same_mixed f low = sets.most.mixed f low (λ c. ⊎_elim (λ x. x) (λ x. x) c)

  pub same_bytes : (q : ℕ) → q < length image → q ≢ p → pfs_byte g image' q ≡ pfs_byte g image q
  same_bytes q low other = sets.most.bytes q low (λ c. ⊎_elim other (λ x. x) c)

  pub uses : (q : ℕ) (u : Use) → IsUse g image' q u ↔ IsUse g image q u
  uses = same_uses g image image' row changed start step (on_chain SameSlots (λ b i low. refl))

  pub marks : (f m : ℕ) → IsMarker g image' f m ↔ IsMarker g image f m
  marks = same_markers g image image' row changed start step (on_chain SameMarks (λ b n. refl))

  pub own_object : IsObject image' row
  own_object = onto g image image' row changed start step row sets.object

  pub in_file : p / 8 < extent_count image
  in_file = extent_below g image p start sets.inside

  own_clean : IsGoodExtent g (p / 8) (extent_of g image' (p / 8)) → StaysClean g image image' row.id
  own_clean good = record {
    acts = acts g image image' row changed start step;
    maps = chain_keeps_clean g image image' row changed start step (same_marks_inside g image image' row (on_chain SameMarks (λ b n. refl)))
        (same_slots_inside g image image' row (on_chain SameSlots (λ b i low. refl)))
        (one_extent g image image' (p / 8) (goods g image start) sets.most.size
        (record { free = λ f low other. same_free f low; mixed = λ f low other. same_mixed f low; bytes = λ q low other. same_bytes q low (λ same. other (ap (λ n. n / 8) same)) })
        (λ q u other. uses q u) (λ f m other. marks f m) good);
  }

pub own_of_marked : (g : Geometry) (image image' : Image) (row : CatalogRow) (p : ℕ) → IsStart g image → ChangesMarkedPage g image image' row p → ChangesOwn g image image' row p
own_of_marked g image image' row p start sets = record {
  object = sets.object;
  inside = sets.inside;
  ordinary = sets.ordinary;
  owns = inr sets.marked;
  apart = λ k is. marked_apart g image row p k start sets.object sets.inside sets.marked is;
  most = sets.most;
}

pub own_of_single : (g : Geometry) (image image' : Image) (row : CatalogRow) (p : ℕ) → IsStart g image → ChangesSinglePage g image image' row p → ChangesOwn g image image' row p
own_of_single g image image' row p start sets = record {
  object = sets.object;
  inside = inside_below (length image) p sets.holds.1;
  ordinary = sets.ordinary;
  owns = inl (sets.slot, inl sets.holds);
  apart = λ k is. slot_apart g image row sets.slot p k start sets.object sets.holds is;
  most = sets.most;
}

pub marked_page_clean : (g : Geometry) (image image' : Image) (row : CatalogRow) (p : ℕ) → IsStart g image → ChangesMarkedPage g image image' row p → StaysClean g image image' row.id
marked_page_clean g image image' row p start sets =
    let e = p / 8 in
    let own = own_of_marked g image image' row p start sets in
    let inside = in_file g image image' row p start own in
    own_clean g image image' row p start own (byte_set g e p (extent_of g image e) (extent_of g image' e) (goods g image start e inside) (record {
      from = (row.id, (row, sets.object, refl, sets.marked));
      at = refl;
      ordinary = sets.ordinary;
      free = same_free g image image' row p start own e inside;
      mixed = same_mixed g image image' row p start own e inside;
      byte = sets.byte;
      bytes = λ q at. same_bytes g image image' row p start own q (below image e q inside at);
      uses = λ q at u. uses g image image' row p start own q u;
      marks = marks g image image' row p start own e;
    }))

pub single_page_clean : (g : Geometry) (image image' : Image) (row : CatalogRow) (p : ℕ) → IsStart g image → ChangesSinglePage g image image' row p → StaysClean g image image' row.id
single_page_clean g image image' row p start sets =
    let e = p / 8 in
    let u : Use = record { object = row.id; place = sets.slot } in
    let own = own_of_single g image image' row p start sets in
    let inside = in_file g image image' row p start own in
    own_clean g image image' row p start own (single_filled g e p u (extent_of g image e) (extent_of g image' e) (goods g image start e inside) (record {
      from = (row, sets.object, refl, inl sets.holds);
      at = refl;
      ordinary = sets.ordinary;
      free = same_free g image image' row p start own e inside;
      mixed = same_mixed g image image' row p start own e inside;
      byte = record { kind = Single; is = inl (sets.holds.0.0, refl); fits = sets.byte };
      bytes = λ q at. same_bytes g image image' row p start own q (below image e q inside at);
      uses = λ q at v. uses g image image' row p start own q v;
      marks = marks g image image' row p start own e;
    }))
