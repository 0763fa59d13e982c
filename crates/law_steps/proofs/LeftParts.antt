-- What each step leaves of what the parts of a clean file read.
use Rattle.std.proofs.Common.{◌≡◌, ◌≢◌, ◌⊎◌, ◌↔◌, ℕ, zero, ◌/◌, ◌<◌, true, IsTrue, refl, sym, ap, subst, ◌∙◌, inl, inr, ⊎_elim}
use Rattle.std.proofs.lemmas.Bool.{both_ways}
use Rattle.spec_file.specs.declared.geometry.Geometry.{Geometry}
use Rattle.spec_file.specs.Image.{Image}
use Rattle.spec_file.specs.CatalogRows.{CatalogRow}
use Rattle.spec_file.specs.Places.{extent_count}
use Rattle.spec_file.specs.Roles.{is_ordinary}
use Rattle.spec_chain.specs.Chains.{IsObject, pointer, IsChainPage, IsInChain}
use Rattle.spec_chain.specs.Marks.{IsMarker, HasMarker}
use Rattle.spec_chain.specs.Uses.{Use, IsUse, HasUse}
use Rattle.spec_steps.specs.Acts.{Acts}
use Rattle.spec_steps.specs.AtMost.{Changed, AtMost, free_bit, byte_of, page_of, either, maps_of}
use Rattle.spec_steps.specs.Freeing.{FreesSingle, FreesLast, chain_pages}
use Rattle.spec_steps.specs.PartsRead.{ReadsSameCatalog, IsOfExtent, ReadsSameExtent, ReadsSameTable, LeavesAllParts}
use Rattle.spec_steps.specs.Taking.{PutsIntoSlot, ChangesSinglePage, ChangesMarkedPage, MarksExtent, GrowsChain}
use Rattle.law_writes.proofs.MapPages.{boot_not, differs}
use Rattle.law_frames.proofs.Held.{IsStart, held}
use Rattle.law_frames.proofs.OtherObjects.{reads_other}
use Rattle.law_steps.proofs.OneObject.{ChangesExtent, below}
use Rattle.law_steps.proofs.OwnPages.{own_of_marked, own_of_single, uses, marks, marked_page_clean, single_page_clean}
use Rattle.law_steps.proofs.FilledSlots.{slot_uses, slot_markers, slot_clean}
use Rattle.law_steps.proofs.FreedSlots.{uses_left, freed_markers, freed_single_clean}
use Rattle.law_steps.proofs.MarkedExtents.{mark_uses, mark_uses_in, markers, mark_clean}
use Rattle.law_steps.proofs.FreedExtents.{freed_last_uses, freed_last_uses_in, marker_other, freed_last_clean}
use Rattle.law_steps.proofs.GrownChains.{adds, growth_clean}
use Rattle.law_steps.proofs.ExactSgam.{changes_from, single_changes}
use Rattle.law_steps.proofs.AllocatedPages.{single_pages}

-- ---- what all steps leave

-- a step on one object leaves what the parts of other tables read
pub tables_left : (g : Geometry) (image image' : Image) (o : ℕ) → Acts g image image' o → (n : ℕ) → n ≢ o → ReadsSameTable g image image' n
tables_left g image image' o acts n other = record {
  rows = λ row same. acts.rows row (λ own. other (sym same ∙ own));
  owned = λ row object same. reads_other g image image' o row acts object (λ own. other (sym same ∙ own));
}

-- where maps, uses and marks change at one extent alone, the parts of all others read the same
pub extents_left : (g : Geometry) (image image' : Image) (e : ℕ) → ChangesExtent g image image' e → ((q : ℕ) (u : Use) → q / 8 ≢ e → IsUse g image' q u ↔ IsUse g image q u)
    → ((f m : ℕ) → f ≢ e → IsMarker g image' f m ↔ IsMarker g image f m) → (f : ℕ) → f < extent_count image → f ≢ e → ReadsSameExtent g image image' f
extents_left g image image' e changes uses marks f low other = record {
  free = changes.free f low other;
  mixed = changes.mixed f low other;
  uses = λ q at u. uses q u (λ same. other (sym at ∙ same));
  marks = λ m. marks f m other;
  bytes = λ q at of. changes.bytes q (below image f q low at) (λ same. other (sym at ∙ same));
}

-- where only pages that objects may own change, page 9 doesn't
pub catalog_left : (g : Geometry) (image image' : Image) (o : ℕ) (changed : Changed) → Acts g image image' o → AtMost g changed image image'
    → ((q : ℕ) → changed.pages q → is_ordinary g q ≡ true) → ReadsSameCatalog g image image'
catalog_left g image image' o changed acts most ordinary = record {
  boot = most.pages 9 (inl refl) (λ c. differs g 9 9 (ordinary 9 c) (boot_not g) refl);
  system = acts.system;
}

-- page p and pages of the chain are such
own_ordinary : (g : Geometry) (image : Image) (row : CatalogRow) (p q : ℕ) → IsStart g image → IsObject image row → is_ordinary g p ≡ true → (q ≡ p) ⊎ IsInChain g image row q → is_ordinary g q ≡ true
own_ordinary g image row p q start object ordinary (inl same) = subst (λ r. is_ordinary g r ≡ true) (sym same) ordinary
own_ordinary g image row p q start object ordinary (inr (k, is, at)) = subst (λ r. is_ordinary g r ≡ true) at (held g image row k start object is).ordinary

single_ordinary : (g : Geometry) (image : Image) (row : CatalogRow) (p k q : ℕ) → IsStart g image → IsObject image row → is_ordinary g p ≡ true → IsChainPage g image row k
    → (either (maps_of p) (either (page_of p) (page_of (pointer image row k)))).pages q → is_ordinary g q ≡ true
single_ordinary g image row p k q start object ordinary is c =
    own_ordinary g image row p q start object ordinary (⊎_elim (λ here. inl here) (λ there. inr (k, is, sym there)) (single_pages p (pointer image row k) q c))

-- ---- the steps, one by one

pub slot_parts : (g : Geometry) (image image' : Image) (row : CatalogRow) (slot p : ℕ) → IsStart g image → PutsIntoSlot g image image' row slot p
    → LeavesAllParts g image image' row.id (λ e. e ≡ p / 8)
slot_parts g image image' row slot p start puts =
    let acts = (slot_clean g image image' row slot p start puts).acts in record {
      parts = record {
        extents = extents_left g image image' (p / 8) (single_changes g image image' p p row.first_iam puts.most)
            (λ q u other. let uses = slot_uses g image image' row slot p start puts q u in
            (λ h. ⊎_elim (λ old. old) (λ new. absurd (other (ap (λ n. n / 8) new.0))) (uses.0 h), λ h. uses.1 (inl h)))
            (λ f m other. slot_markers g image image' row slot p start puts f m);
        tables = tables_left g image image' row.id acts;
      };
      catalog = catalog_left g image image' row.id (either (maps_of p) (either (page_of p) (page_of row.first_iam))) acts puts.most
          (λ q. single_ordinary g image row p zero q start puts.object puts.takeable.ordinary puts.first);
    }

pub growth_parts : (g : Geometry) (image image' : Image) (row : CatalogRow) (last p : ℕ) → IsStart g image → GrowsChain g image image' row last p
    → LeavesAllParts g image image' row.id (λ e. e ≡ p / 8)
growth_parts g image image' row last p start grows =
    let acts = (growth_clean g image image' row last p start grows).acts in
    let one = adds g image image' row last p start grows in record {
      parts = record {
        extents = extents_left g image image' (p / 8) one.changes
            (λ q u other. (λ h. ⊎_elim (λ old. old) (λ new. absurd (other (ap (λ n. n / 8) new.0))) ((one.uses q u).0 h), λ h. (one.uses q u).1 (inl h)))
            (λ f m other. one.marks f m);
        tables = tables_left g image image' row.id acts;
      };
      catalog = catalog_left g image image' row.id (either (maps_of p) (either (page_of p) (page_of (pointer image row last)))) acts grows.most
          (λ q. single_ordinary g image row p last q start grows.object grows.takeable.ordinary grows.pages.pages);
    }

pub mark_parts : (g : Geometry) (image image' : Image) (row : CatalogRow) (k e p : ℕ) → IsStart g image → MarksExtent g image image' row k e p
    → LeavesAllParts g image image' row.id (λ f. f ≡ e)
mark_parts g image image' row k e p start marks =
    let acts = (mark_clean g image image' row k e p start marks).acts in
    let changed = either (free_bit e) (either (byte_of p) (either (page_of p) (page_of (pointer image row k)))) in record {
      parts = record {
        extents = extents_left g image image' e (changes_from g image image' e changed marks.most
            (λ f c. ⊎_elim (λ here. here) (λ a. absurd (⊎_elim (λ x. x) (λ b. ⊎_elim (λ x. x) (λ x. x) b) a)) c)
            (λ f c. absurd (⊎_elim (λ x. x) (λ a. ⊎_elim (λ x. x) (λ b. ⊎_elim (λ x. x) (λ x. x) b) a) c))
            (λ q c. ap (λ n. n / 8) (⊎_elim (λ x. absurd x) (λ a. ⊎_elim (λ here. here) (λ b. absurd (⊎_elim (λ x. x) (λ x. x) b)) a) c) ∙ marks.at))
            (λ q u other. (mark_uses g image image' row k e p start marks q u, mark_uses_in g image image' row k e p start marks q u))
            (λ f m other. let own = markers g image image' row k e p start marks f m in
            (λ h. ⊎_elim (λ old. old) (λ new. absurd (other new.0)) (own.0 h), λ h. own.1 (inl h)));
        tables = tables_left g image image' row.id acts;
      };
      catalog = catalog_left g image image' row.id changed acts marks.most (λ q c. own_ordinary g image row p q start marks.object marks.ordinary
          (⊎_elim (λ x. absurd x) (λ a. ⊎_elim (λ x. absurd x) (λ b. ⊎_elim (λ here. inl here) (λ there. inr (k, marks.chain, sym there)) b) a) c));
    }

pub freed_single_parts : (g : Geometry) (image image' : Image) (row : CatalogRow) (p : ℕ) → IsStart g image → FreesSingle g image image' row p
    → LeavesAllParts g image image' row.id (λ e. e ≡ p / 8)
freed_single_parts g image image' row p start frees =
    let acts = (freed_single_clean g image image' row p start frees).acts in record {
      parts = record {
        extents = extents_left g image image' (p / 8) (single_changes g image image' p p row.first_iam frees.most)
            (λ q u other. let left = uses_left g image image' row p start frees q u in (λ h. (left.0 h).0, λ h. left.1 (h, λ same. other (ap (λ n. n / 8) same))))
            (λ f m other. freed_markers g image image' row p start frees f m);
        tables = tables_left g image image' row.id acts;
      };
      catalog = catalog_left g image image' row.id (either (maps_of p) (either (page_of p) (page_of row.first_iam))) acts frees.most
          (λ q. single_ordinary g image row p zero q start frees.object frees.ordinary frees.holds.0.1);
    }

pub freed_last_parts : (g : Geometry) (image image' : Image) (row : CatalogRow) (p : ℕ) → IsStart g image → FreesLast g image image' row p
    → LeavesAllParts g image image' row.id (λ e. e ≡ p / 8)
freed_last_parts g image image' row p start frees =
    let acts = (freed_last_clean g image image' row p start frees).acts in
    let changed = either (free_bit (p / 8)) (either (byte_of p) (either (page_of p) (chain_pages g image row))) in record {
      parts = record {
        extents = extents_left g image image' (p / 8) (changes_from g image image' (p / 8) changed frees.most
            (λ f c. ⊎_elim (λ here. here) (λ a. absurd (⊎_elim (λ x. x) (λ b. ⊎_elim (λ x. x) (λ x. x) b) a)) c)
            (λ f c. absurd (⊎_elim (λ x. x) (λ a. ⊎_elim (λ x. x) (λ b. ⊎_elim (λ x. x) (λ x. x) b) a) c))
            (λ q c. ap (λ n. n / 8) (⊎_elim (λ x. absurd x) (λ a. ⊎_elim (λ here. here) (λ b. absurd (⊎_elim (λ x. x) (λ x. x) b)) a) c)))
            (λ q u other. (freed_last_uses g image image' row p start frees q u, freed_last_uses_in g image image' row p start frees q u))
            (λ f m other. marker_other g image image' row p start frees f m other);
        tables = tables_left g image image' row.id acts;
      };
      catalog = catalog_left g image image' row.id changed acts frees.most (λ q c. own_ordinary g image row p q start frees.object frees.ordinary
          (⊎_elim (λ x. absurd x) (λ a. ⊎_elim (λ x. absurd x) (λ b. b) a) c));
    }

-- ---- a page that changes with its PFS byte

module _ (g : Geometry) (image image' : Image) (row : CatalogRow) (p : ℕ) (start : IsStart g image) (object : IsObject image row) (ordinary : IsTrue (is_ordinary g p))
    (most : AtMost g (either (byte_of p) (page_of p)) image image') (same_uses : (q : ℕ) (u : Use) → IsUse g image' q u ↔ IsUse g image q u)
    (same_marks : (f m : ℕ) → IsMarker g image' f m ↔ IsMarker g image f m) (mine : IsOfExtent g image p → ⊥) where
  byte_parts : Acts g image image' row.id → LeavesAllParts g image image' row.id (λ e. ⊥)
  byte_parts acts = record {
    parts = record {
      extents = λ e low none. record {
        free = most.free e low (λ c. ⊎_elim (λ x. x) (λ x. x) c);
        mixed = most.mixed e low (λ c. ⊎_elim (λ x. x) (λ x. x) c);
        uses = λ q at u. same_uses q u;
        marks = λ m. same_marks e m;
        bytes = λ q at of. most.bytes q (below image e q low at) (λ c. ⊎_elim (λ here. mine (subst (IsOfExtent g image) here of)) (λ x. x) c);
      };
      tables = tables_left g image image' row.id acts;
    };
    catalog = catalog_left g image image' row.id (either (byte_of p) (page_of p)) acts most
        (λ q c. own_ordinary g image row p q start object ordinary (inl (⊎_elim (λ x. absurd x) (λ here. here) c)));
  }

-- a page that an object uses, or whose extent one marks, has a byte that is read by a table's part
not_extents : (g : Geometry) (image : Image) (p : ℕ) → IsTrue (is_ordinary g p) → HasUse g image p ⊎ HasMarker g image (p / 8) → IsOfExtent g image p → ⊥
not_extents g image p ordinary has (inl strange) = both_ways (is_ordinary g p) strange ordinary
not_extents g image p ordinary (inl used) (inr none) = none.0 used
not_extents g image p ordinary (inr marked) (inr none) = none.1 marked

pub marked_page_parts : (g : Geometry) (image image' : Image) (row : CatalogRow) (p : ℕ) → IsStart g image → ChangesMarkedPage g image image' row p → LeavesAllParts g image image' row.id (λ e. ⊥)
marked_page_parts g image image' row p start sets =
    let own = own_of_marked g image image' row p start sets in
    byte_parts g image image' row p start sets.object sets.ordinary sets.most (uses g image image' row p start own) (marks g image image' row p start own)
    (not_extents g image p sets.ordinary (inr (row.id, (row, sets.object, refl, sets.marked)))) (marked_page_clean g image image' row p start sets).acts

pub single_page_parts : (g : Geometry) (image image' : Image) (row : CatalogRow) (p : ℕ) → IsStart g image → ChangesSinglePage g image image' row p → LeavesAllParts g image image' row.id (λ e. ⊥)
single_page_parts g image image' row p start sets =
    let own = own_of_single g image image' row p start sets in
    byte_parts g image image' row p start sets.object sets.ordinary sets.most (uses g image image' row p start own) (marks g image image' row p start own)
    (not_extents g image p sets.ordinary (inl (record { object = row.id; place = sets.slot }, (row, sets.object, refl, inl sets.holds)))) (single_page_clean g image image' row p start sets).acts
