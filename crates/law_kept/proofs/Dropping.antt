-- What holds while the pages of an object are given back, page by page and extent by extent.
use Rattle.std.proofs.Common.{◌≡◌, ◌≢◌, ◌⊎◌, ℕ, ◌/◌, ◌<◌, true, false, length, refl, sym, ap, subst, ◌∙◌, inl, inr, ⊎_elim, arith}
use Rattle.std.proofs.lemmas.Bool.{cases_eq, false_from_ne_true}
use Rattle.spec_file.specs.declared.data.Resource.TheVariants as resource
use Rattle.spec_file.specs.CatalogRows.{CatalogRow}
use Rattle.spec_file.specs.Pfs.{is_allocated_byte}
use Rattle.spec_file.specs.Places.{is_free}
use Rattle.spec_chain.specs.Chains.{IsObject, pointer}
use Rattle.spec_chain.specs.Marks.{IsMarked}
use Rattle.spec_chain.specs.Uses.{IsUseBy, pfs_byte, is_allocated}
use Rattle.spec_chain.proofs.Pointers.{inside_below}
use Rattle.spec_words.specs.NetChanges.{FileShape}
use Rattle.spec_words.specs.Views.{View}
use Rattle.spec_extents.specs.Extents.{extent_of, HoldsUse, IsGoodExtent}
use Rattle.spec_alloc.specs.Freeing.{is_in_use}
use Rattle.spec_steps.specs.AtMost.{Changed, either}
use Rattle.spec_steps.specs.Freeing.{IsLeftShared}
use Rattle.spec_steps.specs.Tables.{Has, UsesOf}
use Rattle.law_extents.proofs.GoodKinds.{zero_not}
use Rattle.law_frames.proofs.Held.{IsStart, goods, held}
use Rattle.law_kept.specs.Drops.{maps_dropped}
use Rattle.law_kept.proofs.Steps.{IsFile, page_in, extent_in, Took, Goes, goes_both, goes_within, IsWithin, nothing, nothing_within, goes_nowhere}
use Rattle.law_kept.proofs.Freed.{use_back, left_same}

-- a change at page p and its extent alone
pub record IsAt (p : ℕ) (changed : Changed) : Type 0 where
  pub free : (e : ℕ) → changed.free e → e ≡ p / 8
  pub mixed : (e : ℕ) → changed.mixed e → e ≡ p / 8
  pub bytes : (q : ℕ) → changed.bytes q → q ≡ p

-- an object of a clean view
pub record IsTable (shape : FileShape) (v : View) (row : CatalogRow) : Type 0 where
  pub file : IsFile shape v.now
  pub start : IsStart shape.geometry v.now
  pub object : IsObject v.now row

module _ (shape : FileShape) (v : View) (row : CatalogRow) (table : IsTable shape v row) where
  abbrev f : IsFile shape v.now
  f = table.file

  abbrev pub Marks : ℕ → Type 0
  Marks e = IsMarked shape.geometry v.now row e

  abbrev pub Uses : ℕ → Type 0
  Uses e = UsesOf shape.geometry v.now row e

  abbrev pub Own : ℕ → Type 0
  Own p = Has shape.geometry v.now row p

  abbrev pub dropping : Changed
  dropping = maps_dropped shape.geometry v.now row

  -- ---- what a clean view says

  holds_use : (e : ℕ) → Uses e → HoldsUse e (extent_of shape.geometry v.now e)
  holds_use e (q, at, place, by) = inl (q, at, (record { object = row.id; place = place }, (row, table.object, refl, by)))

  good_at : (e : ℕ) → e < shape.pages / 8 → IsGoodExtent shape.geometry e (extent_of shape.geometry v.now e)
  good_at e inside = goods shape.geometry v.now table.start e (extent_in shape v.now e f inside)

  pub not_both : (e : ℕ) → e < shape.pages / 8 → Uses e → Marks e → ⊥
  not_both e inside uses marked = (good_at e inside).mixed_marked (inl (holds_use e uses)) (row.id, (row, table.object, refl, marked))

  used_busy : (e : ℕ) → e < shape.pages / 8 → Uses e → is_free shape.geometry v.now e ≡ false
  used_busy e inside uses = false_from_ne_true (is_free shape.geometry v.now e) (λ free. (good_at e inside).free_mixed free (inl (holds_use e uses)))

  pub use_owns : (p place : ℕ) → IsUseBy shape.geometry v.now p row place → Own p
  use_owns p place (inl holds) = inl (inl (place, holds))
  use_owns p place (inr chain) = inr chain.1

  pub own_inside : (p : ℕ) → Own p → p < shape.pages
  own_inside p (inl (inl slot)) = subst (λ n. p < n) f.pages (inside_below (length v.now) p slot.1.1)
  own_inside p (inl (inr marked)) = subst (λ n. p < n) f.pages marked.0
  own_inside p (inr chain) = subst (λ q. q < shape.pages) chain.2 (let there = held shape.geometry v.now row chain.0 table.start table.object chain.1 in
      subst (λ n. pointer v.now row chain.0 < n) f.pages there.inside)

  -- ---- what holds on the way

  pub record Drops (w : View) : Type 0 where
    pub goes : Goes shape dropping v w
    pub busy : (e : ℕ) → e < shape.pages / 8 → Uses e → is_in_use shape e w ≡ true → is_free shape.geometry w.now e ≡ false
    pub less : (q : ℕ) → q < length v.now → is_allocated shape.geometry w.now q ≡ true → is_allocated shape.geometry v.now q ≡ true

  pub drops_none : Drops v
  drops_none = record {
    goes = goes_within shape nothing dropping v v (nothing_within dropping) (goes_nowhere shape v f);
    busy = λ e inside uses in_use. used_busy e inside uses;
    less = λ q inside allocated. allocated;
  }

  -- page p is given back
  pub record IsDone (p : ℕ) (w : View) : Type 0 where
    pub inside : p < shape.pages
    pub byte : pfs_byte shape.geometry w.now p ≡ 0
    pub shared : (place : ℕ) → IsUseBy shape.geometry v.now p row place → IsLeftShared shape.geometry w.now (p / 8)
    pub held : (place : ℕ) → IsUseBy shape.geometry v.now p row place → Took w (resource.Extent (record { 0 = p / 8 }))

  -- ---- one step

  -- a PFS byte stays, or becomes 0
  abbrev pub BytesFall : View → View → Type 0
  BytesFall w x = (q : ℕ) → q < shape.pages → (pfs_byte shape.geometry x.now q ≡ pfs_byte shape.geometry w.now q) ⊎ (pfs_byte shape.geometry x.now q ≡ 0)

  -- what a step at page p owes, where the object uses a page of its extent
  pub record Settles (p : ℕ) (x : View) : Type 0 where
    pub left : IsLeftShared shape.geometry x.now (p / 8)
    pub busy : is_in_use shape (p / 8) x ≡ true → is_free shape.geometry x.now (p / 8) ≡ false

  module _ (p : ℕ) (changed : Changed) (w x : View) (inside : p < shape.pages) (drops : Drops w) (step : Goes shape changed w x) (within : IsWithin changed dropping) (at : IsAt p changed)
      (fall : BytesFall w x) (settles : Uses (p / 8) → Settles p x) where
    file : IsFile shape w.now
    file = let goes = drops.goes in goes.file

    in_file : (e q : ℕ) → e < shape.pages / 8 → q / 8 ≡ e → q < shape.pages
    in_file e q low there = omega (arith, low, there)

    -- other extents are as they were
    same_byte : (e q : ℕ) → e < shape.pages / 8 → q / 8 ≡ e → e ≢ p / 8 → pfs_byte shape.geometry x.now q ≡ pfs_byte shape.geometry w.now q
    same_byte e q low there other = step.most.bytes q (page_in shape w.now q file (in_file e q low there)) (λ c. other (sym there ∙ ap (λ n. n / 8) (at.bytes q c)))

    same_free : (e : ℕ) → e < shape.pages / 8 → e ≢ p / 8 → is_free shape.geometry x.now e ≡ is_free shape.geometry w.now e
    same_free e low other = step.most.free e (extent_in shape w.now e file low) (λ c. other (at.free e c))

    still_left : (e : ℕ) → e < shape.pages / 8 → e ≢ p / 8 → IsLeftShared shape.geometry w.now e → IsLeftShared shape.geometry x.now e
    still_left e low other =
        left_same shape.geometry w.now x.now e (same_free e low other) (step.most.mixed e (extent_in shape w.now e file low) (λ c. other (at.mixed e c))) (λ q there. same_byte e q low there other)

    was_allocated : (q : ℕ) → q < shape.pages → is_allocated shape.geometry x.now q ≡ true → is_allocated shape.geometry w.now q ≡ true
    was_allocated q low allocated = ⊎_elim (λ same. sym (ap is_allocated_byte same) ∙ allocated) (λ none. absurd (zero_not (pfs_byte shape.geometry x.now q) none allocated)) (fall q low)

    pub drops_on : Drops x
    drops_on = record {
      goes = goes_within shape (either dropping changed) dropping v x (record {
        free = λ e c. ⊎_elim (λ c. c) (within.free e) c;
        mixed = λ e c. ⊎_elim (λ c. c) (within.mixed e) c;
        bytes = λ q c. ⊎_elim (λ c. c) (within.bytes q) c;
        pages = λ q c. ⊎_elim (λ c. c) (within.pages q) c;
      }) (goes_both shape dropping changed v w x drops.goes step);
      busy = λ e low uses in_use. ⊎_elim
          (λ here. subst (λ n. is_free shape.geometry x.now n ≡ false) (sym here) ((settles (subst Uses here uses)).busy (subst (λ n. is_in_use shape n x ≡ true) here in_use)))
          (λ other. same_free e low other ∙ drops.busy e low uses (use_back shape w x e step.other (λ q there. was_allocated q (in_file e q low there)) in_use)) (cases_eq e (p / 8));
      less = λ q low allocated. drops.less q low (was_allocated q (subst (λ n. q < n) f.pages low) allocated);
    }

    -- what is given back stays so
    pub done_on : (q : ℕ) → IsDone q w → IsDone q x
    done_on q done =
        let low = done.inside in record {
          inside = low;
          byte = ⊎_elim (λ same. same ∙ done.byte) (λ none. none) (fall q low);
          shared = λ place by. ⊎_elim (λ here. subst (IsLeftShared shape.geometry x.now) (sym here) (settles (subst Uses here (q, refl, place, by))).left)
              (λ other. still_left (q / 8) (let file = f.file in let whole = file.whole in omega (arith, low, whole)) other (done.shared place by)) (cases_eq (q / 8) (p / 8));
          held = λ place by. step.taken (resource.Extent (record { 0 = q / 8 })) (done.held place by);
        }
