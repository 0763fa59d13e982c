-- The last page of a marked extent that is freed leaves clean maps clean.
use Rattle.std.proofs.Common.{◌≡◌, ◌≢◌, ◌⊎◌, ◌↔◌, ℕ, ◌/◌, ◌%◌, ◌<◌, true, false, length, refl, sym, ap, subst, ◌∙◌, inl, inr, ⊎_elim}
use Rattle.std.proofs.lemmas.Bool.{cases_eq, both_ways, false_from_ne_true}
use Rattle.spec_file.specs.declared.geometry.Geometry.{Geometry}
use Rattle.spec_file.specs.Image.{Image, page}
use Rattle.spec_file.specs.CatalogRows.{CatalogRow}
use Rattle.spec_file.specs.Iam.{iam_interval, iam_mark}
use Rattle.spec_file.specs.Places.{interval_size, extent_count, is_mixed}
use Rattle.spec_file.specs.Pfs.{is_allocated_byte}
use Rattle.spec_file.specs.Roles.{is_ordinary}
use Rattle.spec_chain.specs.Chains.{IsObject, pointer, IsChainPage, IsInChain}
use Rattle.spec_chain.specs.Marks.{IsMarker, IsMarked}
use Rattle.spec_chain.specs.Uses.{Use, IsUse, pfs_byte, is_allocated}
use Rattle.spec_extents.specs.Extents.{extent_of}
use Rattle.spec_steps.specs.AtMost.{Changed, free_bit, byte_of, page_of, either}
use Rattle.spec_steps.specs.Acts.{Owns}
use Rattle.spec_steps.specs.IamPages.{SameSlots, OnChain}
use Rattle.spec_steps.specs.Freeing.{FreesLast, chain_pages}
use Rattle.law_extents.proofs.GoodKinds.{owned_kind}
use Rattle.law_extents.proofs.GoodChanges.{extent_freed}
use Rattle.law_extents.proofs.Locality.{unused_zero}
use Rattle.law_frames.proofs.ChainRules.{HasMarksInside}
use Rattle.law_frames.proofs.SameChain.{SameChain, at_page}
use Rattle.law_frames.proofs.Held.{IsStart, goods, held, extent_below}
use Rattle.spec_steps.specs.Acts.{StaysClean}
use Rattle.law_steps.proofs.OneObject.{one_extent, below}
use Rattle.law_steps.proofs.InChain.{StepsInChain, chain_owns, acts, onto, own_kept, mark_from, mark_in, same_uses, chain_keeps_clean, same_slots_inside}
use Rattle.law_steps.proofs.MarkedExtents.{same_extent}

module _ (g : Geometry) (image image' : Image) (row : CatalogRow) (p : ℕ) (start : IsStart g image) (frees : FreesLast g image image' row p) where
  abbrev e : ℕ
  e = p / 8

  abbrev changed : Changed
  changed = either (free_bit e) (either (byte_of p) (either (page_of p) (chain_pages g image row)))

  inside : e < extent_count image
  inside = extent_below g image p start frees.inside

  pages_are : (q : ℕ) → changed.pages q → (q ≡ p) ⊎ IsInChain g image row q
  pages_are q c = ⊎_elim (λ x. absurd x) (λ a. ⊎_elim (λ x. absurd x) (λ b. b) a) c

  byte_is : (q : ℕ) → changed.bytes q → q ≡ p
  byte_is q c = ⊎_elim (λ x. absurd x) (λ a. ⊎_elim (λ same. same) (λ b. absurd (⊎_elim (λ x. x) (λ x. x) b)) a) c

  step : StepsInChain g image image' row changed
  step = record {
    object = frees.object;
    most = frees.most;
    ordinary = λ q c. ⊎_elim (λ same. subst (λ r. is_ordinary g r ≡ true) (sym same) frees.ordinary)
        (λ h. subst (λ r. is_ordinary g r ≡ true) h.2 (held g image row h.0 start frees.object h.1).ordinary) (pages_are q c);
    pages = λ q c. ⊎_elim (λ same. inl (inr (subst (λ r. IsMarked g image row (r / 8)) (sym same) frees.marked)))
        (λ h. inl (subst (Owns g image row) h.2 (chain_owns g image row h.0 h.1))) (pages_are q c);
    bytes = λ q c. inl (inr (subst (λ r. IsMarked g image row (r / 8)) (sym (byte_is q c)) frees.marked));
    links = λ k is. (frees.cleared k is).links;
  }

  kept : SameChain g image image' row
  kept = own_kept g image image' row changed start step

  slots : OnChain g image image' row SameSlots
  slots k is = (frees.cleared k is).slots

  -- what a page of the chain says after, of another extent's bit
  bit_of_page : (j f : ℕ) → IsChainPage g image row j → iam_interval (page image (pointer image row j)) ≡ f / interval_size g → f ≢ e
      → iam_mark (page image' (pointer image row j)) (f % interval_size g) ≡ iam_mark (page image (pointer image row j)) (f % interval_size g)
  bit_of_page j f is interval other = (frees.cleared j is).others (f % interval_size g) (λ both. other (same_extent g f e (sym interval ∙ both.0) both.1))

  marks_other : (f : ℕ) → f ≢ e → IsMarked g image' row f ↔ IsMarked g image row f
  marks_other f other = (
    λ h. let is = (kept.pages h.0).0 h.1.0 in
        let same = at_page g image image' row kept h.0 is in
        let interval = sym (kept.links h.0 is).interval ∙ ap (λ r. iam_interval (page image' r)) (sym same) ∙ h.1.1 in
        (h.0, (is, interval, sym (bit_of_page h.0 f is interval other) ∙ ap (λ r. iam_mark (page image' r) (f % interval_size g)) (sym same) ∙ h.1.2)),
    λ h. let same = at_page g image image' row kept h.0 h.1.0 in (
      h.0,
      (
        (kept.pages h.0).1 h.1.0,
        ap (λ r. iam_interval (page image' r)) same ∙ (kept.links h.0 h.1.0).interval ∙ h.1.1,
        ap (λ r. iam_mark (page image' r) (f % interval_size g)) same ∙ bit_of_page h.0 f h.1.0 h.1.1 other ∙ h.1.2,
      ),
    ),
  )

  unmarked : IsMarked g image' row e → ⊥
  unmarked h =
      let is = (kept.pages h.0).0 h.1.0 in
      let same = at_page g image image' row kept h.0 is in
      let interval = sym (kept.links h.0 is).interval ∙ ap (λ r. iam_interval (page image' r)) (sym same) ∙ h.1.1 in
      both_ways (iam_mark (page image' (pointer image row h.0)) (e % interval_size g)) ((frees.cleared h.0 is).cleared interval) (ap
      (λ r. iam_mark (page image' r) (e % interval_size g)) (sym same) ∙ h.1.2)

  pub marker_other : (f m : ℕ) → f ≢ e → IsMarker g image' f m ↔ IsMarker g image f m
  marker_other f m other = (
    λ h. ⊎_elim (λ old. old.1) (λ own. (row, frees.object, sym own.0, (marks_other f other).0 own.1)) (mark_from g image image' row changed start step f m h),
    λ h. mark_in g image image' row changed start step f m h (λ same. (marks_other f other).1),
  )

  fewer_marks : OnChain g image image' row (HasMarksInside g (length image'))
  fewer_marks j is = record {
    inside = λ n low mark. ⊎_elim
        (λ here. ⊎_elim (λ bit. absurd (both_ways (iam_mark (page image' (pointer image row j)) n) (ap (iam_mark (page image' (pointer image row j))) bit ∙ (frees.cleared j is).cleared here) mark))
        (λ other. inl (sym ((frees.cleared j is).others n (λ both. other both.1)) ∙ mark)) (cases_eq n (e % interval_size g)))
        (λ other. inl (sym ((frees.cleared j is).others n (λ both. other both.0)) ∙ mark))
        (cases_eq (iam_interval (page image (pointer image row j))) (e / interval_size g));
  }

  pub freed_last_uses : (q : ℕ) (u : Use) → IsUse g image' q u → IsUse g image q u
  freed_last_uses q u = (same_uses g image image' row changed start step slots q u).0

  pub freed_last_uses_in : (q : ℕ) (u : Use) → IsUse g image q u → IsUse g image' q u
  freed_last_uses_in q u = (same_uses g image image' row changed start step slots q u).1

  pub freed_last_object : IsObject image' row
  freed_last_object = onto g image image' row changed start step row frees.object

  pub freed_last_clean : StaysClean g image image' row.id
  freed_last_clean =
      let good = goods g image start e inside in
      let mark : IsMarker g image e row.id = (row, frees.object, refl, frees.marked) in
      let owned = owned_kind g e (extent_of g image e) row.id good mark in
      let uses = same_uses g image image' row changed start step slots in
      let mixed = λ (f : ℕ) (low : f < extent_count image). let w : is_mixed g image' f ≡ is_mixed g image f = frees.most.mixed f low (λ c. ⊎_elim (λ x. x)
      (λ a. ⊎_elim (λ x. x) (λ b. ⊎_elim (λ x. x) (λ x. x) b) a) c) in w in
      let bytes = λ (q : ℕ) (low : q < length image) (other : q ≢ p). let w : pfs_byte g image' q ≡ pfs_byte g image q = frees.most.bytes q low (λ c. other (byte_is q c)) in w in record {
        acts = acts g image image' row changed start step;
        maps = chain_keeps_clean g image image' row changed start step fewer_marks (same_slots_inside g image image' row slots)
            (one_extent g image image' e (goods g image start) frees.most.size
            (record {
              free = λ f low other. frees.most.free f low (λ c. ⊎_elim other (λ a. ⊎_elim (λ x. x) (λ b. ⊎_elim (λ x. x) (λ x. x) b) a) c);
              mixed = λ f low other. mixed f low;
              bytes = λ q low other. bytes q low (λ same. other (ap (λ n. n / 8) same));
            })
            (λ q u other. uses q u)
            marker_other
            (extent_freed g e (extent_of g image e) (extent_of g image' e) good (record {
              from = (row.id, mark);
              free = frees.free;
              mixed = mixed e inside;
              zeros = λ q at ordinary. ⊎_elim (λ same. ap (pfs_byte g image') same ∙ frees.byte)
                  (λ other. let byte = bytes q (below image e q inside at) other in
                  let gone = false_from_ne_true (is_allocated g image' q) (λ allocated. frees.last (q, at, allocated)) in
                  byte ∙ unused_zero (pfs_byte g image q) ((owned.bytes q at ordinary).unallocated (subst (λ b. is_allocated_byte b ≡ false) byte gone))) (cases_eq q p);
              bytes = λ q at other. bytes q (below image e q inside at) (λ same. both_ways (is_ordinary g q) other (subst (λ r. is_ordinary g r ≡ true) (sym same) frees.ordinary));
              uses = λ q at u. (uses q u).0;
              unmarked = λ h. ⊎_elim (λ old. old.0 (owned.only h.0 old.1)) (λ own. unmarked own.1) (mark_from g image image' row changed start step e h.0 h.1);
            })));
      }
