-- A chain grows, and its new page marks an extent: two steps of allocation, whatever the order in which they are written.
use Rattle.std.proofs.Common.{◌≡◌, ◌≢◌, ◌⊎◌, ◌↔◌, ℕ, suc, ◌/◌, ◌%◌, ◌^◌, ◌<◌, true, false, IsTrue, [], ◌∷◌, length, slice_set, refl, sym, ap, subst, ◌∙◌, inl, inr, ⊎_elim, arith}
use Rattle.std.proofs.lemmas.Bool.{cases_eq, lt-ltb}
use Rattle.spec_file.specs.declared.geometry.Geometry.{Geometry}
use Rattle.spec_file.specs.declared.geometry.Geometry.TheVariants.{Standard, Small}
use Rattle.spec_file.specs.declared.pfs.PfsKind.TheVariants.{Iam, Uniform}
use Rattle.spec_file.specs.CatalogRows.{CatalogRow}
use Rattle.spec_file.specs.Iam.{iam_interval, has_interval}
use Rattle.spec_file.specs.Image.{Image, page}
use Rattle.spec_file.specs.Pfs.{expected, is_allocated_byte}
use Rattle.spec_file.specs.Places.{is_free, is_mixed, gam_place, sgam_place, pfs_place, interval_size, interval_start, interval_of_page, extent_count}
use Rattle.spec_file.specs.Roles.{is_ordinary}
use Rattle.spec_chain.specs.Chains.{IsObject, pointer, IsChainPage, HasLength}
use Rattle.spec_chain.specs.Uses.{pfs_byte, is_allocated}
use Rattle.spec_chain.proofs.ChainLaws.{chain_is_short}
use Rattle.spec_log.specs.Cells.{put}
use Rattle.spec_words.specs.NetChanges.{FileShape}
use Rattle.spec_alloc.specs.Chains.{new_iam_page}
use Rattle.spec_steps.specs.Acts.{Owns, StaysClean}
use Rattle.spec_steps.specs.AllocatedPages.{KeepsPages, GetsPage}
use Rattle.spec_steps.specs.AtMost.{Changed, AtMost, free_bit, byte_of, page_of, either}
use Rattle.spec_steps.specs.IamPages.{IsNextSet, IsMarkSet, IsLastIam}
use Rattle.spec_steps.specs.PartsRead.{LeavesAllParts}
use Rattle.spec_steps.specs.Sgam.{HasExactSgam}
use Rattle.spec_steps.specs.Taking.{HasOpenPage, IsTakeable, IsTakenAs, MarksExtent, GrowsChain}
use Rattle.spec_steps.specs.Writes.{Single, WritesSingle}
use Rattle.law_writes.specs.Laws.{bit_cell, byte_cell, bit_number, HasWritten}
use Rattle.law_writes.proofs.Puts.{put_sets_free, put_sets_mixed, put_sets_byte}
use Rattle.law_writes.proofs.SingleWrites.{writes_change_theirs}
use Rattle.law_chains.proofs.Allocated.{intervals}
use Rattle.law_extents.proofs.GoodKinds.{no_type}
use Rattle.law_frames.proofs.Held.{IsStart, IsHeld, held}
use Rattle.law_frames.proofs.TwoSteps.{steps_are_one}
use Rattle.law_frames.proofs.WholeFiles.{after}
use Rattle.law_steps.proofs.Owners.{takeable_is_nobodys}
use Rattle.law_steps.proofs.OneObject.{ChangesExtent, single_bytes}
use Rattle.law_steps.proofs.InChain.{chain_owns}
use Rattle.law_steps.proofs.GrownChains.{onto, new_page, pointer_new, growth_clean}
use Rattle.law_steps.proofs.MarkedExtents.{mark_clean}
use Rattle.law_steps.proofs.AllocatedPages.{single_pages, growth_keeps, mark_gets}
use Rattle.law_steps.proofs.ExactSgam.{single_changes, growth_exact, mark_exact}
use Rattle.law_steps.proofs.LeftParts.{growth_parts, mark_parts}
use Rattle.law_kept.proofs.PartsTaken.{all_both}
use Rattle.law_kept.proofs.Steps.{IsFile, file_shape, page_in, extent_in}
use Rattle.law_kept.proofs.Words.{file_put}
use Rattle.law_kept.proofs.NewPages.{last_iam}
use Rattle.law_kept.proofs.NewChains.{number_low}
use Rattle.law_kept.proofs.IamWrites.{PutsMark}
use Rattle.law_kept.proofs.Grows.{kind_fits}

-- where the object keeps its pages, and then gets one, it gets that one
pub keeps_gets : (g : Geometry) (image image' image'' : Image) (row : CatalogRow) (p : ℕ) → KeepsPages g image image' row → GetsPage g image' image'' row p → GetsPage g image image'' row p
keeps_gets g image image' image'' row p keeps gets = record {
  object = gets.object;
  new = λ old. gets.new ((keeps.allocated p).1 old);
  allocated = λ q. (
    λ h. ⊎_elim (λ old. inl ((keeps.allocated q).0 old)) (λ new. inr new) ((gets.allocated q).0 h),
    λ h. (gets.allocated q).1 (⊎_elim (λ old. inl ((keeps.allocated q).1 old)) (λ new. inr new) h),
  );
  same = λ q old ordinary. let first = keeps.same q old ordinary in let second = gets.same q ((keeps.allocated q).1 old) ordinary in
      record { bytes = second.bytes ∙ first.bytes; pfs = second.pfs ∙ first.pfs };
}

-- the interval of a page is one that its file has
interval_inside : (g : Geometry) (p pages : ℕ) → p < pages → has_interval g pages (interval_of_page g p) ≡ true
interval_inside Standard p pages low = lt-ltb (interval_start Standard (interval_of_page Standard p)) pages (omega (arith, low))
interval_inside Small p pages low = lt-ltb (interval_start Small (interval_of_page Small p)) pages (omega (arith, low))

interval_below : (g : Geometry) (p : ℕ) → p < 256 ^ 4 → interval_of_page g p < 256 ^ 4
interval_below Standard p low = omega (arith, low)
interval_below Small p low = omega (arith, low)

-- page q is the new page of a chain whose last page is `last`, and marks the extent of page p
abbrev pub grown_and_marked : ℕ → ℕ → ℕ → Changed
grown_and_marked p q last = record {
  free = λ e. (e ≡ p / 8) ⊎ (e ≡ q / 8);
  mixed = λ e. e ≡ q / 8;
  bytes = λ r. (r ≡ p) ⊎ (r ≡ q);
  pages = λ r. (r ≡ q) ⊎ (r ≡ last);
}

-- both are done
pub record GrowsAndMarks (shape : FileShape) (row : CatalogRow) (image image' : Image) (j p q : ℕ) : Type 0 where
  pub pages : HasLength shape.geometry image row (suc j)
  pub other : (k : ℕ) → IsChainPage shape.geometry image row k → iam_interval (page image (pointer image row k)) ≢ interval_of_page shape.geometry p
  pub id : row.id < 256 ^ 4
  pub inside : p < shape.pages
  pub ordinary : IsTrue (is_ordinary shape.geometry p)
  pub was_free : is_free shape.geometry image (p / 8) ≡ true
  pub takeable : IsTakeable shape.geometry image q
  pub apart : q / 8 ≢ p / 8
  pub most : AtMost shape.geometry (grown_and_marked p q (pointer image row j)) image image'
  pub free : is_free shape.geometry image' (p / 8) ≡ false
  pub byte : pfs_byte shape.geometry image' p ≡ expected Uniform 0
  pub free_iam : is_free shape.geometry image' (q / 8) ≡ false
  pub byte_iam : pfs_byte shape.geometry image' q ≡ expected Iam 0
  pub linked : IsNextSet q (page image (pointer image row j)) (page image' (pointer image row j))
  pub marked : PutsMark (p / 8 % interval_size shape.geometry) true (new_iam_page row.id q (pointer image row j) (interval_of_page shape.geometry p) (suc j)) (page image' q)

module _ (shape : FileShape) (row : CatalogRow) (image image' : Image) (j p q : ℕ) (f : IsFile shape image) (start : IsStart shape.geometry image) (object : IsObject image row)
    (does : GrowsAndMarks shape row image image' j p q) where
  is_last : IsChainPage shape.geometry image row j
  is_last = does.pages.pages

  last_held : IsHeld shape.geometry image row (pointer image row j)
  last_held = held shape.geometry image row j start object is_last

  not_last : q ≢ pointer image row j
  not_last here = takeable_is_nobodys shape.geometry image start q does.takeable row object (subst (Owns shape.geometry image row) (sym here) (chain_owns shape.geometry image row j is_last))

  -- what the growth alone writes
  abbrev growth : Single
  growth = record {
    free = false;
    mixed = is_mixed shape.geometry image' (q / 8);
    byte = expected Iam 0;
    own = new_iam_page row.id q (pointer image row j) (interval_of_page shape.geometry p) (suc j);
    other = page image' (pointer image row j);
  }

  -- the image in which it alone is done
  middle : (m : Image) × HasWritten shape.geometry q (pointer image row j) growth image m
  middle =
      let g = shape.geometry in
      let e = q / 8 in
      let inside : q < shape.pages = subst (λ n. q < n) f.pages does.takeable.inside in
      let low : e < shape.pages / 8 = let file = f.file in let whole = file.whole in omega (arith, inside, whole) in
      let one = put image (bit_cell (gam_place g e)) (bit_number false ∷ []) in
      let f_one = file_put shape image (bit_cell (gam_place g e)) (bit_number false ∷ []) f in
      let two = put one (bit_cell (sgam_place g e)) (bit_number (is_mixed g image' e) ∷ []) in
      let f_two = file_put shape one (bit_cell (sgam_place g e)) (bit_number (is_mixed g image' e) ∷ []) f_one in
      let three = put two (byte_cell (pfs_place g q)) (expected Iam 0 ∷ []) in
      let four = slice_set three q (new_iam_page row.id q (pointer image row j) (interval_of_page g p) (suc j)) in
      let five = slice_set four (pointer image row j) (page image' (pointer image row j)) in
      let words : WritesSingle g q (pointer image row j) growth image five = record {
        after_free = one;
        after_mixed = two;
        after_byte = three;
        after_own = four;
        free = put_sets_free g image e false (file_shape shape image f) f.whole (extent_in shape image e f low);
        mixed = put_sets_mixed g one e (is_mixed g image' e) (file_shape shape one f_one) f_one.whole (extent_in shape one e f_one low);
        byte = put_sets_byte g two q (expected Iam 0) (file_shape shape two f_two) f_two.whole (page_in shape two q f_two inside);
        own = record { is = refl };
        other = record { is = refl };
      } in
      (five, writes_change_theirs g image five q (pointer image row j) growth start.shape does.takeable.inside does.takeable.ordinary last_held.inside (inr last_held.ordinary) not_last words)

  -- ---- the two steps

  module _ (m : Image) (written : HasWritten shape.geometry q (pointer image row j) growth image m) where
    -- what the new page says
    says_new : IsLastIam shape.geometry (length image) row.id (pointer image row j) (suc j) q (new_iam_page row.id q (pointer image row j) (interval_of_page shape.geometry p) (suc j))
        × (iam_interval (new_iam_page row.id q (pointer image row j) (interval_of_page shape.geometry p) (suc j)) ≡ interval_of_page shape.geometry p)
    says_new =
        let g = shape.geometry in
        let form = start.shape in
        let few = chain_is_short g image row (suc j) (let low = form.low in omega (arith, low)) does.pages.pages in
        let in_p : p < length image = page_in shape image p f does.inside in
        last_iam g (length image) row.id (pointer image row j) (interval_of_page g p) (suc j) q does.id (number_low g (pointer image row j) (length image) last_held.inside form.high)
        (interval_below g p (number_low g p (length image) in_p form.high)) (number_low g (suc j) (length image) few form.high)
        (number_low g q (length image) does.takeable.inside form.high) (interval_inside g p (length image) in_p)

    grows : GrowsChain shape.geometry image m row j q
    grows = record {
      object = object;
      pages = does.pages;
      takeable = does.takeable;
      most = written.most;
      taken = record { free = written.free; byte = kind_fits Iam (pfs_byte shape.geometry m q) written.byte };
      linked = subst (IsNextSet q (page image (pointer image row j))) (sym written.other) does.linked;
      new = subst (IsLastIam shape.geometry (length image) row.id (pointer image row j) (suc j) q) (sym written.own) says_new.0;
      interval = λ k is same. does.other k is (same ∙ ap iam_interval written.own ∙ says_new.1);
    }

    start_m : IsStart shape.geometry m
    start_m = after shape.geometry image m start written.most.size (growth_clean shape.geometry image m row j q start grows).maps

    changes : ChangesExtent shape.geometry image m (q / 8)
    changes = single_changes shape.geometry image m q q (pointer image row j) written.most

    other_byte : (r : ℕ) → r < length image → r ≢ q → pfs_byte shape.geometry m r ≡ pfs_byte shape.geometry image r
    other_byte = single_bytes shape.geometry image m q (either (page_of q) (page_of (pointer image row j)))
        (record { free = λ e c. ⊎_elim (λ x. x) (λ x. x) c; mixed = λ e c. ⊎_elim (λ x. x) (λ x. x) c; bytes = λ r c. ⊎_elim (λ x. x) (λ x. x) c }) written.most

    in_image : (r : ℕ) → r < length m → r < length image
    in_image r low = subst (λ n. r < n) written.most.size low

    -- behind the growth the rest changes at most what marking an extent does
    rest : AtMost shape.geometry (either (free_bit (p / 8)) (either (byte_of p) (either (page_of p) (page_of q)))) m image'
    rest =
        let g = shape.geometry in
        let at_last = pointer image row j in record {
          size = does.most.size ∙ sym written.most.size;
          free = λ e low other. ⊎_elim
              (λ here. subst (λ d. is_free g image' d ≡ is_free g m d) (sym here) (does.free_iam ∙ sym written.free))
              (λ differ. let old : e < extent_count image = subst (λ n. e < n / 8) written.most.size low in
              does.most.free e old (λ c. ⊎_elim (λ of_p. other (inl of_p)) differ c) ∙ sym (changes.free e old differ)) (cases_eq e (q / 8));
          mixed = λ e low other. ⊎_elim
              (λ here. subst (λ d. is_mixed g image' d ≡ is_mixed g m d) (sym here) (sym written.mixed))
              (λ differ. let old : e < extent_count image = subst (λ n. e < n / 8) written.most.size low in
              does.most.mixed e old differ ∙ sym (changes.mixed e old differ)) (cases_eq e (q / 8));
          bytes = λ r low other. ⊎_elim
              (λ here. subst (λ s. pfs_byte g image' s ≡ pfs_byte g m s) (sym here) (does.byte_iam ∙ sym written.byte))
              (λ differ. does.most.bytes r (in_image r low) (λ c. ⊎_elim (λ of_p. other (inr (inl of_p))) differ c) ∙ sym (other_byte r (in_image r low) differ)) (cases_eq r q);
          pages = λ r whole other. ⊎_elim
              (λ here. subst (λ s. page image' s ≡ page m s) (sym here) (sym written.other))
              (λ differ. let new = λ (same : r ≡ q). other (inr (inr (inr same))) in
              does.most.pages r whole (λ c. ⊎_elim new differ c) ∙ sym (written.most.pages r whole (λ c. ⊎_elim new differ (single_pages q at_last r c)))) (cases_eq r at_last);
          system = λ r type low other is. ⊎_elim
              (λ here. absurd (no_type g r type (subst (λ s. is_ordinary g s ≡ true) (sym here) last_held.ordinary) is))
              (λ differ. let new = λ (same : r ≡ q). other (inr (inr (inr same))) in
              does.most.system r type (in_image r low) (λ c. ⊎_elim new differ c) is
              ∙ sym (written.most.system r type (in_image r low) (λ c. ⊎_elim new differ (single_pages q at_last r c)) is)) (cases_eq r at_last);
        }

    new_is : pointer m row (suc j) ≡ q
    new_is = pointer_new shape.geometry image m row j q start grows

    marks : MarksExtent shape.geometry m image' row (suc j) (p / 8) p
    marks =
        let g = shape.geometry in
        let n = p / 8 % interval_size g in
        let e = p / 8 in
        let low : e < extent_count image = let form = start.shape in let whole = form.whole in let in_p = page_in shape image p f does.inside in omega (arith, in_p, whole) in
        let old = does.marked in
        let set : IsMarkSet n (page m q) (page image' q) = subst (λ b. IsMarkSet n b (page image' q)) (sym written.own)
        (record { here = old.here; others = old.others; links = old.links; slots = old.slots }) in record {
          object = onto g image m row j q start grows row object;
          chain = new_page g image m row j q start grows;
          interval = ap (λ r. iam_interval (page m r)) new_is ∙ ap iam_interval written.own ∙ says_new.1 ∙ intervals g p;
          inside = subst (λ s. e < s / 8) (sym written.most.size) low;
          was_free = changes.free e low (λ same. does.apart (sym same)) ∙ does.was_free;
          at = refl;
          ordinary = does.ordinary;
          most = subst (λ r. AtMost g (either (free_bit e) (either (byte_of p) (either (page_of p) (page_of r)))) m image') (sym new_is) rest;
          free = does.free;
          byte = kind_fits Uniform (pfs_byte g image' p) does.byte;
          mark = subst (λ r. IsMarkSet n (page m r) (page image' r)) (sym new_is) set;
        }

    -- where SGAM is exact of the new page's extent in the end, it was so in the middle
    taken_m : (IsTrue (is_mixed shape.geometry image' (q / 8)) ↔ HasOpenPage shape.geometry image' (q / 8)) → IsTakenAs shape.geometry m q Iam
    taken_m here =
        let g = shape.geometry in
        let bit = λ (r : ℕ) (at : r / 8 ≡ q / 8). let same : is_allocated g m r ≡ is_allocated g image' r = ap is_allocated_byte (sym (rest.bytes r (subst (λ n. r < n) (sym written.most.size) (inside_of r at))
        (λ c. ⊎_elim (λ x. x) (λ b. ⊎_elim (λ of_p. does.apart (sym at ∙ ap (λ n. n / 8) of_p)) (λ b. ⊎_elim (λ x. x) (λ x. x) b) b) c))) in same in record {
          free = written.free;
          mixed = (
            λ mixed. let o = here.0 (sym written.mixed ∙ mixed) in (o.0, o.1, o.2, bit o.0 o.1 ∙ o.3),
            λ o. written.mixed ∙ here.1 (o.0, o.1, o.2, sym (bit o.0 o.1) ∙ o.3),
          );
          byte = kind_fits Iam (pfs_byte g m q) written.byte;
        }
      where
        inside_of : (r : ℕ) → r / 8 ≡ q / 8 → r < length image
        inside_of r at = let form = start.shape in let whole = form.whole in let low = does.takeable.inside in omega (arith, low, whole, at)

  -- ---- what they do

  pub both_clean : StaysClean shape.geometry image image' row.id
  both_clean =
      let g = shape.geometry in
      let m = middle.0 in
      let w = middle.1 in
      steps_are_one g image m image' row.id start.clean (growth_clean g image m row j q start (grows m w)) (mark_clean g m image' row (suc j) (p / 8) p (start_m m w) (marks m w))

  pub both_gets : GetsPage shape.geometry image image' row p
  both_gets =
      let g = shape.geometry in
      let m = middle.0 in
      let w = middle.1 in
      keeps_gets g image m image' row p (growth_keeps g image m row j q start (grows m w)) (mark_gets g m image' row (suc j) (p / 8) p (start_m m w) (marks m w))

  pub both_left : LeavesAllParts shape.geometry image image' row.id (λ e. (e ≡ q / 8) ⊎ (e ≡ p / 8))
  both_left =
      let g = shape.geometry in
      let m = middle.0 in
      let w = middle.1 in
      let most = w.most in
      all_both g image m image' row.id (λ e. e ≡ q / 8) (λ e. e ≡ p / 8) most.size both_clean.acts (growth_parts g image m row j q start (grows m w))
      (mark_parts g m image' row (suc j) (p / 8) p (start_m m w) (marks m w))

  pub both_exact : (IsTrue (is_mixed shape.geometry image' (q / 8)) ↔ HasOpenPage shape.geometry image' (q / 8)) → HasExactSgam shape.geometry image → HasExactSgam shape.geometry image'
  both_exact here exact =
      let g = shape.geometry in
      let m = middle.0 in
      let w = middle.1 in
      mark_exact g m image' row (suc j) (p / 8) p (start_m m w) (marks m w) (growth_exact g image m row j q start (grows m w) (taken_m m w here) exact)
