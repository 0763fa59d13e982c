-- An extent that is marked leaves clean maps clean.
use Rattle.std.proofs.Common.{◌≡◌, ◌≢◌, ◌⊎◌, ◌↔◌, ℕ, ◌+◌, ◌*◌, ◌/◌, ◌%◌, ◌<◌, true, IsTrue, List, length, refl, sym, ap, subst, ◌∙◌, inl, inr, ⊎_elim, arith}
use Rattle.std.proofs.lemmas.Bool.{cases_eq, false_from_ne_true}
use Rattle.spec_file.specs.declared.geometry.Geometry.{Geometry}
use Rattle.spec_file.specs.declared.geometry.Geometry.TheVariants.{Standard, Small}
use Rattle.spec_file.specs.Image.{Image, page}
use Rattle.spec_file.specs.CatalogRows.{CatalogRow}
use Rattle.spec_file.specs.Iam.{iam_interval, iam_mark}
use Rattle.spec_file.specs.Places.{interval_size, extent_count, is_free, is_mixed}
use Rattle.spec_file.specs.Roles.{is_ordinary}
use Rattle.spec_chain.specs.Chains.{IsObject, pointer, IsChainPage}
use Rattle.spec_chain.specs.Marks.{IsMarker, IsMarked}
use Rattle.spec_chain.specs.Uses.{Use, IsUse, pfs_byte}
use Rattle.spec_extents.specs.Extents.{extent_of}
use Rattle.spec_steps.specs.AtMost.{Changed, free_bit, byte_of, page_of, either}
use Rattle.spec_steps.specs.Acts.{Owns}
use Rattle.spec_steps.specs.IamPages.{SameLinks, SameSlots, SameMarks, OnChain}
use Rattle.spec_steps.specs.Taking.{MarksExtent}
use Rattle.law_extents.proofs.GoodChanges.{extent_taken}
use Rattle.law_frames.proofs.ChainRules.{HasMarksInside}
use Rattle.law_frames.proofs.SameChain.{SameChain, at_page}
use Rattle.law_frames.proofs.Held.{IsStart, goods, held}
use Rattle.spec_steps.specs.Acts.{StaysClean}
use Rattle.law_steps.proofs.Owners.{NobodyOwns, free_is_nobodys}
use Rattle.law_steps.proofs.OneObject.{one_extent, below}
use Rattle.law_steps.proofs.InChain.{StepsInChain, one_place, chain_owns, acts, onto, own_kept, mark_from, mark_in, same_uses, chain_keeps_clean, unchanged, same_links, same_slots_inside}

-- the interval and the bit tell the extent
pub same_extent : (g : Geometry) (e f : ℕ) → e / interval_size g ≡ f / interval_size g → e % interval_size g ≡ f % interval_size g → e ≡ f
same_extent Standard e f high low = omega (arith, high, low)
same_extent Small e f high low = omega (arith, high, low)

its_extent : (g : Geometry) (e : ℕ) → interval_size g * (e / interval_size g) + e % interval_size g ≡ e
its_extent Standard e = omega arith
its_extent Small e = omega arith

module _ (g : Geometry) (image image' : Image) (row : CatalogRow) (k e p : ℕ) (start : IsStart g image) (marks : MarksExtent g image image' row k e p) where
  abbrev at : ℕ → ℕ
  at j = pointer image row j

  abbrev changed : Changed
  changed = either (free_bit e) (either (byte_of p) (either (page_of p) (page_of (at k))))

  page_inside : p < length image
  page_inside = below image e p marks.inside marks.at

  nobodys : NobodyOwns g image p
  nobodys = free_is_nobodys g image start p page_inside (subst (λ f. is_free g image f ≡ true) (sym marks.at) marks.was_free)

  pages_are : (q : ℕ) → changed.pages q → (q ≡ p) ⊎ (q ≡ at k)
  pages_are q c = ⊎_elim (λ x. absurd x) (λ a. ⊎_elim (λ x. absurd x) (λ b. b) a) c

  bytes_are : (q : ℕ) → changed.bytes q → q ≡ p
  bytes_are q c = ⊎_elim (λ x. absurd x) (λ a. ⊎_elim (λ same. same) (λ b. ⊎_elim (λ x. absurd x) (λ x. absurd x) b) a) c

  not_new : (j : ℕ) → IsChainPage g image row j → at j ≢ p
  not_new j is same = nobodys row marks.object (subst (Owns g image row) same (chain_owns g image row j is))

  same_page : (j : ℕ) → IsChainPage g image row j → j ≢ k → page image' (at j) ≡ page image (at j)
  same_page j is other = unchanged g image image' row changed j start marks.object marks.most is
      (λ c. ⊎_elim (not_new j is) (λ same. other (one_place g image row j k is marks.chain same)) (pages_are (at j) c))

  -- each page of the chain but the k-th has the same bytes
  on_chain : (P : List ℕ → List ℕ → Type 0) → ((b : List ℕ) → P b b) → P (page image (at k)) (page image' (at k)) → OnChain g image image' row P
  on_chain P same own j is = ⊎_elim
      (λ here. subst (λ i. P (page image (at i)) (page image' (at i))) (sym here) own)
      (λ other. subst (P (page image (at j))) (sym (same_page j is other)) (same (page image (at j)))) (cases_eq j k)

  others : (j : ℕ) → IsChainPage g image row j → j ≢ k → SameMarks (page image (at j)) (page image' (at j))
  others j is other n = ap (λ b. iam_mark b n) (same_page j is other)

  step : StepsInChain g image image' row changed
  step = record {
    object = marks.object;
    most = marks.most;
    ordinary = λ q c. ⊎_elim (λ same. subst (λ r. is_ordinary g r ≡ true) (sym same) marks.ordinary)
        (λ same. subst (λ r. is_ordinary g r ≡ true) (sym same) (held g image row k start marks.object marks.chain).ordinary) (pages_are q c);
    pages = λ q c. ⊎_elim (λ same. inr (subst (NobodyOwns g image) (sym same) nobodys))
        (λ same. inl (subst (Owns g image row) (sym same) (chain_owns g image row k marks.chain))) (pages_are q c);
    bytes = λ q c. inr (subst (NobodyOwns g image) (sym (bytes_are q c)) nobodys);
    links = on_chain SameLinks same_links marks.mark.links;
  }

  kept : SameChain g image image' row
  kept = own_kept g image image' row changed start step

  -- the marks are as before, and the new one
  own_from : (f : ℕ) → IsMarked g image' row f → IsMarked g image row f ⊎ (f ≡ e)
  own_from f (j, mark_at) =
      let is = (kept.pages j).0 mark_at.0 in
      let same = at_page g image image' row kept j is in
      let interval : iam_interval (page image (at j)) ≡ f / interval_size g = sym (kept.links j is).interval ∙ ap (λ r. iam_interval (page image' r)) (sym same) ∙ mark_at.1 in
      let mark : IsTrue (iam_mark (page image' (at j)) (f % interval_size g)) = ap (λ r. iam_mark (page image' r) (f % interval_size g)) (sym same) ∙ mark_at.2 in
      ⊎_elim
      (λ here. ⊎_elim
      (λ bit. inr (same_extent g f e (sym interval ∙ ap (λ i. iam_interval (page image (at i))) here ∙ marks.interval) bit))
      (λ other. inl (
        j,
        (
          is,
          interval,
          subst (λ i. IsTrue (iam_mark (page image (at i)) (f % interval_size g))) (sym here)
              (sym (marks.mark.others (f % interval_size g) other) ∙ subst (λ i. IsTrue (iam_mark (page image' (at i)) (f % interval_size g))) here mark),
        ),
      ))
      (cases_eq (f % interval_size g) (e % interval_size g)))
      (λ other. inl (j, (is, interval, sym (others j is other (f % interval_size g)) ∙ mark)))
      (cases_eq j k)

  own_in : (f : ℕ) → IsMarked g image row f ⊎ (f ≡ e) → IsMarked g image' row f
  own_in f (inl (j, mark_at)) =
      let same = at_page g image image' row kept j mark_at.0 in
      let interval = ap (λ r. iam_interval (page image' r)) same ∙ (kept.links j mark_at.0).interval ∙ mark_at.1 in
      let mark : IsTrue (iam_mark (page image' (at j)) (f % interval_size g)) = ⊎_elim
      (λ here. subst (λ i. IsTrue (iam_mark (page image' (at i)) (f % interval_size g))) (sym here) (⊎_elim
      (λ bit. ap (iam_mark (page image' (at k))) bit ∙ marks.mark.here)
      (λ other. marks.mark.others (f % interval_size g) other ∙ subst (λ i. IsTrue (iam_mark (page image (at i)) (f % interval_size g))) here mark_at.2)
      (cases_eq (f % interval_size g) (e % interval_size g))))
      (λ other. others j mark_at.0 other (f % interval_size g) ∙ mark_at.2) (cases_eq j k) in
      (j, ((kept.pages j).1 mark_at.0, interval, ap (λ r. iam_mark (page image' r) (f % interval_size g)) same ∙ mark))
  own_in f (inr here) =
      let same = at_page g image image' row kept k marks.chain in
      subst (IsMarked g image' row) (sym here) (
        k,
        (
          (kept.pages k).1 marks.chain,
          ap (λ r. iam_interval (page image' r)) same ∙ (kept.links k marks.chain).interval ∙ marks.interval,
          ap (λ r. iam_mark (page image' r) (e % interval_size g)) same ∙ marks.mark.here,
        ),
      )

  pub markers : (f m : ℕ) → IsMarker g image' f m ↔ (IsMarker g image f m ⊎ ((f ≡ e) × (m ≡ row.id)))
  markers f m = (
    λ h. ⊎_elim (λ old. inl old.1) (λ own. ⊎_elim (λ old. inl (row, marks.object, sym own.0, old)) (λ new. inr (new, own.0))
        (own_from f own.1)) (mark_from g image image' row changed start step f m h),
    λ h. ⊎_elim (λ old. mark_in g image image' row changed start step f m old (λ same m_. own_in f (inl m_)))
        (λ new. (row, onto g image image' row changed start step row marks.object, sym new.1, own_in f (inr new.0))) h,
  )

  inside_marks : OnChain g image image' row (HasMarksInside g (length image'))
  inside_marks j is = record {
    inside = λ n low mark. ⊎_elim
        (λ here. ⊎_elim
        (λ bit. inr (
        let interval : iam_interval (page image' (at j)) ≡ e / interval_size g = (kept.links j is).interval ∙ ap (λ i. iam_interval (page image (at i))) here ∙ marks.interval in
        let is_e : interval_size g * iam_interval (page image' (at j)) + n ≡ e = ap (λ m. interval_size g * m + n) interval ∙ ap (λ m. interval_size g * (e / interval_size g) + m) bit ∙ its_extent g e in
        subst (λ m. m < length image' / 8) (sym is_e) (subst (λ m. e < m / 8) (sym marks.most.size) marks.inside)))
        (λ other. inl (subst (λ i. IsTrue (iam_mark (page image (at i)) n)) (sym here)
        (sym (marks.mark.others n other) ∙ subst (λ i. IsTrue (iam_mark (page image' (at i)) n)) here mark)))
        (cases_eq n (e % interval_size g)))
        (λ other. inl (sym (others j is other n) ∙ mark)) (cases_eq j k);
  }

  slots : OnChain g image image' row SameSlots
  slots = on_chain SameSlots (λ b i low. refl) marks.mark.slots

  pub mark_uses : (q : ℕ) (u : Use) → IsUse g image' q u → IsUse g image q u
  mark_uses q u = (same_uses g image image' row changed start step slots q u).0

  pub mark_uses_in : (q : ℕ) (u : Use) → IsUse g image q u → IsUse g image' q u
  mark_uses_in q u = (same_uses g image image' row changed start step slots q u).1

  pub mark_object : IsObject image' row
  mark_object = onto g image image' row changed start step row marks.object

  pub mark_clean : StaysClean g image image' row.id
  mark_clean =
      let good = goods g image start e marks.inside in
      let uses = same_uses g image image' row changed start step slots in
      let mixed = λ (f : ℕ) (low : f < extent_count image). let w : is_mixed g image' f ≡ is_mixed g image f = marks.most.mixed f low (λ c. ⊎_elim (λ x. x)
      (λ a. ⊎_elim (λ x. x) (λ b. ⊎_elim (λ x. x) (λ x. x) b) a) c) in w in
      let bytes = λ (q : ℕ) (low : q < length image) (other : q ≢ p). let w : pfs_byte g image' q ≡ pfs_byte g image q = marks.most.bytes q low (λ c. other (bytes_are q c)) in w in record {
        acts = acts g image image' row changed start step;
        maps = chain_keeps_clean g image image' row changed start step inside_marks (same_slots_inside g image image' row slots)
            (one_extent g image image' e (goods g image start) marks.most.size
            (record {
              free = λ f low other. marks.most.free f low (λ c. ⊎_elim other (λ a. ⊎_elim (λ x. x) (λ b. ⊎_elim (λ x. x) (λ x. x) b) a) c);
              mixed = λ f low other. mixed f low;
              bytes = λ q low other. bytes q low (λ same. other (ap (λ n. n / 8) same ∙ marks.at));
            })
            (λ q u other. uses q u)
            (λ f m other. (λ h. ⊎_elim (λ old. old) (λ new. absurd (other new.0)) ((markers f m).0 h), λ h. (markers f m).1 (inl h)))
            (extent_taken g e p row.id (extent_of g image e) (extent_of g image' e) good (record {
              from = marks.was_free;
              at = marks.at;
              ordinary = marks.ordinary;
              free = marks.free;
              mixed = mixed e marks.inside ∙ false_from_ne_true (is_mixed g image e) (good.one_map marks.was_free);
              byte = marks.byte;
              bytes = λ q here. bytes q (below image e q marks.inside here);
              uses = λ q here u. (uses q u).0;
              marks = λ m. (λ h. ⊎_elim (λ old. inl old) (λ new. inr new.1) ((markers e m).0 h), λ h. (markers e m).1 (⊎_elim (λ old. inl old) (λ new. inr (refl, new)) h));
            })));
      }
