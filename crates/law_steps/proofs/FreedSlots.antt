-- A single page that is freed leaves clean maps clean.
use Rattle.std.proofs.Common.{◌≡◌, ◌≢◌, ◌⊎◌, ◌↔◌, ℕ, zero, ◌/◌, ◌<◌, true, IsTrue, List, length, refl, sym, ap, subst, ◌∙◌, inl, inr, ⊎_elim, arith}
use Rattle.std.proofs.lemmas.Bool.{cases_eq}
use Rattle.spec_file.specs.declared.geometry.Geometry.{Geometry}
use Rattle.spec_file.specs.Image.{Image, page}
use Rattle.spec_file.specs.CatalogRows.{CatalogRow}
use Rattle.spec_file.specs.Iam.{single_slot_count, iam_slot}
use Rattle.spec_file.specs.Places.{is_inside}
use Rattle.spec_file.specs.Roles.{is_ordinary}
use Rattle.spec_chain.specs.Chains.{IsObject, pointer, IsChainPage}
use Rattle.spec_chain.specs.Marks.{IsMarker}
use Rattle.spec_chain.specs.Uses.{Use, IsUse, IsUseBy, pfs_byte}
use Rattle.spec_chain.proofs.Pointers.{inside_below, inside_nonzero}
use Rattle.spec_extents.specs.Extents.{extent_of}
use Rattle.spec_steps.specs.AtMost.{Changed, page_of, either, maps_of}
use Rattle.spec_steps.specs.Acts.{Owns}
use Rattle.spec_steps.specs.IamPages.{SameLinks, SameMarks, OnChain}
use Rattle.spec_steps.specs.Freeing.{FreesSingle}
use Rattle.law_extents.proofs.GoodChanges.{singles_freed}
use Rattle.law_frames.proofs.ChainRules.{HasSlotsInside, FirstSlotsInside}
use Rattle.law_frames.proofs.SameChain.{SameChain, slot_from, in_chain_kept}
use Rattle.law_frames.proofs.Held.{IsStart, goods, held, extent_below}
use Rattle.spec_steps.specs.Acts.{StaysClean}
use Rattle.law_steps.proofs.OneObject.{HasNoMaps, single_maps, single_bytes, one_extent, below}
use Rattle.law_steps.proofs.OwnPages.{slot_apart}
use Rattle.law_steps.proofs.InChain.{StepsInChain, chain_owns, acts, onto, own_kept, use_from, use_in, same_markers, chain_keeps_clean, unchanged, same_links, same_marks_inside}

module _ (g : Geometry) (image image' : Image) (row : CatalogRow) (p : ℕ) (start : IsStart g image) (frees : FreesSingle g image image' row p) where
  abbrev rest : Changed
  rest = either (page_of p) (page_of row.first_iam)

  abbrev changed : Changed
  changed = either (maps_of p) rest

  no_maps : HasNoMaps rest
  no_maps = record { free = λ e c. ⊎_elim (λ x. x) (λ x. x) c; mixed = λ e c. ⊎_elim (λ x. x) (λ x. x) c; bytes = λ q c. ⊎_elim (λ x. x) (λ x. x) c }

  pages_are : (q : ℕ) → changed.pages q → (q ≡ p) ⊎ (q ≡ row.first_iam)
  pages_are q c = ⊎_elim (λ a. absurd (⊎_elim (λ x. x) (λ b. ⊎_elim (λ x. x) (λ x. x) b) a)) (λ b. b) c

  first : IsChainPage g image row zero
  first = frees.holds.0.1

  inside : p < length image
  inside = inside_below (length image) p frees.holds.1

  on_chain : (P : List ℕ → List ℕ → Type 0) → ((b : List ℕ) → P b b) → P (page image row.first_iam) (page image' row.first_iam) → OnChain g image image' row P
  on_chain P same here k is = ⊎_elim
      (λ at. subst (λ q. P (page image q) (page image' q)) (sym at) here)
      (λ other. subst (P (page image (pointer image row k))) (sym (unchanged g image image' row changed k start frees.object frees.most is
      (λ c. ⊎_elim (slot_apart g image row frees.slot p k start frees.object frees.holds is) other (pages_are
      (pointer image row k) c)))) (same (page image (pointer image row k)))) (cases_eq (pointer image row k) row.first_iam)

  step : StepsInChain g image image' row changed
  step = record {
    object = frees.object;
    most = frees.most;
    ordinary = λ q c. ⊎_elim (λ same. subst (λ r. is_ordinary g r ≡ true) (sym same) frees.ordinary)
        (λ same. subst (λ r. is_ordinary g r ≡ true) (sym same) (held g image row zero start frees.object first).ordinary) (pages_are q c);
    pages = λ q c. ⊎_elim (λ same. inl (subst (Owns g image row) (sym same) (inl (frees.slot, inl frees.holds))))
        (λ same. inl (subst (Owns g image row) (sym same) (chain_owns g image row zero first))) (pages_are q c);
    bytes = λ q c. inl (subst (Owns g image row) (sym (⊎_elim (λ a. ⊎_elim (λ x. absurd x) (λ b. ⊎_elim (λ x. absurd x) (λ same. same) b) a)
        (λ b. absurd (⊎_elim (λ x. x) (λ x. x) b)) c)) (inl (frees.slot, inl frees.holds)));
    links = on_chain SameLinks same_links frees.out.links;
  }

  kept : SameChain g image image' row
  kept = own_kept g image image' row changed start step

  abbrev slot_use : Use
  slot_use = record { object = row.id; place = frees.slot }

  is_use : IsUse g image p slot_use
  is_use = (row, frees.object, refl, inl frees.holds)

  -- the page has no other use
  one_use : (u : Use) → IsUse g image p u → u ≡ slot_use
  one_use u h = ((goods g image start (p / 8) (extent_below g image p start inside)).pages p refl).one u slot_use h is_use

  not_chain : (q place : ℕ) → place ≡ single_slot_count → IsUseBy g image q row place → q ≢ p
  not_chain q place chain by same =
      let is = ap (λ (w : Use). w.place) (one_use (record { object = row.id; place = place }) (row, frees.object, refl, subst (λ r. IsUseBy g image r row place) same by)) in
      let low = frees.holds.0.0 in omega (arith, is, chain, low)

  own_from : (q place : ℕ) → IsUseBy g image' q row place → IsUseBy g image q row place × (q ≢ p)
  own_from q place (inl holds) =
      let slot = slot_from g image image' row place q kept holds.0 in
      let within = subst (λ n. IsTrue (is_inside n q)) kept.size holds.1 in
      ⊎_elim
      (λ here. absurd (inside_nonzero (length image) q within (sym slot.2 ∙ frees.out.gone place slot.0 here)))
      (λ other. let old = sym (frees.out.others place slot.0 other) ∙ slot.2 in (inl ((slot.0, slot.1, old), within), λ same. other (old ∙ same)))
      (cases_eq (iam_slot (page image row.first_iam) place) p)
  own_from q place (inr chain) =
      let old : IsUseBy g image q row place = inr (chain.0, (in_chain_kept g image image' row q kept).0 chain.1) in (old, not_chain q place chain.0 old)

  own_in : (q place : ℕ) → q ≢ p → IsUseBy g image q row place → IsUseBy g image' q row place
  own_in q place other (inl holds) =
      inl ((holds.0.0, (kept.pages zero).1 holds.0.1, frees.out.others place holds.0.0 (λ same. other (sym holds.0.2 ∙ same)) ∙ holds.0.2), subst (λ n. IsTrue (is_inside n q)) (sym kept.size) holds.1)
  own_in q place other (inr chain) = inr (chain.0, (in_chain_kept g image image' row q kept).1 chain.1)

  pub uses_left : (q : ℕ) (u : Use) → IsUse g image' q u ↔ (IsUse g image q u × (q ≢ p))
  uses_left q u = (
    λ h. ⊎_elim
        (λ old. (old.1, λ same. old.0 (ap (λ (w : Use). w.object) (one_use u (subst (λ r. IsUse g image r u) same old.1)))))
        (λ own. let was = own_from q u.place own.1 in ((row, frees.object, sym own.0, was.0), was.1)) (use_from g image image' row changed start step q u h),
    λ h. use_in g image image' row changed start step q u h.0 (λ same. own_in q u.place h.1),
  )

  slots_inside : FirstSlotsInside g image image' row
  slots_inside = on_chain (HasSlotsInside (length image')) (λ b. record { inside = λ i low. inl refl }) (record {
    inside = λ i low. ⊎_elim
        (λ here. inr (subst (λ n. n < length image') (sym (frees.out.gone i low here)) (subst (λ n. 0 < n) (sym frees.most.size) (let a = inside in omega (arith, a)))))
        (λ other. inl (frees.out.others i low other)) (cases_eq (iam_slot (page image row.first_iam) i) p);
  }) zero

  marks : OnChain g image image' row SameMarks
  marks = on_chain SameMarks (λ b n. refl) frees.out.marks

  -- the object stands, with the same marks
  pub freed_object : IsObject image' row
  freed_object = onto g image image' row changed start step row frees.object

  pub freed_markers : (e m : ℕ) → IsMarker g image' e m ↔ IsMarker g image e m
  freed_markers = same_markers g image image' row changed start step marks

  pub freed_single_clean : StaysClean g image image' row.id
  freed_single_clean =
      let e = p / 8 in
      let whole = extent_below g image p start inside in
      let markers = same_markers g image image' row changed start step marks in
      let bytes = single_bytes g image image' p rest no_maps frees.most in record {
        acts = acts g image image' row changed start step;
        maps = chain_keeps_clean g image image' row changed start step (same_marks_inside g image image' row marks) slots_inside
            (one_extent g image image' e (goods g image start) frees.most.size (single_maps g image image' p rest no_maps frees.most)
            (λ q u other. (λ h. ((uses_left q u).0 h).0, λ h. (uses_left q u).1 (h, λ same. other (ap (λ n. n / 8) same))))
            (λ f m other. markers f m)
            (singles_freed g e (λ q. q ≡ p) (extent_of g image e) (extent_of g image' e) (goods g image start e whole) (record {
              from = inl (inl (p, refl, (slot_use, is_use)));
              ordinary = λ q at same. subst (λ r. is_ordinary g r ≡ true) (sym same) frees.ordinary;
              zeros = λ q at same. ap (pfs_byte g image') same ∙ frees.byte;
              bytes = λ q at other. bytes q (below image e q whole at) other;
              uses = λ q at u. uses_left q u;
              marks = λ m. (markers e m).0;
              bits = frees.left;
            })));
      }
