-- A single page that is put into a slot leaves clean maps clean.
use Rattle.std.proofs.Common.{◌≡◌, ◌≢◌, ◌⊎◌, ◌↔◌, ℕ, zero, ◌<◌, true, IsTrue, List, length, refl, sym, ap, subst, ◌∙◌, inl, inr, ⊎_elim}
use Rattle.std.proofs.lemmas.Bool.{cases_eq, and_from, lt-ltb, not_from_false, ne_eqb}
use Rattle.spec_file.specs.declared.geometry.Geometry.{Geometry}
use Rattle.spec_file.specs.declared.pfs.PfsKind.TheVariants.{Single}
use Rattle.spec_file.specs.Image.{Image, page}
use Rattle.spec_file.specs.CatalogRows.{CatalogRow}
use Rattle.spec_file.specs.Iam.{iam_slot}
use Rattle.spec_file.specs.Places.{is_inside}
use Rattle.spec_file.specs.Roles.{is_ordinary}
use Rattle.spec_chain.specs.Chains.{IsObject, pointer, IsChainPage}
use Rattle.spec_chain.specs.Marks.{IsMarker}
use Rattle.spec_chain.specs.Uses.{Use, IsUse, IsUseBy}
use Rattle.spec_chain.proofs.Pointers.{inside_nonzero}
use Rattle.spec_steps.specs.AtMost.{Changed, page_of, either, maps_of}
use Rattle.spec_steps.specs.IamPages.{SameLinks, SameMarks, OnChain}
use Rattle.spec_steps.specs.Taking.{PutsIntoSlot}
use Rattle.law_frames.proofs.ChainRules.{HasSlotsInside, FirstSlotsInside}
use Rattle.law_frames.proofs.SameChain.{SameChain, slot_from, in_chain_kept}
use Rattle.law_frames.proofs.Held.{IsStart, goods, held}
use Rattle.spec_steps.specs.Acts.{StaysClean}
use Rattle.spec_steps.specs.Acts.{Owns}
use Rattle.law_steps.proofs.Owners.{NobodyOwns, takeable_is_nobodys}
use Rattle.law_steps.proofs.OneObject.{HasNoMaps, single_maps, single_bytes, taken_extents}
use Rattle.law_steps.proofs.InChain.{IsOwn, StepsInChain, chain_owns, acts, onto, own_kept, use_from, use_in, same_markers, chain_keeps_clean, unchanged, same_links, same_marks_inside}

pub nonzero : (g : Geometry) (p : ℕ) → is_ordinary g p ≡ true → p ≢ 0
nonzero g p ordinary none = let is : is_ordinary g 0 ≡ true = subst (λ q. is_ordinary g q ≡ true) none ordinary in cc

pub inside_from : (g : Geometry) (p n : ℕ) → is_ordinary g p ≡ true → p < n → is_inside n p ≡ true
inside_from g p n ordinary low = and_from _ _ (not_from_false _ (ne_eqb p 0 (nonzero g p ordinary))) (lt-ltb p n low)

pub use_is : (u : Use) (o place : ℕ) → u.object ≡ o → u.place ≡ place → u ≡ record { object = o; place = place }
use_is u o place object is = ap (λ n. let w : Use = record { object = n; place = u.place } in w) object ∙ ap (λ n. let w : Use = record { object = o; place = n } in w) is

module _ (g : Geometry) (image image' : Image) (row : CatalogRow) (slot p : ℕ) (start : IsStart g image) (puts : PutsIntoSlot g image image' row slot p) where
  abbrev rest : Changed
  rest = either (page_of p) (page_of row.first_iam)

  abbrev changed : Changed
  changed = either (maps_of p) rest

  no_maps : HasNoMaps rest
  no_maps = record { free = λ e c. ⊎_elim (λ x. x) (λ x. x) c; mixed = λ e c. ⊎_elim (λ x. x) (λ x. x) c; bytes = λ q c. ⊎_elim (λ x. x) (λ x. x) c }

  pages_are : (q : ℕ) → changed.pages q → (q ≡ p) ⊎ (q ≡ row.first_iam)
  pages_are q c = ⊎_elim (λ a. absurd (⊎_elim (λ x. x) (λ b. ⊎_elim (λ x. x) (λ x. x) b) a)) (λ b. b) c

  not_new : (k : ℕ) → IsChainPage g image row k → pointer image row k ≢ p
  not_new k is same = takeable_is_nobodys g image start p puts.takeable row puts.object (subst (Owns g image row) same (chain_owns g image row k is))

  -- each page of the chain but the first has the same bytes
  on_chain : (P : List ℕ → List ℕ → Type 0) → ((b : List ℕ) → P b b) → P (page image row.first_iam) (page image' row.first_iam) → OnChain g image image' row P
  on_chain P same first k is = ⊎_elim
      (λ here. subst (λ q. P (page image q) (page image' q)) (sym here) first)
      (λ other. subst (P (page image (pointer image row k))) (sym (unchanged g image image' row changed k start puts.object puts.most is
      (λ c. ⊎_elim (not_new k is) other (pages_are (pointer image row k) c)))) (same (page image (pointer image row k)))) (cases_eq (pointer image row k) row.first_iam)

  own : (q : ℕ) → (q ≡ p) ⊎ (q ≡ row.first_iam) → IsOwn g image row q
  own q (inl same) = inr (subst (NobodyOwns g image) (sym same) (takeable_is_nobodys g image start p puts.takeable))
  own q (inr same) = inl (subst (Owns g image row) (sym same) (chain_owns g image row zero puts.first))

  step : StepsInChain g image image' row changed
  step = record {
    object = puts.object;
    most = puts.most;
    ordinary = λ q c. ⊎_elim (λ same. subst (λ r. is_ordinary g r ≡ true) (sym same) puts.takeable.ordinary)
        (λ same. subst (λ r. is_ordinary g r ≡ true) (sym same) (held g image row zero start puts.object puts.first).ordinary) (pages_are q c);
    pages = λ q c. own q (pages_are q c);
    bytes = λ q c. own q (inl (⊎_elim (λ a. ⊎_elim (λ x. absurd x) (λ b. ⊎_elim (λ x. absurd x) (λ same. same) b) a) (λ b. absurd (⊎_elim (λ x. x) (λ x. x) b)) c));
    links = on_chain SameLinks same_links puts.put.links;
  }

  kept : SameChain g image image' row
  kept = own_kept g image image' row changed start step

  -- the uses are as before, and the new one
  own_from : (q place : ℕ) → IsUseBy g image' q row place → IsUseBy g image q row place ⊎ ((q ≡ p) × (place ≡ slot))
  own_from q place (inl holds) =
      let at = slot_from g image image' row place q kept holds.0 in
      ⊎_elim (λ here. inr (sym at.2 ∙ ap (iam_slot (page image' row.first_iam)) here ∙ puts.put.here, here))
      (λ other. inl (inl ((at.0, at.1, sym (puts.put.others place at.0 other) ∙ at.2), subst (λ n. IsTrue (is_inside n q)) kept.size holds.1)))
      (cases_eq place slot)
  own_from q place (inr chain) = inl (inr (chain.0, (in_chain_kept g image image' row q kept).0 chain.1))

  own_in : (q place : ℕ) → IsUseBy g image q row place → IsUseBy g image' q row place
  own_in q place (inl holds) =
      let other : place ≢ slot = λ here. inside_nonzero (length image) q holds.1 (sym holds.0.2 ∙ ap (iam_slot (page image row.first_iam)) here ∙ puts.empty) in
      inl ((holds.0.0, (kept.pages zero).1 holds.0.1, puts.put.others place holds.0.0 other ∙ holds.0.2), subst (λ n. IsTrue (is_inside n q)) (sym kept.size) holds.1)
  own_in q place (inr chain) = inr (chain.0, (in_chain_kept g image image' row q kept).1 chain.1)

  own_new : IsUseBy g image' p row slot
  own_new = inl ((puts.within, (kept.pages zero).1 puts.first, puts.put.here), inside_from g p (length image') puts.takeable.ordinary (subst (λ n. p < n) (sym kept.size) puts.takeable.inside))

  abbrev new_one : Use
  new_one = record { object = row.id; place = slot }

  pub slot_uses : (q : ℕ) (u : Use) → IsUse g image' q u ↔ (IsUse g image q u ⊎ ((q ≡ p) × (u ≡ new_one)))
  slot_uses q u = (
    λ h. ⊎_elim (λ old. inl old.1)
        (λ mine. ⊎_elim (λ old. inl (row, puts.object, sym mine.0, old)) (λ new. inr (new.0, use_is u row.id slot mine.0 new.1)) (own_from q u.place mine.1))
        (use_from g image image' row changed start step q u h),
    λ h. ⊎_elim (λ old. use_in g image image' row changed start step q u old (λ same. own_in q u.place))
        (λ new. subst (λ r. IsUse g image' r u) (sym new.0) (subst (IsUse g image' p) (sym new.1) (row, onto g image image' row changed start step row puts.object, refl, own_new))) h,
  )

  slots_inside : FirstSlotsInside g image image' row
  slots_inside = on_chain (HasSlotsInside (length image')) (λ b. record { inside = λ i low. inl refl }) (record {
    inside = λ i low. ⊎_elim
        (λ here. inr (subst (λ n. n < length image') (sym (ap (iam_slot (page image' row.first_iam)) here ∙ puts.put.here)) (subst (λ n. p < n) (sym puts.most.size) puts.takeable.inside)))
        (λ other. inl (puts.put.others i low other)) (cases_eq i slot);
  }) zero

  marks : OnChain g image image' row SameMarks
  marks = on_chain SameMarks (λ b n. refl) puts.put.marks

  -- the object stands, with the same marks
  pub slot_object : IsObject image' row
  slot_object = onto g image image' row changed start step row puts.object

  pub slot_markers : (e m : ℕ) → IsMarker g image' e m ↔ IsMarker g image e m
  slot_markers = same_markers g image image' row changed start step marks

  pub slot_clean : StaysClean g image image' row.id
  slot_clean = record {
    acts = acts g image image' row changed start step;
    maps = chain_keeps_clean g image image' row changed start step (same_marks_inside g image image' row marks) slots_inside
        (taken_extents g image image' p new_one (goods g image start) start.shape.whole puts.most.size (record {
          takeable = puts.takeable;
          changes = single_maps g image image' p rest no_maps puts.most;
          free = puts.taken.free;
          byte = record { kind = Single; is = inl (puts.within, refl); fits = puts.taken.byte };
          bytes = single_bytes g image image' p rest no_maps puts.most;
          uses = slot_uses;
          marks = same_markers g image image' row changed start step marks;
        }));
  }
