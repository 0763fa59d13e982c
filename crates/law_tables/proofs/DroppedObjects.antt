-- DROP leaves clean maps clean, and a clean file.
use Rattle.std.proofs.Common.{◌≡◌, ◌≢◌, ◌⊎◌, ℕ, ◌/◌, ◌<◌, true, IsTrue, length, refl, sym, ap, subst, ◌∙◌, inl, inr, ⊎_elim, arith}
use Rattle.std.proofs.lemmas.Bool.{cases_Bool, both_ways}
use Rattle.spec_file.specs.declared.geometry.Geometry.{Geometry}
use Rattle.spec_file.specs.Image.{Image, page}
use Rattle.spec_file.specs.Places.{extent_count}
use Rattle.spec_file.specs.Roles.{is_ordinary}
use Rattle.spec_file.specs.CatalogRows.{CatalogRow}
use Rattle.spec_file.specs.Iam.{single_slot_count}
use Rattle.spec_chain.specs.Chains.{IsObject}
use Rattle.spec_chain.specs.Marks.{IsMarker, IsMarked}
use Rattle.spec_chain.specs.Uses.{Use, IsUse, IsUseBy, pfs_byte, is_allocated}
use Rattle.spec_extents.specs.Extents.{Extent, extent_of, IsGoodExtent}
use Rattle.spec_clean.specs.CleanFiles.{IsClean}
use Rattle.spec_steps.specs.AtMost.{Changed}
use Rattle.spec_steps.specs.Acts.{Acts, StaysClean}
use Rattle.spec_steps.specs.PartsRead.{LeavesParts}
use Rattle.spec_steps.specs.Tables.{Has, UsesOf, dropped, DropsObject}
use Rattle.law_writes.proofs.MapPages.{boot_not, differs}
use Rattle.law_extents.proofs.Listed.{decided}
use Rattle.law_extents.proofs.Locality.{unused_zero}
use Rattle.law_extents.proofs.GoodKinds.{owned_kind}
use Rattle.law_extents.proofs.GoodChanges.{stable, same_good, extent_freed, singles_freed}
use Rattle.law_frames.proofs.Held.{IsStart, goods, held, sound_catalog, the_row}
use Rattle.law_steps.proofs.Owners.{one_owner}
use Rattle.law_steps.proofs.OneObject.{IsNotOthers, acts_from, other_uses, other_marks, clean_after}
use Rattle.law_steps.proofs.ExactSgam.{free_here, left_here, zero_open, exact_unless}
use Rattle.spec_steps.specs.Sgam.{IsSgamExact, HasExactSgam}
use Rattle.spec_file.specs.Pfs.{is_allocated_byte}
use Rattle.law_tables.proofs.Entries.{LosesRow, loses}
use Rattle.law_frames.proofs.OtherObjects.{has_owned}
use Rattle.law_steps.proofs.LeftParts.{tables_left}
use Rattle.law_frames.proofs.WholeFiles.{after, file_stays_clean}

module _ (g : Geometry) (image image' : Image) (row : CatalogRow) (start : IsStart g image) (drops : DropsObject g image image' row) where
  abbrev changed : Changed
  changed = dropped g image row

  entry : LosesRow row (page image 9) (page image' 9)
  entry = subst (λ r. LosesRow r (page image 9) (page image' 9)) (sym drops.is) (loses drops.place (page image 9) (page image' 9) (sound_catalog g image start) drops.empties)

  object : IsObject image row
  object = entry.was

  not_others : (q : ℕ) → q < length image → Has g image row q → IsNotOthers g image row.id q
  not_others q inside has r there other owns = other (one_owner g image start r row q inside there object owns (has_owned g image row q has))

  drop_acts : Acts g image image' row.id
  drop_acts = acts_from g image image' row.id changed (record {
    most = drops.most;
    catalog = entry.passes;
    rows = entry.rows;
    boot = drops.empties.set.header;
    whole = λ q c. inl c;
    pages = λ q c inside ordinary. absurd (differs g q 9 ordinary (boot_not g) c);
    bytes = λ q c inside. not_others q inside c;
  })

  -- its uses and marks are gone, all others stay
  not_own : (q : ℕ) (u : Use) → IsUse g image' q u → u.object ≢ row.id
  not_own q u h same = entry.gone h.0 h.1 (h.2 ∙ same)

  use_from : (q : ℕ) (u : Use) → IsUse g image' q u → IsUse g image q u
  use_from q u h = (other_uses g image image' row.id start drop_acts q u (not_own q u h)).0 h

  use_in : (q : ℕ) (u : Use) → u.object ≢ row.id → IsUse g image q u → IsUse g image' q u
  use_in q u other = (other_uses g image image' row.id start drop_acts q u other).1

  not_mark : (e m : ℕ) → IsMarker g image' e m → m ≢ row.id
  not_mark e m h same = entry.gone h.0 h.1 (h.2 ∙ same)

  mark_from : (e m : ℕ) → IsMarker g image' e m → IsMarker g image e m
  mark_from e m h = (other_marks g image image' row.id start drop_acts e m (not_mark e m h)).0 h

  mark_in : (e m : ℕ) → m ≢ row.id → IsMarker g image e m → IsMarker g image' e m
  mark_in e m other = (other_marks g image image' row.id start drop_acts e m other).1

  -- a use of the object's id is one by the object
  own_row : (r : CatalogRow) → IsObject image r → r.id ≡ row.id → r ≡ row
  own_row r there same = the_row g image row r start object there same

  has_ordinary : (q : ℕ) → Has g image row q → IsTrue (is_ordinary g q)
  has_ordinary q (inl allocated) = drops.ordinary q allocated
  has_ordinary q (inr chain) = subst (λ r. is_ordinary g r ≡ true) chain.2 (held g image row chain.0 start object chain.1).ordinary

  abbrev Gone : ℕ → Type 0
  Gone q = (place : ℕ) × IsUseBy g image q row place

  gone_has : (q : ℕ) → Gone q → Has g image row q
  gone_has q (place, inl holds) = inl (inl (place, holds))
  gone_has q (place, inr chain) = inr chain.1

  -- where the object doesn't mark the extent, it has of its pages those that it uses
  has_gone : (e q : ℕ) → q / 8 ≡ e → (IsMarked g image row e → ⊥) → Has g image row q → Gone q
  has_gone e q at unmarked (inl (inl slot)) = (slot.0, inl slot.1)
  has_gone e q at unmarked (inl (inr marked)) = absurd (unmarked (subst (IsMarked g image row) at marked.1))
  has_gone e q at unmarked (inr chain) = (single_slot_count, inr (refl, chain))

  module _ (e : ℕ) (inside : e < extent_count image) where
    abbrev x : Extent
    x = extent_of g image e

    abbrev y : Extent
    y = extent_of g image' e

    below : (q : ℕ) → q / 8 ≡ e → q < length image
    below q at = omega (arith, at, inside)

    -- an extent that the object marks holds no use
    not_both : IsMarked g image row e → UsesOf g image row e → ⊥
    not_both m (q, at, place, by) =
        let u : Use = record { object = row.id; place = place } in
        (goods g image start e inside).mixed_marked (inl (inl (q, at, (u, (row, object, refl, by))))) (row.id, (row, object, refl, m))

    freed : IsMarked g image row e → IsGoodExtent g e y
    freed m =
        let mark : x.marks row.id = (row, object, refl, m) in
        let owned = owned_kind g e x row.id (goods g image start e inside) mark in
        extent_freed g e x y (goods g image start e inside) (record {
          from = (row.id, mark);
          free = drops.marked e inside m;
          mixed = drops.most.mixed e inside (not_both m);
          zeros = λ q at ordinary. stable (pfs_byte g image' q) 0 (λ differ. decided (Has g image row q) (λ case_. ⊎_elim
              (λ has. differ (drops.bytes q (below q at) has))
              (λ other. differ (drops.most.bytes q (below q at) other ∙ ⊎_elim
              (λ allocated. absurd (other (inl (inr (below q at, subst (IsMarked g image row) (sym at) m, allocated)))))
              (λ free. unused_zero (pfs_byte g image q) ((owned.bytes q at ordinary).unallocated free)) (cases_Bool (is_allocated g image q)))) case_));
          bytes = λ q at other. drops.most.bytes q (below q at) (λ has. both_ways (is_ordinary g q) other (has_ordinary q has));
          uses = λ q at u. use_from q u;
          unmarked = λ h. not_mark e h.0 h.1 (owned.only h.0 (mark_from e h.0 h.1));
        })

    shared : (IsMarked g image row e → ⊥) → UsesOf g image row e → IsGoodExtent g e y
    shared unmarked single =
        let good = goods g image start e inside in
        singles_freed g e Gone x y good (record {
          from = inl (inl (single.0, single.1, (record { object = row.id; place = single.2 }, (row, object, refl, single.3))));
          ordinary = λ q at gone. has_ordinary q (gone_has q gone);
          zeros = λ q at gone. drops.bytes q (below q at) (gone_has q gone);
          bytes = λ q at stays. drops.most.bytes q (below q at) (λ has. stays (has_gone e q at unmarked has));
          uses = λ q at u. (
            λ h. (
              use_from q u h,
              λ gone. not_own q u h (ap (λ (w : Use). w.object)
                  ((good.pages q at).one u (record { object = row.id; place = gone.0 }) (use_from q u h) (row, object, refl, gone.1))),
            ),
            λ h. use_in q u (λ same. h.1 (u.place, subst (λ r. IsUseBy g image q r u.place) (own_row h.0.0 h.0.1 (h.0.2 ∙ same)) h.0.3)) h.0,
          );
          marks = λ m. mark_from e m;
          bits = drops.shared e inside single;
        })

    same : (IsMarked g image row e → ⊥) → (UsesOf g image row e → ⊥) → IsGoodExtent g e y
    same unmarked none =
        same_good g e x y (goods g image start e inside) (record {
          free = drops.most.free e inside (λ c. ⊎_elim unmarked none c);
          mixed = drops.most.mixed e inside none;
          bytes = λ q at. drops.most.bytes q (below q at) (λ has. let gone = has_gone e q at unmarked has in none (q, at, gone.0, gone.1));
          uses = λ q at u. (
            use_from q u,
            λ h. use_in q u (λ own. none (q, at, u.place, subst (λ r. IsUseBy g image q r u.place) (own_row h.0 h.1 (h.2 ∙ own)) h.3)) h,
          );
          marks = λ m. (mark_from e m, λ h. mark_in e m (λ own. unmarked (subst (λ r. IsMarked g image r e) (own_row h.0 h.1 (h.2 ∙ own)) h.3)) h);
        })

    not_bad : (IsGoodExtent g e y → ⊥) → ⊥
    not_bad bad = decided (IsMarked g image row e) (λ case_. ⊎_elim (λ m. bad (freed m))
        (λ unmarked. decided (UsesOf g image row e) (λ case__. ⊎_elim (λ s. bad (shared unmarked s)) (λ none. bad (same unmarked none)) case__)) case_)

  pub drop_maps : StaysClean g image image' row.id
  drop_maps = record {
    acts = drop_acts;
    maps = clean_after g image image' row.id start drop_acts
        (λ r there own. absurd (entry.gone r there own))
        (λ e inside bad. not_bad e (subst (λ n. e < n / 8) drops.most.size inside) bad);
  }

  pub drop_clean : IsClean g image → IsClean g image'
  drop_clean clean = file_stays_clean g image image' row.id start.shape clean drop_maps (λ r there own. absurd (entry.gone r there own))

  -- the parts of other tables, and of extents of which it had nothing, read the same
  pub drop_parts : LeavesParts g image image' row.id (λ e. IsMarked g image row e ⊎ UsesOf g image row e)
  drop_parts = record {
    extents = λ e low none. record {
      free = drops.most.free e low none;
      mixed = drops.most.mixed e low (λ uses. none (inr uses));
      uses = λ q at u. (
        use_from q u,
        λ h. use_in q u (λ same. none (inr (q, at, u.place, subst (λ r. IsUseBy g image q r u.place) (own_row h.0 h.1 (h.2 ∙ same)) h.3))) h,
      );
      marks = λ m. (mark_from e m, λ h. mark_in e m (λ same. none (inl (subst (λ r. IsMarked g image r e) (own_row h.0 h.1 (h.2 ∙ same)) h.3))) h);
      bytes = λ q at of. drops.most.bytes q (below e low q at) (λ has. let gone = has_gone e q at (λ marked. none (inl marked)) has in none (inr (q, at, gone.0, gone.1)));
    };
    tables = tables_left g image image' row.id drop_acts;
  }

  -- SGAM stays exact
  later : IsStart g image'
  later = after g image image' start drops.most.size drop_maps.maps

  same_exact : (e : ℕ) → e < extent_count image → (IsMarked g image row e → ⊥) → (UsesOf g image row e → ⊥) → IsSgamExact g image e → IsSgamExact g image' e
  same_exact e inside unmarked none exact =
      let byte = λ (q : ℕ) (at : q / 8 ≡ e). let w : is_allocated g image' q ≡ is_allocated g image q =
      ap is_allocated_byte (drops.most.bytes q (below e inside q at) (λ has. let gone = has_gone e q at unmarked has in none (q, at, gone.0, gone.1))) in w in
      let mixed = drops.most.mixed e inside none in record {
        open_page = λ m. let old = exact.open_page (sym mixed ∙ m) in (old.0, old.1, old.2, byte old.0 old.1 ∙ old.3);
        mixed = λ holds open_page. mixed ∙ exact.mixed (⊎_elim (λ h. inl (h.0, h.1, (h.2.0, use_from h.0 h.2.0 h.2.1))) (λ boot. inr boot) holds)
            (open_page.0, open_page.1, open_page.2, sym (byte open_page.0 open_page.1) ∙ open_page.3);
      }

  pub drop_exact : HasExactSgam g image → HasExactSgam g image'
  drop_exact exact e inside_ =
      let inside : e < extent_count image = subst (λ n. e < n / 8) drops.most.size inside_ in
      let good = goods g image' later e inside_ in
      exact_unless g image' e (λ bad. decided (IsMarked g image row e) (λ case_. ⊎_elim (λ m. bad (free_here g image' e good (drops.marked e inside m)))
      (λ unmarked. decided (UsesOf g image row e) (λ case__. ⊎_elim
      (λ s. let has = gone_has s.0 (s.2, s.3) in
      bad (left_here g image' e good (drops.shared e inside s) (s.0, s.1, has_ordinary s.0 has, zero_open g image' s.0 (drops.bytes s.0 (below e inside s.0 s.1) has))))
      (λ none. bad (same_exact e inside unmarked none (exact e inside))) case__)) case_))
