-- Who owns a page, where the maps are clean: at most one object, and none a page that can be taken.
use Rattle.std.proofs.Common.{◌≡◌, ℕ, ◌*◌, ◌/◌, ◌<◌, true, length, refl, sym, ap, subst, inl, inr, ⊎_elim, arith}
use Rattle.std.proofs.lemmas.Bool.{both_ways, false_from_ne_true}
use Rattle.spec_file.specs.declared.geometry.Geometry.{Geometry}
use Rattle.spec_file.specs.Image.{Image}
use Rattle.spec_file.specs.CatalogRows.{CatalogRow}
use Rattle.spec_file.specs.Pfs.{is_allocated_byte}
use Rattle.spec_file.specs.Places.{is_free, extent_count}
use Rattle.spec_chain.specs.Chains.{IsObject}
use Rattle.spec_chain.specs.Uses.{Use, is_allocated, pfs_byte}
use Rattle.spec_extents.specs.Extents.{extent_of}
use Rattle.spec_steps.specs.Acts.{Owns}
use Rattle.spec_steps.specs.Taking.{IsTakeable}
use Rattle.law_extents.proofs.GoodKinds.{used_allocated, free_kind, all_ordinary}
use Rattle.law_frames.proofs.Held.{IsStart, goods, extent_below}

abbrev pub NobodyOwns : Geometry → Image → ℕ → Type 0
NobodyOwns g image q = (row : CatalogRow) → IsObject image row → Owns g image row q → ⊥

abbrev use_at : ℕ → ℕ → Use
use_at o place = record { object = o; place = place }

module _ (g : Geometry) (image : Image) (start : IsStart g image) where
  pub one_owner : (a b : CatalogRow) (q : ℕ) → q < length image → IsObject image a → IsObject image b → Owns g image a q → Owns g image b q → a.id ≡ b.id
  one_owner a b q inside object object_ owns owns_ =
      let good = goods g image start (q / 8) (extent_below g image q start inside) in
      ⊎_elim
      (λ u. ⊎_elim
      (λ v. ap (λ (w : Use). w.object) ((good.pages q refl).one (use_at a.id u.0) (use_at b.id v.0) (a, object, refl, u.1) (b, object_, refl, v.1)))
      (λ m. absurd (good.mixed_marked (inl (inl (q, refl, (use_at a.id u.0, (a, object, refl, u.1))))) (b.id, (b, object_, refl, m)))) owns_)
      (λ m. ⊎_elim
      (λ v. absurd (good.mixed_marked (inl (inl (q, refl, (use_at b.id v.0, (b, object_, refl, v.1))))) (a.id, (a, object, refl, m))))
      (λ n. good.one_marker a.id b.id (a, object, refl, m) (b, object_, refl, n)) owns_) owns

  -- what is free, and what can be taken, is nobody's
  pub free_is_nobodys : (q : ℕ) → q < length image → is_free g image (q / 8) ≡ true → NobodyOwns g image q
  free_is_nobodys q inside free row object owns =
      let good = goods g image start (q / 8) (extent_below g image q start inside) in
      ⊎_elim (λ u. good.free_mixed free (inl (inl (q, refl, (use_at row.id u.0, (row, object, refl, u.1))))))
      (λ m. good.free_marked free (row.id, (row, object, refl, m))) owns

  pub takeable_is_nobodys : (p : ℕ) → IsTakeable g image p → NobodyOwns g image p
  takeable_is_nobodys p takeable row object owns =
      let good = goods g image start (p / 8) (extent_below g image p start takeable.inside) in
      ⊎_elim
      (λ u. both_ways (is_allocated g image p) takeable.unallocated
      (used_allocated (pfs_byte g image p) u.0 ((good.pages p refl).used takeable.ordinary (use_at row.id u.0) (row, object, refl, u.1))))
      (λ m. ⊎_elim (λ mixed. good.mixed_marked (inr (mixed, false_from_ne_true (is_free g image (p / 8)) (λ free. good.one_map free mixed))) (row.id, (row, object, refl, m)))
      (λ free. good.free_marked free (row.id, (row, object, refl, m))) takeable.extent) owns

  -- the first page of a free extent can be taken
  pub free_is_takeable : (e : ℕ) → e < extent_count image → is_free g image e ≡ true → IsTakeable g image (8 * e)
  free_is_takeable e inside free =
      let at : 8 * e / 8 ≡ e = omega arith in
      let kind = free_kind g e (extent_of g image e) (goods g image start e inside) free in
      let ordinary = all_ordinary g e (8 * e) at kind.system kind.boot in record {
        inside = omega (arith, inside);
        ordinary = ordinary;
        unallocated = ap is_allocated_byte (kind.bytes (8 * e) at ordinary);
        extent = inr (subst (λ f. is_free g image f ≡ true) (sym at) free);
      }
