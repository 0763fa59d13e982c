-- A part is as clean as what it reads.
use Rattle.std.proofs.Common.{◌≡◌, ℕ, ◌/◌, ◌<◌, length, refl, sym, ap, subst, ◌∙◌, inl, inr, arith}
use Rattle.std.proofs.lemmas.Bool.{false_from_ne_true}
use Rattle.spec_file.specs.declared.geometry.Geometry.{Geometry}
use Rattle.spec_file.specs.declared.data.Resource.TheVariants.{Catalog, Table, Extent, Byte, Page}
use Rattle.spec_file.specs.Image.{Image, page}
use Rattle.spec_file.specs.Catalog.{PassesCatalog}
use Rattle.spec_file.specs.CatalogRows.{CatalogRow}
use Rattle.spec_file.specs.Roles.{is_ordinary}
use Rattle.spec_chain.specs.Chains.{IsObject}
use Rattle.spec_chain.specs.Marks.{HasMarker}
use Rattle.spec_chain.specs.Uses.{HasUse}
use Rattle.spec_check.specs.System.{IsSystemSound}
use Rattle.spec_clean.specs.CleanExtents.{IsCleanPage, IsCleanExtent}
use Rattle.spec_clean.specs.CleanTables.{IsCleanTable}
use Rattle.spec_extents.specs.Extents.{extent_of, Fits, HoldsUse, IsMixed}
use Rattle.spec_steps.specs.PartsRead.{ReadsSameCatalog, ReadsSameExtent, ReadsSameTable}
use Rattle.law_extents.proofs.GoodKinds.{no_role}
use Rattle.law_frames.specs.Laws.{PartIsWhatItReads}
use Rattle.law_frames.proofs.KeptObjects.{kept_clean}

catalog_part : (g : Geometry) (image image' : Image) → length image' ≡ length image → ReadsSameCatalog g image image' → 9 < length image → IsSystemSound g image → IsSystemSound g image'
catalog_part g image image' size reads boot sound q inside (inl (type, is, says_)) =
    let old : q < length image = subst (λ n. q < n) size inside in
    sound q old (inl (type, is, sym (reads.system q type old is) ∙ says_))
catalog_part g image image' size reads boot sound q inside (inr (nine, fails)) =
    sound 9 boot (inr (refl, λ passes. fails (subst PassesCatalog (sym reads.boot ∙ ap (page image') (sym nine)) passes)))

module _ (g : Geometry) (image image' : Image) (e : ℕ) (reads : ReadsSameExtent g image image' e) (part : IsCleanExtent g e (extent_of g image e)) where
  -- it holds a use, and is marked, where it did
  holds : HoldsUse e (extent_of g image' e) → HoldsUse e (extent_of g image e)
  holds (inl h) = inl (h.0, h.1, (h.2.0, (reads.uses h.0 h.1 h.2.0).0 h.2.1))
  holds (inr boot) = inr boot

  marked : HasMarker g image' e → HasMarker g image e
  marked (o, m) = (o, (reads.marks o).0 m)

  held : HoldsUse e (extent_of g image e) → HoldsUse e (extent_of g image' e)
  held (inl h) = inl (h.0, h.1, (h.2.0, (reads.uses h.0 h.1 h.2.0).1 h.2.1))
  held (inr boot) = inr boot

  bare : HasMarker g image e → HasMarker g image' e
  bare (o, m) = (o, (reads.marks o).1 m)

  mixed : IsMixed e (extent_of g image' e) → IsMixed e (extent_of g image e)
  mixed (inl h) = inl (holds h)
  mixed (inr bits) = inr (sym reads.mixed ∙ bits.0, sym reads.free ∙ bits.1)

  clean_page : (p : ℕ) → p / 8 ≡ e → IsCleanPage g (extent_of g image' e) p
  clean_page p at =
      let old = part.pages p at in record {
        role = λ kind is. subst (λ b. Fits b kind) (sym (reads.bytes p at (inl (false_from_ne_true (is_ordinary g p) (λ ordinary. no_role g p kind ordinary is))))) (old.role kind is);
        one = λ u v a b. old.one u v ((reads.uses p at u).0 a) ((reads.uses p at v).0 b);
        unowned = λ ordinary unused unmarked.
            let no_use = λ (h : HasUse g image p). unused (h.0, (reads.uses p at h.0).1 h.1) in
            let no_mark = λ (h : HasMarker g image e). unmarked (bare h) in
            reads.bytes p at (inr (no_use, λ h. no_mark (subst (HasMarker g image) at h))) ∙ old.unowned ordinary no_use no_mark;
      }

  extent_part : IsCleanExtent g e (extent_of g image' e)
  extent_part = record {
    one_map = λ f m. part.one_map (sym reads.free ∙ f) (sym reads.mixed ∙ m);
    one_marker = λ o q a b. part.one_marker o q ((reads.marks o).0 a) ((reads.marks q).0 b);
    claimed = λ f m system unused unmarked. part.claimed (sym reads.free ∙ f) (sym reads.mixed ∙ m) system (λ h. unused (held h)) (λ h. unmarked (bare h));
    system_free = λ system f. part.system_free system (sym reads.free ∙ f);
    system_mixed = λ system m. part.system_mixed system (mixed m);
    system_marked = λ system m. part.system_marked system (marked m);
    free_mixed = λ f m. part.free_mixed (sym reads.free ∙ f) (mixed m);
    free_marked = λ f m. part.free_marked (sym reads.free ∙ f) (marked m);
    mixed_marked = λ m n. part.mixed_marked (mixed m) (marked n);
    pages = clean_page;
  }

table_part : (g : Geometry) (image image' : Image) (o : ℕ) → length image' ≡ length image → ReadsSameTable g image image' o
    → ((row : CatalogRow) → IsObject image row → row.id ≡ o → IsCleanTable g image row) → (row : CatalogRow) → IsObject image' row → row.id ≡ o → IsCleanTable g image' row
table_part g image image' o size reads part row object same =
    let old = (reads.rows row same).0 object in kept_clean g image image' row size (reads.owned row old same) (part row old same)

pub part_is_what_it_reads : PartIsWhatItReads
part_is_what_it_reads g image image' Catalog shape size reads part = catalog_part g image image' size reads (let low = shape.low in omega (arith, low)) part
part_is_what_it_reads g image image' (Extent e) shape size reads part = λ inside. let old = subst (λ n. e.0 < n / 8) size inside in extent_part g image image' e.0 (reads old) (part old)
part_is_what_it_reads g image image' (Table o) shape size reads part = table_part g image image' o.0 size reads part
part_is_what_it_reads g image image' (Byte p) shape size reads part = tt
part_is_what_it_reads g image image' (Page p) shape size reads part = tt
