-- All parts of a clean file together are a check without errors.
use Rattle.std.proofs.Common.{◌≡◌, ℕ, ◌/◌, ◌<◌, List, [], ◌∷◌, length, Contains, refl, sym, subst, inl, inr, arith}
use Rattle.spec_file.specs.declared.geometry.Geometry.{Geometry}
use Rattle.spec_file.specs.declared.data.Resource.TheVariants.{Catalog, Table, Extent, Byte, Page}
use Rattle.spec_file.specs.Image.{Image, page}
use Rattle.spec_file.specs.Header.{page_type}
use Rattle.spec_file.specs.CatalogRows.{CatalogRow}
use Rattle.spec_file.specs.Places.{HasShape, extent_count}
use Rattle.spec_chain.specs.Chains.{IsObject}
use Rattle.spec_chain.specs.Marks.{IsMarker}
use Rattle.spec_chain.specs.Uses.{IsUseBy}
use Rattle.spec_chain.proofs.Pointers.{inside_below, goes_good}
use Rattle.spec_check.specs.declared.report.CheckError.{CheckError}
use Rattle.spec_check.specs.System.{wrong_page, IsSystemSound}
use Rattle.spec_check.proofs.Members.{nothing_there, cons_here}
use Rattle.spec_tables.specs.Written.{Stands}
use Rattle.spec_extents.specs.Extents.{extent_of, IsGoodExtent, AreGoodExtents}
use Rattle.spec_clean.specs.CleanExtents.{IsCleanExtent}
use Rattle.spec_clean.specs.CleanTables.{IsCleanTable}
use Rattle.spec_clean.specs.CleanFiles.{IsClean, HasCleanMaps}
use Rattle.law_extents.proofs.WholeFile.{good_from, no_error_from}
use Rattle.law_clean.specs.Laws.{CleanHasNoErrors, CleanHasEmptyReport}
use Rattle.law_clean.proofs.KnownParts.{tree_in, trees_from}

-- a page that is used is one of the file
pub used_inside : (g : Geometry) (image : Image) (row : CatalogRow) (p place : ℕ) → IsUseBy g image p row place → p < length image
used_inside g image row p place (inl holds) = inside_below (length image) p holds.1
used_inside g image row p place (inr chain) =
    let k = chain.1.0 in subst (λ q. q < length image) chain.1.2 (inside_below (length image) _ (goes_good g image row k (chain.1.1 k (omega arith))).inside)

-- good extents are clean extents, and the PFS bytes for which objects answer
pub clean_extent : (g : Geometry) (image : Image) (e : ℕ) → IsGoodExtent g e (extent_of g image e) → IsCleanExtent g e (extent_of g image e)
clean_extent g image e good = record {
  one_map = good.one_map;
  one_marker = good.one_marker;
  claimed = good.claimed;
  system_free = good.system_free;
  system_mixed = good.system_mixed;
  system_marked = good.system_marked;
  free_mixed = good.free_mixed;
  free_marked = good.free_marked;
  mixed_marked = good.mixed_marked;
  pages = λ p at. record { role = (good.pages p at).role; one = (good.pages p at).one; unowned = (good.pages p at).unowned };
}

pub good_extents : (g : Geometry) (image : Image) → ((e : ℕ) → e < extent_count image → IsCleanExtent g e (extent_of g image e))
    → ((row : CatalogRow) → IsObject image row → IsCleanTable g image row) → AreGoodExtents g image
good_extents g image extents tables e inside =
    let part = extents e inside in record {
      one_map = part.one_map;
      one_marker = part.one_marker;
      claimed = part.claimed;
      system_free = part.system_free;
      system_mixed = part.system_mixed;
      system_marked = part.system_marked;
      free_mixed = part.free_mixed;
      free_marked = part.free_marked;
      mixed_marked = part.mixed_marked;
      pages = λ p at. record {
        role = (part.pages p at).role;
        one = (part.pages p at).one;
        used = λ ordinary u is. (tables is.0 is.1).used p u.place ordinary is.3;
        marked = λ ordinary m. let marker = subst (λ f. IsMarker g image f m.0) (sym at) m.1 in
            (tables marker.0 marker.1).marked p (omega (arith, at, inside)) ordinary marker.3;
        unowned = (part.pages p at).unowned;
      };
    }

module _ (g : Geometry) (image : Image) (shape : HasShape g (length image)) where
  boot_inside : 9 < length image
  boot_inside = let a = shape.low in omega (arith, a)

  below : (p : ℕ) → p < length image → p / 8 < extent_count image
  below p inside = let b = shape.whole in omega (arith, inside, b)

  -- from no error to the parts
  module _ (none : (x : CheckError) → Stands g image x → ⊥) where
    sound_from : IsSystemSound g image
    sound_from p inside wrong = none (wrong_page p (page_type (page image p))) (inl (p, inside, wrong, inl refl))

    goods : AreGoodExtents g image
    goods = good_from g image (λ x stands. none x (inr (sound_from, inl (inr stands))))

    table_from : (row : CatalogRow) → IsObject image row → IsCleanTable g image row
    table_from row object = record {
      chain = λ x error_. none x (inr (sound_from, inl (inl (row, object, error_))));
      used = λ p place ordinary is.
          ((goods (p / 8) (below p (used_inside g image row p place is))).pages p refl).used ordinary (record { object = row.id; place = place }) (row, object, refl, is);
      marked = λ p inside ordinary is. ((goods (p / 8) (below p inside)).pages p refl).marked ordinary (row.id, (row, object, refl, is));
      pages = record {
        alone = λ p x allocated is. none x (inr (sound_from, inr (inl (record { row = row; number = p; object = object; allocated = allocated; is = is }))));
        tree = tree_in g image row boot_inside sound_from object (λ x error_. none x (inr (sound_from, inr (inr error_))));
      };
    }

    pub clean_from : IsClean g image
    clean_from Catalog = sound_from
    clean_from (Table o) = λ row object same. table_from row object
    clean_from (Extent e) = λ inside. clean_extent g image e.0 (goods e.0 inside)
    clean_from (Byte p) = tt
    clean_from (Page p) = tt

  -- and back
  module _ (clean : IsClean g image) where
    pub clean_table : (row : CatalogRow) → IsObject image row → IsCleanTable g image row
    clean_table row object = clean (Table (record { 0 = row.id })) row object refl

    pub clean_goods : AreGoodExtents g image
    clean_goods = good_extents g image (λ e inside. clean (Extent (record { 0 = e })) inside) clean_table

    pub no_error : (x : CheckError) → Stands g image x → ⊥
    no_error x (inl (p, inside, wrong, _)) = clean Catalog p inside wrong
    no_error x (inr (sound, inl (inl (row, object, error_)))) = (clean_table row object).chain x error_
    no_error x (inr (sound, inl (inr stands))) = no_error_from g image shape.whole clean_goods x stands
    no_error x (inr (sound, inr (inl error_))) = (clean_table error_.row error_.object).pages.alone error_.number x error_.allocated error_.is
    no_error x (inr (sound, inr (inr error_))) = trees_from g image boot_inside sound (λ row object. (clean_table row object).pages.tree) x error_

    pub clean_maps : HasCleanMaps g image
    clean_maps = record { system = clean Catalog; none = λ x error_. no_error x (inr (clean Catalog, inl error_)) }

pub clean_has_no_errors : CleanHasNoErrors
clean_has_no_errors g image shape = (no_error g image shape, clean_from g image shape)

-- a list with nothing in it is empty
empty : {X : Type 0} (xs : List X) → ((x : X) → Contains xs x → ⊥) → xs ≡ []
empty [] none = refl
empty (x ∷ xs) none = absurd (none x (cons_here x xs))

pub clean_has_empty_report : CleanHasEmptyReport
clean_has_empty_report g image report shape check = (
  λ clean. empty report.errors (λ x there. no_error g image shape clean x (check.errors.sound x there)),
  λ none. clean_from g image shape (λ x stands. nothing_there x (subst (λ xs. Contains xs x) none (check.errors.complete x stands))),
)
