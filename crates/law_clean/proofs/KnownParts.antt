-- What is known of one object alone is a part of what is known of an image.
use Rattle.std.proofs.Common.{◌≡◌, ◌↔◌, ◌<◌, true, length, eqb-true, inr, refl, sym, ap, subst, ◌∙◌}
use Rattle.spec_file.specs.declared.geometry.Geometry.{Geometry}
use Rattle.spec_file.specs.Image.{Image, page}
use Rattle.spec_file.specs.Header.{header_of}
use Rattle.spec_file.specs.Kinds.{is_clustered}
use Rattle.spec_file.specs.Roles.{is_ordinary}
use Rattle.spec_file.specs.Catalog.{PassesCatalog}
use Rattle.spec_file.specs.CatalogRows.{CatalogRow}
use Rattle.spec_chain.specs.Chains.{IsObject}
use Rattle.spec_check.specs.declared.report.CheckError.{CheckError}
use Rattle.spec_check.specs.System.{IsSystemSound}
use Rattle.spec_tree.specs.declared.known.Root.{Root}
use Rattle.spec_tree.specs.declared.known.PageHead.{PageHead}
use Rattle.spec_tree.specs.declared.known.Link.{Link}
use Rattle.spec_tree.specs.declared.known.IndexRow.{IndexRow}
use Rattle.spec_tree.specs.Trees.{IsTreeError}
use Rattle.spec_tables.specs.Seen.{IsSeen}
use Rattle.spec_tables.specs.Heads.{head_of, index_row}
use Rattle.spec_tables.specs.KnownPages.{root_of, IsHeadIn, known_of_image}
use Rattle.spec_clean.specs.KnownOfObject.{IsHeadOf, known_of_object}
use Rattle.law_clean.proofs.CatalogIds.{one_row}
use Rattle.law_clean.proofs.ObjectTrees.{AgreesOf, IsPartOf, shows, into_part, out_of_part, agrees_back, table_of}

pub sound_catalog : (g : Geometry) (image : Image) → 9 < length image → IsSystemSound g image → (PassesCatalog (page image 9) → ⊥) → ⊥
sound_catalog g image inside sound fails = sound 9 inside (inr (refl, fails))

module _ (g : Geometry) (image : Image) (row : CatalogRow) (boot : 9 < length image) (sound : IsSystemSound g image) (object : IsObject image row) where
  -- an object of this id is this one
  pub the_row : (r : CatalogRow) → IsObject image r → r.id ≡ row.id → r ≡ row
  the_row r there same = one_row (page image 9) r row (sound_catalog g image boot sound) there object same

  heads : (s : PageHead) → s.object.0 ≡ row.id → IsHeadIn g image s ↔ IsHeadOf g image row s
  heads s at = (
    λ h. let is = the_row h.row h.object (sym (ap (λ (t : PageHead). t.object.0) h.is) ∙ at) in
        record { number = h.number; seen = subst (λ r. IsSeen g image r h.number) is h.seen; is = subst (λ r. s ≡ head_of r.id h.number (page image h.number)) is h.is },
    λ h. record { row = row; number = h.number; object = object; seen = h.seen; is = h.is },
  )

  agrees : AgreesOf (known_of_image g image) (known_of_object g image row) row.id
  agrees = record {
    tables = λ r at. (
      λ h. let is = the_row h.row h.object (sym (ap (λ (t : Root). t.object.0) h.is) ∙ at) in
          record { clustered = subst (λ w. is_clustered w.kind ≡ true) is h.clustered; is = subst (λ w. r ≡ root_of w) is h.is },
      λ h. record { row = row; object = object; clustered = h.clustered; is = h.is },
    );
    pages = heads;
    links = λ l at. (
      λ h. let own = (heads h.head (sym (ap (λ (t : Link). t.object.0) h.is) ∙ at)).0 h.known in record { head = h.head; known = own; is = h.is },
      λ h. record { head = h.head; known = (heads h.head (sym (ap (λ (t : Link). t.object.0) h.is) ∙ at)).1 h.known; is = h.is },
    );
    rows = λ c at. (
      λ h. let is = the_row h.row h.object (sym (ap (λ (t : IndexRow). t.object.0) h.is) ∙ at) in record {
        number = h.number;
        slot = h.slot;
        seen = subst (λ r. IsSeen g image r h.number) is h.seen;
        stands = h.stands;
        is = subst (λ r. c ≡ index_row r.id h.number (page image h.number) h.slot) is h.is;
      },
      λ h. record { row = row; number = h.number; slot = h.slot; object = object; seen = h.seen; stands = h.stands; is = h.is },
    );
  }

  -- a page that is seen says whose it is, and isn't page 0
  says_object : (s : PageHead) (h : IsHeadIn g image s) → (header_of (page image s.page.0)).object.0 ≡ s.object.0
  says_object s h =
      let own : (header_of (page image h.number)).object.0 ≡ h.row.id = eqb-true _ h.row.id h.seen.passes.rest.object in
      subst (λ (t : PageHead). (header_of (page image t.page.0)).object.0 ≡ t.object.0) (sym h.is) own

  is_part : IsPartOf (known_of_image g image) (known_of_object g image row) row.id
  is_part = record {
    agrees = agrees;
    within = λ s h. let at : s.object.0 ≡ row.id = ap (λ (t : PageHead). t.object.0) h.is in ((heads s at).1 h, at);
    one = λ p w s t here there.
        sym there.object ∙ sym (says_object t there.known) ∙ ap (λ q. (header_of (page image q)).object.0) (there.page ∙ sym here.page) ∙ says_object s here.known ∙ here.object;
    nonzero = λ p w s is none.
        let at : is.known.number ≡ 0 = sym (ap (λ (t : PageHead). t.page.0) is.known.is) ∙ is.page ∙ none in
        let zero_ : is_ordinary g 0 ≡ true = subst (λ q. is_ordinary g q ≡ true) at is.known.seen.ordinary in cc;
  }

  -- the trees of all objects without error leave the object's own without one
  pub tree_in : ((x : CheckError) → IsTreeError (known_of_image g image) x → ⊥) → (x : CheckError) → IsTreeError (known_of_object g image row) x → ⊥
  tree_in none x error_ =
      let t = (table_of (known_of_object g image row) error_.0 x error_.1).table in
      let at : x.object ≡ row.id = sym t.object ∙ ap (λ (r : Root). r.object.0) t.known.is in
      shows (known_of_object g image row) (known_of_image g image) row.id error_.0 x (agrees_back (known_of_image g image) (known_of_object g image row) row.id agrees)
      (out_of_part (known_of_image g image) (known_of_object g image row) row.id error_.0 is_part) at error_.1 (λ y stands. none y (error_.0, stands))

-- and back, where each object's own has none
pub trees_from : (g : Geometry) (image : Image) → 9 < length image → IsSystemSound g image
    → ((row : CatalogRow) → IsObject image row → (x : CheckError) → IsTreeError (known_of_object g image row) x → ⊥)
    → (x : CheckError) → IsTreeError (known_of_image g image) x → ⊥
trees_from g image boot sound none x error_ =
    let t = (table_of (known_of_image g image) error_.0 x error_.1).table in
    let row = t.known.row in
    let at : x.object ≡ row.id = sym t.object ∙ ap (λ (r : Root). r.object.0) t.known.is in
    shows (known_of_image g image) (known_of_object g image row) row.id error_.0 x (agrees g image row boot sound t.known.object)
    (into_part (known_of_image g image) (known_of_object g image row) row.id error_.0 (is_part g image row boot sound t.known.object)) at error_.1
    (λ y stands. none row t.known.object y (error_.0, stands))
