-- A clean table's pages name pages that are seen of it.
use Rattle.std.proofs.Common.{ℕ, IsTrue, refl, sym, ap, subst, ◌∙◌}
use Rattle.spec_file.specs.declared.geometry.Geometry.{Geometry}
use Rattle.spec_file.specs.Image.{Image, page}
use Rattle.spec_file.specs.Kinds.{is_clustered}
use Rattle.spec_file.specs.CatalogRows.{CatalogRow}
use Rattle.spec_tree.specs.declared.known.PageHead.{PageHead}
use Rattle.spec_tree.specs.Known.{IsTable, IsUnseen}
use Rattle.spec_tables.specs.Seen.{IsSeen}
use Rattle.spec_tables.specs.Heads.{head_of, link_of, index_row}
use Rattle.spec_tables.specs.KnownPages.{root_of}
use Rattle.spec_clean.specs.KnownOfObject.{known_of_object}
use Rattle.law_clean.specs.Laws.{NextIsSeen, ChildIsSeen}
use Rattle.law_clean.proofs.ObjectTrees.{wrong_next, wrong_child}

own_table : (g : Geometry) (image : Image) (row : CatalogRow) → IsTrue (is_clustered row.kind) → IsTable (known_of_object g image row) row.id row.root
own_table g image row clustered = record { root = root_of row; known = record { clustered = clustered; is = refl }; object = refl; page = refl }

not_seen : (g : Geometry) (image : Image) (row : CatalogRow) (p : ℕ) → (IsSeen g image row p → ⊥) → IsUnseen (known_of_object g image row) p
not_seen g image row p unseen o head at =
    unseen (subst (IsSeen g image row) (sym (ap (λ (t : PageHead). t.page.0) at.known.is) ∙ at.page) at.known.seen)

pub next_is_seen : NextIsSeen
next_is_seen g image row p clean clustered seen some unseen =
    let head = head_of row.id p (page image p) in
    wrong_next (known_of_object g image row) head.next.0 (link_of head)
    (record {
      root = row.root;
      table = own_table g image row clustered;
      link = record { known = record { head = head; known = record { number = p; seen = seen; is = refl }; is = refl }; object = refl; next = refl };
    })
    some (not_seen g image row head.next.0 unseen) (λ x stands. clean.pages.tree x (head.next.0, stands))

pub child_is_seen : ChildIsSeen
child_is_seen g image row p slot clean clustered seen there unseen =
    let index = index_row row.id p (page image p) slot in
    wrong_child (known_of_object g image row) index.child.0 index
    (record {
      root = row.root;
      table = own_table g image row clustered;
      row = record { known = record { number = p; slot = slot; seen = seen; stands = there; is = refl }; object = refl; child = refl };
    })
    (not_seen g image row index.child.0 unseen) (λ x stands. clean.pages.tree x (index.child.0, stands))
