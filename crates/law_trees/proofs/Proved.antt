-- The law of one table, from that of what is known.
use Rattle.std.proofs.Common.{◌↔◌, ℕ, List, None, Contains, subst}
use Rattle.spec_file.specs.declared.geometry.Geometry.{Geometry}
use Rattle.spec_file.specs.Image.{Image}
use Rattle.spec_file.specs.CatalogRows.{CatalogRow}
use Rattle.spec_tables.specs.KnownPages.{known_of_image}
use Rattle.spec_levels.specs.Levels.{Rises}
use Rattle.spec_levels.specs.Pages.{Page, keys_on}
use Rattle.law_levels.proofs.Proved.{free_is_tree}
use Rattle.law_trees.specs.Read.{pages_read}
use Rattle.law_trees.specs.Laws.{IsSoundTable, HasTree, SoundTableIsTree}
use Rattle.law_trees.proofs.Tables.{IsTableOf, table_is}
use Rattle.law_trees.proofs.KnownImage.{read_from, image_known}
use Rattle.law_trees.proofs.Order.{ordered_rises, rises_ordered, are_pages, tree_rises}

table_is_tree : (g : Geometry) (image : Image) (row : CatalogRow) (ps : List ℕ) → IsTableOf g image row ps → IsSoundTable g image row ↔ HasTree image row ps
table_is_tree g image row ps t =
    let known = image_known g image row ps t in
    let seen = pages_read image ps in (
      λ sound.
          let rises : (p : Page) → Contains seen p → Rises 0 None (keys_on p) = λ p i. let r = read_from image ps p i in
          subst (λ q. Rises 0 None (keys_on q)) r.2 (ordered_rises g image row ps t sound.1 r.0 r.1) in
          (free_is_tree (known_of_image g image) row.id row.root seen known (are_pages g image row ps t rises)).0 sound.0,
      λ found.
          let tree = found.0 in
          let rises : (p : Page) → Contains seen p → Rises 0 None (keys_on p) =
          λ p i. tree_rises (_) tree.above tree.leaves found.1.is.levels p ((found.1.pages p).0 i) in
          ((free_is_tree (known_of_image g image) row.id row.root seen known (are_pages g image row ps t rises)).1 found, rises_ordered g image row ps t rises),
    )

pub sound_table_is_tree : SoundTableIsTree
sound_table_is_tree g image row ps system object clustered seen = table_is_tree g image row ps (table_is g image row ps system object clustered seen)
