-- What is known of the pages of one object alone, for the rules of trees.
use Rattle.std.specs.Prelude.{◌≡◌, ℕ, ◌<◌, IsTrue}
use Rattle.spec_file.specs.declared.geometry.Geometry.{Geometry}
use Rattle.spec_file.specs.Image.{Image, page}
use Rattle.spec_file.specs.Kinds.{is_clustered}
use Rattle.spec_file.specs.CatalogRows.{CatalogRow}
use Rattle.spec_tree.specs.declared.known.Root.{Root}
use Rattle.spec_tree.specs.declared.known.PageHead.{PageHead}
use Rattle.spec_tree.specs.declared.known.Link.{Link}
use Rattle.spec_tree.specs.declared.known.IndexRow.{IndexRow}
use Rattle.spec_tree.specs.Known.{Known}
use Rattle.spec_tables.specs.Seen.{IsSeen}
use Rattle.spec_tables.specs.Heads.{head_of, link_of, index_row, index_rows}
use Rattle.spec_tables.specs.KnownPages.{root_of}

-- the object is a clustered table with this root
pub record IsRootOf (row : CatalogRow) (root : Root) : Type 0 where
  pub clustered : IsTrue (is_clustered row.kind)
  pub is : root ≡ root_of row

-- the page is seen of the object
pub record IsHeadOf (g : Geometry) (image : Image) (row : CatalogRow) (head : PageHead) : Type 0 where
  pub number : ℕ
  pub seen : IsSeen g image row number
  pub is : head ≡ head_of row.id number (page image number)

-- the link is that of such a page
pub record IsLinkOf (g : Geometry) (image : Image) (row : CatalogRow) (link : Link) : Type 0 where
  pub head : PageHead
  pub known : IsHeadOf g image row head
  pub is : link ≡ link_of head

-- the row stands on such a page, an index page
pub record IsIndexRowOf (g : Geometry) (image : Image) (row : CatalogRow) (index : IndexRow) : Type 0 where
  pub number : ℕ
  pub slot : ℕ
  pub seen : IsSeen g image row number
  pub stands : slot < index_rows (page image number)
  pub is : index ≡ index_row row.id number (page image number) slot

-- what is known of the object
abbrev pub known_of_object : Geometry → Image → CatalogRow → Known
known_of_object g image row = record {
  roots = IsRootOf row;
  pages = IsHeadOf g image row;
  links = IsLinkOf g image row;
  rows = IsIndexRowOf g image row;
}
