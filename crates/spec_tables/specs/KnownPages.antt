-- What is known of the pages of an image: what the rules of trees speak of.
use Rattle.std.specs.Prelude.{◌≡◌, ℕ, ◌<◌, IsTrue}
use Rattle.spec_file.specs.declared.geometry.Geometry.{Geometry}
use Rattle.spec_file.specs.Image.{Image, page}
use Rattle.spec_file.specs.Kinds.{is_clustered}
use Rattle.spec_file.specs.CatalogRows.{CatalogRow}
use Rattle.spec_chain.specs.Chains.{IsObject}
use Rattle.spec_tree.specs.declared.known.Root.{Root}
use Rattle.spec_tree.specs.declared.known.PageHead.{PageHead}
use Rattle.spec_tree.specs.declared.known.Link.{Link}
use Rattle.spec_tree.specs.declared.known.IndexRow.{IndexRow}
use Rattle.spec_tree.specs.Known.{Known}
use Rattle.spec_tables.specs.Seen.{IsSeen}
use Rattle.spec_tables.specs.Heads.{head_of, link_of, index_row, index_rows}

-- the root of an object's tree
abbrev pub root_of : CatalogRow → Root
root_of row = record { object = record { 0 = row.id }; page = record { 0 = row.root } }

-- the catalog has the clustered table
pub record IsRootIn (image : Image) (root : Root) : Type 0 where
  pub row : CatalogRow
  pub object : IsObject image row
  pub clustered : IsTrue (is_clustered row.kind)
  pub is : root ≡ root_of row

-- the page is seen of an object of the catalog
pub record IsHeadIn (g : Geometry) (image : Image) (s : PageHead) : Type 0 where
  pub row : CatalogRow
  pub number : ℕ
  pub object : IsObject image row
  pub seen : IsSeen g image row number
  pub is : s ≡ head_of row.id number (page image number)

-- the link is that of a page that is seen
pub record IsLinkIn (g : Geometry) (image : Image) (l : Link) : Type 0 where
  pub head : PageHead
  pub known : IsHeadIn g image head
  pub is : l ≡ link_of head

-- the row stands on an index page that is seen
pub record IsIndexRowIn (g : Geometry) (image : Image) (c : IndexRow) : Type 0 where
  pub row : CatalogRow
  pub number : ℕ
  pub slot : ℕ
  pub object : IsObject image row
  pub seen : IsSeen g image row number
  pub stands : slot < index_rows (page image number)
  pub is : c ≡ index_row row.id number (page image number) slot

-- what is known of an image
abbrev pub known_of_image : Geometry → Image → Known
known_of_image g image = record {
  roots = IsRootIn image;
  pages = IsHeadIn g image;
  links = IsLinkIn g image;
  rows = IsIndexRowIn g image;
}
