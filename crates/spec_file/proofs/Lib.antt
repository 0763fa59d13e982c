pub mod NameLaws
pub mod ImageLaws
pub mod PlacesLaws
pub mod EntryLaws
pub mod CatalogLaws
