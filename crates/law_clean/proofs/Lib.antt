pub mod CatalogIds
pub mod ObjectTrees
pub mod KnownParts
pub mod CleanParts
pub mod NamedPages
