pub mod Catalog
pub mod Inserted
pub mod Packed
pub mod Parts
pub mod Passes
pub mod Placed
pub mod Ranges
