pub mod Reverse
pub mod Named
pub mod Folds
pub mod Holding
pub mod Newest
pub mod Broken
pub mod Covered
