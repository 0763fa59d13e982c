pub mod Allocated
pub mod Ranges
pub mod ReadChains
