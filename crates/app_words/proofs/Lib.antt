pub mod Least
pub mod Counts
