pub mod Creates
pub mod Drops
