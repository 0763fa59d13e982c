pub mod Search
pub mod SinglePages
pub mod Chains
pub mod ObjectPages
pub mod Freeing
pub mod Objects
