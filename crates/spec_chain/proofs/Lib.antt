pub mod Pointers
pub mod ChainLaws
pub mod Pigeons
