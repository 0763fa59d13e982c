pub mod Chains
pub mod ChainLaws
pub mod Marks
pub mod Uses
