pub mod Limits
pub mod Refusals
pub mod Plans
pub mod Parts
