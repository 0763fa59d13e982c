pub mod Errors
pub mod System
pub mod Maps
pub mod Pages
pub mod Chains
pub mod Allocation
pub mod Text
