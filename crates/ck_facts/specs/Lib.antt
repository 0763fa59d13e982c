pub mod Sizes
pub mod Maps
pub mod MapOf
pub mod Owners
pub mod Facts
pub mod Tested
pub mod PageUses
pub mod OwnedBy
