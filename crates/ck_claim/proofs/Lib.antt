pub mod Counts
pub mod Views
pub mod Moves
pub mod Laws
