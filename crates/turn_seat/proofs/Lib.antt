pub mod Words
pub mod Views
pub mod Turns
pub mod Moves
pub mod Prefixes
