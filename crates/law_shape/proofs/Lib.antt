pub mod Allowed
pub mod Begins
pub mod Ends
pub mod Items
pub mod Marking
pub mod Owed
pub mod Parts
pub mod Shaped
