pub mod Starts
pub mod Puts
pub mod Views
pub mod Sizes
pub mod Faults
