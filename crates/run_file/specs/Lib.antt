pub mod Stops
pub mod Sources
pub mod Opening
pub mod Log
