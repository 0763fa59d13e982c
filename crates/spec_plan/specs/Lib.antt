pub mod Planned
pub mod Refusals
pub mod Reading
pub mod Rows
pub mod Changes
