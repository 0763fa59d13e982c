pub mod Rows
pub mod Slots
pub mod PageTest
pub mod Changes
pub mod Order
