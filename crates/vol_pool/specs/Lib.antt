pub mod Cells
pub mod Reading
pub mod Writing
pub mod Changed
