pub mod Pages
pub mod Marking
pub mod Walks
