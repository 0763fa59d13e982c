pub mod Examples
pub mod Keeps
pub mod Unheld
