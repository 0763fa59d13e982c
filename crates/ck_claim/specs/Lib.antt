pub mod Shown
pub mod Rule
