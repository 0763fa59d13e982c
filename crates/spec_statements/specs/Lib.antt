pub mod Objects
pub mod Statements
