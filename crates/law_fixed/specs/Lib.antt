pub mod Widths
pub mod CheckTurns
pub mod Laws
